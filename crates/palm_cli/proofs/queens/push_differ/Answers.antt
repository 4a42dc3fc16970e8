use Rattle.std.proofs.Common.{◌≡◌, ◌++◌, ◌+◌, ◌-◌, [], ◌∷◌, string_bytes, flat_map, codes, ap, ◌∙◌, arith, append_assoc, List, ℕ}
use Rattle.palm_lang.specs.Reply.{ended}
use Rattle.palm_session.specs.Objects.{numbered}
use Rattle.palm_cli.specs.Generator.{queen_name, differ_line}
use Rattle.palm_cli.proofs.QueenLines.{more, on_ok_if}
use Rattle.palm_cli.proofs.queens.push_differ.Goals as goal

pub loop-queen-preserved : goal.loop-queen-preserved
loop-queen-preserved c =
    let i = c.loop-queen.queen-counter in
    let adds : string_bytes c.write.new.self ≡ string_bytes c.loop-queen.text ++ (codes " " ++ queen_name i) = c.in_ok-write.ensures.bytes in
    more (λ j. codes " " ++ queen_name j) _ _ _ 1 (i - 1) i _ (omega (arith, c.loop-queen.auto.queen-counter)) (omega (arith, c.loop-queen.auto.queen-counter)) c.loop-queen.invariant adds

pub returns : goal.returns
unfolding differ_line
returns c =
    let size = c.args.size in
    let was = string_bytes c.args.text.now in
    let names : List ℕ = flat_map (λ j. codes " " ++ queen_name j) (numbered size) in
    let all : c.loop-queen.queen-counter - 1 ≡ size = omega (arith, c.loop-queen-test.false, c.loop-queen.auto.queen-counter-end (omega arith), c.loop-queen.auto.queen-counter) in
    let lead : string_bytes c.push_str.new.self ≡ was ++ codes "add d : differ" = c.in_ok-push_str.ensures.bytes in
    let so_far : string_bytes c.loop-queen.text ≡ (was ++ codes "add d : differ") ++ names =
    c.loop-queen.invariant ∙ ap (λ (n : ℕ). string_bytes c.push_str.new.self ++ flat_map (λ j. codes " " ++ queen_name j) (numbered n)) all
    ∙ ap (λ (z : List ℕ). z ++ names) lead in
    on_ok_if (string_bytes c.push_str-2.new.self ≡ was ++ ended (differ_line size)) c.push_str-2.result (string_bytes c.push_str-2.new.self) (string_bytes c.loop-queen.text ++ (10 ∷ [])) (string_bytes c.loop-queen.text)
    c.push_str-2.ensures.bytes
    (λ h. h ∙ ap (λ (z : List ℕ). z ++ (10 ∷ [])) so_far ∙ ap (λ (z : List ℕ). z ++ (10 ∷ [])) (append_assoc was (codes "add d : differ") names)
    ∙ append_assoc was (codes "add d : differ" ++ names) (10 ∷ []))
