use Rattle.std.proofs.Common.{◌≡◌, ◌++◌, ◌+◌, ◌-◌, string_bytes, flat_map, sym, ap, ◌∙◌, arith, append_assoc, List, ℕ}
use Rattle.std.proofs.lemmas.Grind.{common_steps}
use Rattle.palm_lang.specs.Reply.{ended}
use Rattle.palm_session.specs.Objects.{numbered}
use Rattle.palm_cli.specs.Generator.{queen_line}
use Rattle.palm_cli.proofs.QueenLines.{more, text_of_map}
use Rattle.palm_cli.proofs.queens.push_queens.Goals as goal

pub loop-queen-preserved : goal.loop-queen-preserved
unfolding queen_line
loop-queen-preserved c =
    let i = c.loop-queen.queen-counter in
    let adds : string_bytes c.writeln.new.self ≡ string_bytes c.loop-queen.text ++ ended (queen_line c.args.size i) =
    c.in_ok-writeln.ensures.bytes ∙ ap (λ (z : List ℕ). string_bytes c.loop-queen.text ++ z) (first_of (cc, grind (arith, append_assoc), grind (arith, common_steps))) in
    more (λ j. ended (queen_line c.args.size j)) _ _ _ 1 (i - 1) i _ (omega (arith, c.loop-queen.auto.queen-counter)) (omega (arith, c.loop-queen.auto.queen-counter)) c.loop-queen.invariant adds

pub returns : goal.returns
returns c =
    let all : c.loop-queen.queen-counter - 1 ≡ c.args.size = omega (arith, c.loop-queen-test.false, c.loop-queen.auto.queen-counter-end (omega arith), c.loop-queen.auto.queen-counter) in
    c.loop-queen.invariant ∙ ap (λ (n : ℕ). string_bytes c.args.text.now ++ flat_map (λ j. ended (queen_line c.args.size j)) (numbered n)) all
    ∙ ap (λ (z : List ℕ). string_bytes c.args.text.now ++ z) (sym (text_of_map (queen_line c.args.size) (numbered c.args.size)))
