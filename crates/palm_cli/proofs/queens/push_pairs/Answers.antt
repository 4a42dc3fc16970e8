use Rattle.std.proofs.Common.{◌≡◌, ◌++◌, ◌+◌, ◌-◌, string_bytes, flat_map, sym, ap, ◌∙◌, arith, List, ℕ}
use Rattle.palm_lang.specs.Reply.{ended}
use Rattle.palm_session.specs.Objects.{numbered, numbered_from}
use Rattle.palm_cli.specs.Generator.{pair_lines}
use Rattle.palm_cli.proofs.QueenLines.{more, text_of_each}
use Rattle.palm_cli.proofs.queens.push_pairs.Goals as goal

pub loop-first-preserved : goal.loop-first-preserved
loop-first-preserved c =
    let i = c.loop-first.first in
    more (λ j. flat_map ended (flat_map (pair_lines j) (numbered_from (j + 1) (c.args.size - j)))) _ _ _ 1 (i - 1) i _ (omega (arith, c.loop-first.auto.first)) (omega (arith, c.loop-first.auto.first))
    c.loop-first.invariant c.in_ok-push_pairs_of.ensures

pub returns : goal.returns
returns c =
    let all : c.loop-first.first - 1 ≡ c.args.size - 1 = omega (arith, c.loop-first-test.false, c.loop-first.auto.first-end c.requires.some, c.loop-first.auto.first) in
    c.loop-first.invariant
    ∙ ap (λ (n : ℕ). string_bytes c.args.text.now ++ flat_map (λ j. flat_map ended (flat_map (pair_lines j) (numbered_from (j + 1) (c.args.size - j)))) (numbered n)) all
    ∙ ap (λ (z : List ℕ). string_bytes c.args.text.now ++ z) (sym (text_of_each (λ j. flat_map (pair_lines j) (numbered_from (j + 1) (c.args.size - j))) (numbered (c.args.size - 1))))
