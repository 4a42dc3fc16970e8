use Rattle.std.proofs.Common.{◌≡◌, ◌++◌, ◌+◌, ◌-◌, string_bytes, flat_map, sym, ap, ◌∙◌, arith, List, ℕ}
use Rattle.palm_lang.specs.Reply.{ended}
use Rattle.palm_session.specs.Objects.{numbered_from}
use Rattle.palm_cli.specs.Generator.{pair_lines}
use Rattle.palm_cli.proofs.QueenLines.{more, text_of_each}
use Rattle.palm_cli.proofs.queens.push_pairs_of.Goals as goal

pub loop-second-preserved : goal.loop-second-preserved
loop-second-preserved c =
    let j = c.loop-second.second in
    more (λ i. flat_map ended (pair_lines c.args.first i)) _ _ _ (c.args.first + 1) (j - (c.args.first + 1)) j _ (omega (arith, c.loop-second.auto.second)) (omega (arith, c.loop-second.auto.second))
    c.loop-second.invariant c.in_ok-push_pair.ensures

pub returns : goal.returns
returns c =
    let all : c.loop-second.second - (c.args.first + 1) ≡ c.args.size - c.args.first =
    omega (arith, c.loop-second-test.false, c.loop-second.auto.second-end (omega (arith, c.requires.first)), c.loop-second.auto.second, c.requires.first) in
    c.loop-second.invariant
    ∙ ap (λ (n : ℕ). string_bytes c.args.text.now ++ flat_map (λ i. flat_map ended (pair_lines c.args.first i)) (numbered_from (c.args.first + 1) n)) all
    ∙ ap (λ (z : List ℕ). string_bytes c.args.text.now ++ z) (sym (text_of_each (pair_lines c.args.first) (numbered_from (c.args.first + 1) (c.args.size - c.args.first))))
