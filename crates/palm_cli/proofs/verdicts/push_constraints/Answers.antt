use Rattle.std.proofs.Common.{arith}
use Rattle.palm_cli.proofs.NameLemmas.{all_names, one_more}
use Rattle.palm_cli.proofs.verdicts.push_constraints.Goals as goal

pub loop-place-preserved : goal.loop-place-preserved
loop-place-preserved c =
    one_more _ c.loop-place.place c.constraint.result.now _ _ _ _ _ c.constraint.ensures.at c.as_slice.ensures c.loop-place.invariant c.in_ok-extend_from_slice.ensures.items
    c.in_ok-extend_from_slice-2.ensures.items

pub returns : goal.returns
returns c = all_names _ c.loop-place.place _ _ (omega arith) c.loop-place.invariant
