use Rattle.std.proofs.Common.{arith}
use Rattle.palm_domain.proofs.cited.Comparisons.{ge_from_is_lt}
use Rattle.palm_domain.proofs.Runs.{run_here, not_here}
use Rattle.palm_domain.proofs.places.place_in_run.Goals as goal

pub returns-then-place-values : goal.returns-then-place-values
returns-then-place-values c =
    run_here c.args.values.now c.requires.ascend c.requires.filled c.index-values-0.result c.index-values-0.is
    c.requires.gapless c.args.value c.gap-place.result (ge_from_is_lt c.args.value c.index-values-0.result c.if-lt.ensures) c.gap-place.ensures c.if-place-values.true

pub returns-else-place-values : goal.returns-else-place-values
returns-else-place-values c =
    not_here c.args.values.now c.requires.ascend c.requires.filled c.index-values-0.result c.index-values-0.is c.requires.gapless c.args.value c.gap-place.result c.gap-place.ensures (omega (arith, c.if-place-values.false))
