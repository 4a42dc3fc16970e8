use Rattle.std.proofs.Common.{ap, ◌∙◌}
use Rattle.palm_engine.specs.Reasons.{values_in}
use Rattle.palm_engine.proofs.Spanning.{values_cut}
use Rattle.palm_engine.proofs.reasons.values_in.Goals as goal

pub returns-clause-values : goal.returns-clause-values
returns-clause-values c =
    values_cut c.initial_values-values.result.now c.args.interval.now c.min-end.result c.min.result c.min-end.ensures c.min.ensures
    ∙ ap (λ vs. values_in vs c.args.interval.now) c.initial_values-values.ensures.values
