use Rattle.palm_engine.proofs.Gathering.{conflict_listed, empty_logged}
use Rattle.palm_engine.proofs.cited.Results.{on_ok}
use Rattle.palm_engine.proofs.conflicts.conflict_of.Goals as goal

pub explanations-requires : goal.explanations-requires
explanations-requires c =
    empty_logged c.args.filtering.now c.args.var c.initial_values-values.result.now c.requires.removed c.requires.empty c.initial_values-values.ensures.values

pub returns-clause-ok : goal.returns-clause-ok
returns-clause-ok c =
    on_ok c.explanations.result _ _
    (λ listed active. conflict_listed c.args.filtering.now active c.args.var c.initial_values-values.result.now c.explanations.new.out c.initial_values-values.ensures.values listed)
    c.explanations.ensures.ok
