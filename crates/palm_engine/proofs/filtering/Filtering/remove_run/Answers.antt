use Rattle.std.proofs.Common.{◌∙◌, sym, subst}
use Rattle.palm_domain.specs.Rows.{initial_of}
use Rattle.palm_model.specs.Domains.{Has}
use Rattle.palm_model.specs.Log.{log_pairs}
use Rattle.palm_model.proofs.cited.Without.{without_has}
use Rattle.palm_explain.specs.Explanations.{Explanations}
use Rattle.palm_engine.specs.Changed.{HasLostEach}
use Rattle.palm_engine.proofs.LosingEach.{lost_log}
use Rattle.palm_engine.proofs.filtering.Filtering.remove_run.Goals as goal

pub enter_run-requires-clause-fresh : goal.enter_run-requires-clause-fresh
enter_run-requires-clause-fresh c = λ v m.
    let f = c.args.self.now in
    (without_has (initial_of f.store) (log_pairs f.log.log) c.args.var v (subst (λ d. Has d c.args.var v) c.requires.removed.present (c.requires.present v m))).1

pub returns-clause-lost : goal.returns-clause-lost
returns-clause-lost c =
    let same = lost_log _ c.args.var c.args.values.now c.lose_each.new.self c.lose_each.ensures in
    subst (λ (l : Explanations). HasLostEach (record (c.args.self.now) { log = l }) c.args.var c.args.values.now c.lose_each.new.self) (sym same) c.lose_each.ensures

pub returns-clause-logged : goal.returns-clause-logged
returns-clause-logged c = λ run is. lost_log _ c.args.var c.args.values.now c.lose_each.new.self c.lose_each.ensures ∙ c.in_ok-enter_run.ensures.ok run is
