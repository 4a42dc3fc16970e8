use Rattle.std.proofs.Common.{subst}
use Rattle.palm_explain.specs.Explanations.{Explanations, IsLinked}
use Rattle.palm_explain.proofs.Reasons.{entered_linked}
use Rattle.palm_explain.proofs.store.ExplainStore.removals.Goals as goal

pub returns-clause-linked : goal.returns-clause-linked
returns-clause-linked c = subst (λ (v : Explanations). IsLinked v.log) c.self.view_is (entered_linked c.self.inside.log.items c.self.inside.rows.items c.self.inside.next c.self.invariant.entered)
