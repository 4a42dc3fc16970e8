use Rattle.std.proofs.Common.{◌∙◌, vec_capacity, ap, arith}
use Rattle.palm_explain.specs.Explanations.{Explanations}
use Rattle.palm_explain.proofs.Stores.{log_like, whole_like}
use Rattle.palm_explain.proofs.store.ExplainStore.declare.Goals as goal

pub invariant_of-self : goal.invariant_of-self
invariant_of-self c =
    whole_like c.self.inside.log.items c.self.inside.rows.items c.declare_values.new.rows.items c.self.inside.next (vec_capacity c.self.inside.restored) (vec_capacity c.self.inside.restored) c.self.inside.firsts c.self.inside.firsts c.self.invariant
    c.declare_values.ensures.formed c.declare_values.ensures.removals (omega arith) c.self.invariant.formed (λ d k is. (k, is, omega arith))

pub returns : goal.returns
returns c =
    ap (λ l. let v : Explanations = record { log = l; restored = c.self.inside.restored.items } in v)
    (log_like c.self.inside.log.items c.self.inside.rows.items c.declare_values.new.rows.items c.self.inside.next c.self.invariant.entered c.declare_values.ensures.formed c.declare_values.ensures.removals) ∙ c.self.view_is
