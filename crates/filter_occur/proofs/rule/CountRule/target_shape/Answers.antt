use Rattle.std.proofs.Common.{inl, inr}
use Rattle.filter_occur.proofs.Shapes.{target_convex}
use Rattle.filter_occur.proofs.rule.CountRule.target_shape.Goals as goal

pub returns-in-Lt : goal.returns-in-Lt
returns-in-Lt c x target =
    let o = c.args.self.now in
    target_convex o.value o.vars o.op o.target c.requires x target
    (λ e. elim c.in-Lt.is [ inl s ↦ cc | inr (inl s) ↦ cc | inr (inr (inl s)) ↦ cc | inr (inr (inr s)) ↦ cc ])
    (λ e. elim c.in-Lt.is [ inl s ↦ cc | inr (inl s) ↦ cc | inr (inr (inl s)) ↦ cc | inr (inr (inr s)) ↦ cc ])
