use Rattle.std.proofs.Common.{◌<◌, length, inl, inr, subst, arith}
use Rattle.filter_linear.proofs.Shapes.{convex_answers, guarded_answers}
use Rattle.filter_linear.proofs.linear.LinearFilterFilter.shape.Goals as goal

pub returns-in-Ne : goal.returns-in-Ne
returns-in-Ne c =
    guarded_answers c.self.inside.rule c.args.self.now c.self.view_is c.self.invariant.1.0 c.self.invariant.1.1 c.args._place c.in-Ne.is
    (subst (λ vars. 1 < length vars) c.self.invariant.0 (omega (arith, c.if-len-gt1.true, c.len.ensures)))

pub returns-in-Eq : goal.returns-in-Eq
returns-in-Eq c =
    convex_answers c.self.inside.rule c.args.self.now c.self.view_is c.self.invariant.1.0 c.self.invariant.1.1 c.args._place
    (λ e. elim c.in-Eq.is [ inl o ↦ cc | inr (inl o) ↦ cc | inr (inr (inl o)) ↦ cc | inr (inr (inr (inl o))) ↦ cc | inr (inr (inr (inr o))) ↦ cc ])
