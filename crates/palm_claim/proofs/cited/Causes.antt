-- First causes, and lines without one: a cause is first where its condition holds and those before it do not.
use Rattle.std.proofs.Common.{inl, inr, refl}
use Rattle.palm_base.specs.First.{IsFirst, IsNone}
use Rattle.palm_claim.specs.Judging.{in_order}
use Rattle.palm_claim.specs.declared.verdict.Cause.{Cause}
use Rattle.palm_claim.specs.declared.verdict.Cause.TheVariants.{Malformed, Misdeclared, Beyond, Unproved, NotRight, NotReached}

pub first_malformed : (holds : Cause → Type 0) → holds Malformed → IsFirst holds in_order Malformed
first_malformed holds m = inl (m, refl)

pub first_misdeclared : (holds : Cause → Type 0) → (holds Malformed → ⊥) → holds Misdeclared → IsFirst holds in_order Misdeclared
first_misdeclared holds formed m = inr (formed, inl (m, refl))

pub first_beyond : (holds : Cause → Type 0) → (holds Malformed → ⊥) → (holds Misdeclared → ⊥) → holds Beyond → IsFirst holds in_order Beyond
first_beyond holds formed declared b = inr (formed, inr (declared, inl (b, refl)))

pub first_unproved : (holds : Cause → Type 0) → (holds Malformed → ⊥) → (holds Misdeclared → ⊥) → (holds Beyond → ⊥) → holds Unproved → IsFirst holds in_order Unproved
first_unproved holds formed declared within u = inr (formed, inr (declared, inr (within, inl (u, refl))))

pub first_not_right : (holds : Cause → Type 0) → (holds Malformed → ⊥) → (holds Misdeclared → ⊥) → (holds Beyond → ⊥) → (holds Unproved → ⊥) → holds NotRight → IsFirst holds in_order NotRight
first_not_right holds formed declared within proved w = inr (formed, inr (declared, inr (within, inr (proved, inl (w, refl)))))

pub first_not_reached : (holds : Cause → Type 0) → (holds Malformed → ⊥) → (holds Misdeclared → ⊥) → (holds Beyond → ⊥) → (holds Unproved → ⊥) → (holds NotRight → ⊥) → holds NotReached
    → IsFirst holds in_order NotReached
first_not_reached holds formed declared within proved right n = inr (formed, inr (declared, inr (within, inr (proved, inr (right, inl (n, refl))))))

pub without_cause : (holds : Cause → Type 0) → (holds Malformed → ⊥) → (holds Misdeclared → ⊥) → (holds Beyond → ⊥) → (holds Unproved → ⊥) → (holds NotRight → ⊥) → (holds NotReached → ⊥)
    → IsNone holds in_order
without_cause holds formed declared within proved right reached = (formed, (declared, (within, (proved, (right, (reached, tt))))))
