use Rattle.std.proofs.Common.{◌≡◌, Bool, true, false, refl}
use Rattle.palm_base.specs.Tells.{Tells}

-- a test that answered true
pub tells_true : (P : Type 0) (b : Bool) → Tells b P → b ≡ true → P
tells_true P true t e = t
tells_true P false t e = cc

-- a test that answered false
pub tells_false : (P : Type 0) (b : Bool) → Tells b P → b ≡ false → P → ⊥
tells_false P true t e = cc
tells_false P false t e = t

-- a test by its two answers
pub tells_both : (P : Type 0) (b : Bool) → (b ≡ true → P) → (b ≡ false → P → ⊥) → Tells b P
tells_both P true h k = h refl
tells_both P false h k = k refl

-- a test of a fact that comes to the same
pub tells_same : (P Q : Type 0) (b : Bool) → (P → Q) → (Q → P) → Tells b P → Tells b Q
tells_same P Q true f g t = f t
tells_same P Q false f g t = λ q. t (g q)
