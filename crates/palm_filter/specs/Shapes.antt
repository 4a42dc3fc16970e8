-- What a kind of constraint knows of support, whatever the domains.
use Rattle.std.specs.Prelude.{◌≡◌, ◌≢◌, ⊤, ℕ, ℤ, ◌-ℤ◌, ◌≤ℤ◌, List, Contains, Some, slice_get}
use Rattle.palm_model.specs.Constraint.{scope}
use Rattle.palm_model.specs.Domains.{Domains, Has}
use Rattle.palm_model.specs.Support.{IsSupported, LacksSupport}
use Rattle.palm_model.specs.declared.constraint.Con.{Con}
use Rattle.palm_filter.specs.declared.shape.Shape.{Shape}
use Rattle.palm_filter.specs.declared.shape.Shape.TheVariants.{Any, Convex, AlikeBut, Guarded, Apart}

-- the variable has two values
pub record HasTwo (d : Domains) (x : ℕ) : Type 0 where
  pub one : ℤ
  pub other : ℤ
  pub has_one : Has d x one
  pub has_other : Has d x other
  pub different : one ≢ other

-- the variable has another value than this number
pub record HasOther (d : Domains) (x : ℕ) (n : ℤ) : Type 0 where
  pub other : ℤ
  pub has : Has d x other
  pub different : other ≢ n

-- a value between two that have support has it too
abbrev pub IsConvex : Con → ℕ → Type 0
IsConvex c x = (d : Domains) (u v w : ℤ) → Has d x v → u ≤ℤ v → v ≤ℤ w → IsSupported d c x u → IsSupported d c x w → IsSupported d c x v

-- all values but this one have support alike
pub record AreAlikeBut (c : Con) (x : ℕ) (k : ℤ) : Type 0 where
  pub supports : (d : Domains) (v w : ℤ) → Has d x v → Has d x w → v ≢ k → w ≢ k → IsSupported d c x v → IsSupported d c x w
  pub lacks : (d : Domains) (v w : ℤ) → Has d x v → Has d x w → v ≢ k → w ≢ k → LacksSupport d c x v → LacksSupport d c x w

-- a value has support while every other variable of the constraint has two values
abbrev pub IsGuarded : Con → ℕ → Type 0
IsGuarded c x = (d : Domains) (v : ℤ) → Has d x v → ((y : ℕ) → Contains (scope c) y → y ≢ x → HasTwo d y) → IsSupported d c x v

-- each of the variables but x has another value than the one that is less than v by the number
abbrev pub LeavesFree : Domains → List ℕ → ℕ → ℤ → ℤ → Type 0
LeavesFree d vars x by v = (y : ℕ) → Contains vars y → y ≢ x → HasOther d y (v -ℤ by)

-- a value that the other variables of the constraint leave free has support
abbrev pub IsApart : Con → ℕ → ℤ → Type 0
IsApart c x by = (d : Domains) (v : ℤ) → Has d x v → LeavesFree d (scope c) x by v → IsSupported d c x v

-- what is known of the support of the values of a variable
abbrev pub IsShaped : Con → ℕ → Shape → Type 0
IsShaped c x Any = ⊤
IsShaped c x Convex = IsConvex c x
IsShaped c x (AlikeBut value) = AreAlikeBut c x value
IsShaped c x Guarded = IsGuarded c x
IsShaped c x (Apart by) = IsApart c x by

-- the same of the variable at a place of the scope
abbrev pub FitsShape : Con → ℕ → Shape → Type 0
FitsShape c place shape = (x : ℕ) → slice_get (scope c) place ≡ Some x → IsShaped c x shape
