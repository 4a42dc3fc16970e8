-- Support of a value: a part's own, and a constraint's.
use Rattle.std.specs.Prelude.{◌≡◌, ℕ, ℤ, Contains}
use Rattle.palm_model.specs.Domains.{Domains, Assignment, IsWithin}
use Rattle.palm_model.specs.Part.{scope_of, Holds, parts}
use Rattle.palm_model.specs.declared.constraint.Con.{Con}
use Rattle.palm_model.specs.declared.part.Part.{Part}

-- an assignment of the part's variables inside the domains gives the variable the value and satisfies the part
pub record HasSupport (d : Domains) (p : Part) (x : ℕ) (v : ℤ) : Type 0 where
  pub assignment : Assignment
  pub within : IsWithin assignment (scope_of p) d
  pub gives : assignment x ≡ v
  pub holds : Holds p assignment

-- the value has support in every part of the constraint that is over the variable
pub record IsSupported (d : Domains) (c : Con) (x : ℕ) (v : ℤ) : Type 0 where
  pub each : (p : Part) → Contains (parts c) p → Contains (scope_of p) x → HasSupport d p x v

-- the value has no support in some part of the constraint that is over the variable
pub record LacksSupport (d : Domains) (c : Con) (x : ℕ) (v : ℤ) : Type 0 where
  pub part : Part
  pub is_part : Contains (parts c) part
  pub over : Contains (scope_of part) x
  pub lacks : HasSupport d part x v → ⊥
