-- The one law on reasons that the laws on events stand on.
use Rattle.std.specs.Prelude.{ℕ, ℤ}
use Rattle.palm_model.specs.Domains.{Domains}
use Rattle.palm_model.specs.Reason.{reason, WantsReason, IsReason}
use Rattle.palm_model.specs.declared.constraint.Con.{Con}

-- where a reason is wanted, the stated list is a right one
abbrev pub ReasonsAreRight : Type 0
ReasonsAreRight = (initial now : Domains) (c : Con) (x : ℕ) (v : ℤ) → WantsReason initial now c x v → IsReason initial now c x v (reason initial now c x v)
