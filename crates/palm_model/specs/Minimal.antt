-- Minimal sets: what a walk over constraints leaves of them, so that no member can be left out.
use Rattle.std.specs.Prelude.{◌≡◌, List, [], ◌∷◌, ◌++◌, Contains}
use Rattle.palm_base.specs.declared.terms.Cid.{Cid}
use Rattle.palm_base.specs.declared.terms.Pair.{Pair}
use Rattle.palm_model.specs.Closure.{Explains, IsConflict}
use Rattle.palm_model.specs.Domains.{Domains}
use Rattle.palm_model.specs.Log.{Active, cids_of, cons_of}

-- the constraints are a conflict
abbrev pub AreConflict : Domains → List Active → Type 0
AreConflict initial active = IsConflict initial (Contains (cons_of active))

-- the constraints explain the absence of the pair
abbrev pub DoExplain : Domains → Pair → List Active → Type 0
DoExplain initial pair active = Explains initial (Contains (cons_of active)) pair.var pair.value

-- the walk over the later constraints from the last one down leaves these of them, while all earlier ones are still there.
-- A constraint is left out where the rest has the property without it, and stays where the rest has not
pub data WalkLeaves (P : List Active → Type 0) : List Active → List Active → List Active → Type 0 where
  walked_none : (earlier : List Active) → WalkLeaves P earlier [] []
  walked_out : (earlier : List Active) (a : Active) (later left : List Active)
      → WalkLeaves P (earlier ++ a ∷ []) later left → P (earlier ++ left) → WalkLeaves P earlier (a ∷ later) left
  walked_in : (earlier : List Active) (a : Active) (later left : List Active)
      → WalkLeaves P (earlier ++ a ∷ []) later left → (P (earlier ++ left) → ⊥) → WalkLeaves P earlier (a ∷ later) (a ∷ left)

-- the constraints have the property, and these are the ids of what the walk over all of them leaves
pub record IsMinimal (P : List Active → Type 0) (active : List Active) (cids : List Cid) : Type 0 where
  pub holds : P active
  pub left : List Active
  pub walk : WalkLeaves P [] active left
  pub named : cids ≡ cids_of left

-- the minimal conflict of the constraints
abbrev pub IsMinimalConflict : Domains → List Active → List Cid → Type 0
IsMinimalConflict initial active cids = IsMinimal (AreConflict initial) active cids

-- the minimal explanation of the pair by the constraints
abbrev pub IsMinimalExplanation : Domains → List Active → Pair → List Cid → Type 0
IsMinimalExplanation initial active pair cids = IsMinimal (DoExplain initial pair) active cids
