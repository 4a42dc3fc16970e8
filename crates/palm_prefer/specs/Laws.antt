-- What is true of each conflict that is told.
use Rattle.std.specs.Prelude.{◌≡◌, ◌<◌, ℕ, List, [], ◌∷◌, map, length, remove, Contains}
use Rattle.palm_base.specs.declared.terms.Cid.{Cid}
use Rattle.palm_book.specs.Book.{Contents, active_of, initial_of}
use Rattle.palm_model.specs.Closure.{IsSolution}
use Rattle.palm_model.specs.Domains.{Assignment}
use Rattle.palm_model.specs.Log.{Active, cids_of, cons_of}
use Rattle.palm_model.specs.Minimal.{AreConflict}
use Rattle.palm_prefer.specs.declared.answer.Preferred.{Preferred}
use Rattle.palm_prefer.specs.declared.answer.Preferred.TheVariants.{Hard, Kept}

-- these are the ids of active constraints that are a conflict and have no common solution; without any one of them the
-- others are no conflict
pub record IsTight (book : Contents) (conflict : List Cid) : Type 0 where
  pub members : List Active
  pub named : conflict ≡ cids_of members
  pub within : (a : Active) → Contains members a → Contains (active_of book) a
  pub holds : AreConflict (initial_of book) members
  pub unsolved : (a : Assignment) → IsSolution (initial_of book) (Contains (cons_of members)) a → ⊥
  pub needed : (place : ℕ) → place < length members → AreConflict (initial_of book) (remove members place) → ⊥

-- the conflicts that are told
abbrev pub conflicts_of : Preferred → List (List Cid)
conflicts_of (Hard conflict) = conflict ∷ []
conflicts_of (Kept keep left) = map (λ out. out.conflict) left
