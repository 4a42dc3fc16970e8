-- Which active constraints are kept where not all can be, by their weights.
use Rattle.std.specs.Prelude.{◌≡◌, ◌≢◌, ◌↔◌, ◌⊎◌, ℕ, ◌<◌, ◌==◌, Bool, true, not, ◌&&◌, List, [], ◌∷◌, ◌++◌, if◌then◌else◌, filter, map, All, AllPairs, Contains}
use Rattle.std.specs.List.{list_any}
use Rattle.palm_base.specs.declared.terms.Cid.{Cid}
use Rattle.palm_book.specs.Book.{Contents, HasNumber, initial_of, user_at}
use Rattle.palm_book.specs.declared.book.BookCon.{BookCon}
use Rattle.palm_model.specs.Domains.{Domains}
use Rattle.palm_model.specs.Event.{with_posted}
use Rattle.palm_model.specs.Log.{Active, cids_of}
use Rattle.palm_model.specs.Minimal.{AreConflict, IsMinimalConflict}
use Rattle.palm_prefer.specs.declared.answer.LeftOut.{LeftOut}
use Rattle.palm_prefer.specs.declared.answer.Preferred.{Preferred}
use Rattle.palm_prefer.specs.declared.answer.Preferred.TheVariants.{Hard, Kept}
use Rattle.palm_prefer.specs.declared.weights.Weight.{Weight}

-- the weights are of different constraints of the book
pub record AreWeights (book : Contents) (weights : List Weight) : Type 0 where
  pub different : AllPairs (λ v w. v.number ≢ w.number) weights
  pub present : All (λ w. HasNumber book w.number) weights

-- whether the constraint has a weight
abbrev pub has_weight : List Weight → BookCon → Bool
has_weight weights c = list_any (λ w. w.number == c.number) weights

-- its weight, and 0 where it has none
abbrev pub weight_of : List Weight → BookCon → ℕ
weight_of [] c = 0
weight_of (w ∷ weights) c = if w.number == c.number then w.weight else weight_of weights c

-- ---- the order of the walk

-- whether the constraint is active and has no weight
abbrev pub is_hard : List Weight → BookCon → Bool
is_hard weights c = c.active && not (has_weight weights c)

-- the active constraints without a weight, by rising number
abbrev pub hard : Contents → List Weight → List Active
hard book weights = map user_at (filter (is_hard weights) book.constraints)

-- an active constraint of the book with a weight
pub record IsSoft (book : Contents) (weights : List Weight) (c : BookCon) : Type 0 where
  pub among : Contains book.constraints c
  pub active : c.active ≡ true
  pub weighed : has_weight weights c ≡ true

-- the one weighs more than the other, or as much and has the lower number
abbrev pub GoesBefore : List Weight → BookCon → BookCon → Type 0
GoesBefore weights c d = (weight_of weights d < weight_of weights c) ⊎ ((weight_of weights c ≡ weight_of weights d) × (c.number < d.number))

-- the active constraints with a weight: by falling weight, and by rising number where weights are equal
pub record IsOrder (book : Contents) (weights : List Weight) (order : List BookCon) : Type 0 where
  pub each : (c : BookCon) → Contains order c ↔ IsSoft book weights c
  pub falling : AllPairs (GoesBefore weights) order

-- ---- the walk

-- from the first constraints on, after these were walked, those are kept, by rising number, and the others are left out:
-- each joins where it makes no conflict with those kept before it, and else is left out with the minimal conflict of these
-- and itself
pub data Walks (initial : Domains) (first : List Active) : List BookCon → List Active → List LeftOut → Type 0 where
  starts : Walks initial first [] first []
  joins : (walked : List BookCon) (c : BookCon) (kept : List Active) (left : List LeftOut)
      → Walks initial first walked kept left → (AreConflict initial (with_posted (user_at c) kept) → ⊥)
      → Walks initial first (walked ++ c ∷ []) (with_posted (user_at c) kept) left
  leaves : (walked : List BookCon) (c : BookCon) (kept : List Active) (left : List LeftOut) (conflict : List Cid)
      → Walks initial first walked kept left → IsMinimalConflict initial (with_posted (user_at c) kept) conflict
      → Walks initial first (walked ++ c ∷ []) kept (left ++ record { number = c.number; conflict = conflict } ∷ [])

-- the constraints without a weight are no conflict, and from them on the walk keeps these, and leaves the others out
pub record IsKept (book : Contents) (weights : List Weight) (keep : List Cid) (left : List LeftOut) : Type 0 where
  pub free : AreConflict (initial_of book) (hard book weights) → ⊥
  pub order : List BookCon
  pub ordered : IsOrder book weights order
  pub kept : List Active
  pub walk : Walks (initial_of book) (hard book weights) order kept left
  pub named : keep ≡ cids_of kept

-- what is preferred of the active constraints of a book, by these weights
abbrev pub IsPreferred : Contents → List Weight → Preferred → Type 0
IsPreferred book weights (Hard conflict) = IsMinimalConflict (initial_of book) (hard book weights) conflict
IsPreferred book weights (Kept keep left) = IsKept book weights keep left
