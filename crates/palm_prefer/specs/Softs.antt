-- The active constraints with a weight, by their places in the book.
use Rattle.std.specs.Prelude.{◌≡◌, ◌≢◌, ◌⊎◌, ◌<◌, true, List, AllPairs, Contains, slice_get, Some}
use Rattle.palm_book.specs.declared.book.BookCon.{BookCon}
use Rattle.palm_prefer.specs.declared.order.Soft.{Soft}
use Rattle.palm_prefer.specs.declared.weights.Weight.{Weight}

-- at the place an active constraint stands that has this weight
pub record IsSoftFor (constraints : List BookCon) (w : Weight) (soft : Soft) : Type 0 where
  pub con : BookCon
  pub at : slice_get constraints soft.place ≡ Some con
  pub numbered : con.number ≡ w.number
  pub active : con.active ≡ true
  pub weighs : soft.weight ≡ w.weight

-- each active constraint with one of the weights, once
pub record AreSofts (constraints : List BookCon) (weights : List Weight) (softs : List Soft) : Type 0 where
  pub sound : (soft : Soft) → Contains softs soft → (w : Weight) × Contains weights w × IsSoftFor constraints w soft
  pub whole : (w : Weight) (c : BookCon) → Contains weights w → Contains constraints c → c.number ≡ w.number → c.active ≡ true → (soft : Soft) × Contains softs soft × IsSoftFor constraints w soft
  pub apart : AllPairs (λ soft other. soft.place ≢ other.place) softs

-- by falling weight, and by rising place where weights are equal
pub record AreOrdered (constraints : List BookCon) (weights : List Weight) (softs : List Soft) : Type 0 where
  pub are : AreSofts constraints weights softs
  pub falling : AllPairs (λ soft other. (other.weight < soft.weight) ⊎ ((soft.weight ≡ other.weight) × (soft.place < other.place))) softs
