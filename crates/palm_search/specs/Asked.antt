-- What a guide sees of the domains, and what it is asked.
use Rattle.std.specs.Prelude.{◌≡◌, ℕ, ◌≤◌, List, length, Option, None, Some, slice_get}
use Rattle.palm_base.specs.declared.terms.Pair.{Pair}
use Rattle.palm_domain.specs.Rows.{IsLeastOf, IsGreatestOf}
use Rattle.palm_model.specs.Domains.{Domains, values_of}
use Rattle.palm_guide.specs.declared.guide.ViewRow.{ViewRow}
use Rattle.palm_search.specs.declared.turn.Pick.{Pick}
use Rattle.palm_search.specs.declared.turn.Pick.TheVariants.{NoGuide, Nothing, Asked}
use Rattle.palm_search.specs.Turns.{IsOpen}

-- the row tells the number, the least and the greatest of the variable's values
pub record IsRow (d : Domains) (x : ℕ) (row : ViewRow) : Type 0 where
  pub var : row.var ≡ x
  pub count : row.count ≡ length (values_of d x)
  pub least : IsLeastOf (values_of d x) row.least
  pub greatest : IsGreatestOf (values_of d x) row.greatest

-- each row is that of the variable at its place
abbrev pub AreRows : Domains → List ViewRow → Type 0
AreRows d view = (x : ℕ) (row : ViewRow) → slice_get view x ≡ Some row → IsRow d x row

-- one row for each variable, in order
pub record IsView (d : Domains) (view : List ViewRow) : Type 0 where
  pub whole : length view ≡ length d
  pub rows : AreRows d view

-- the lowest variable with at least two values
pub record IsLowestOpen (d : Domains) (x : ℕ) : Type 0 where
  pub is_open : IsOpen d x
  pub lowest : (y : ℕ) → IsOpen d y → x ≤ y

-- what is recorded of a guide's answer
abbrev pub pick_of : Option Pair → Pick
pick_of None = Nothing
pick_of (Some p) = Asked p

-- by its own relation, the guide was asked once with the view of the domains; its answer is the pick
pub record HasAnswered {G : Type 0} (answers : G → List ViewRow → Option Pair → List ℕ → Type 0) (state : G → List ℕ) (d : Domains) (before after : G) (pick : Pick) : Type 0 where
  pub view : List ViewRow
  pub shown : IsView d view
  pub answer : Option Pair
  pub asked : answers before view answer (state after)
  pub recorded : pick ≡ pick_of answer

-- the guide is asked once where there is one, and the pick tells that there is none otherwise
abbrev pub Asks : {G : Type 0} → (G → List ViewRow → Option Pair → List ℕ → Type 0) → (G → List ℕ) → Domains → Option G → Option G → Pick → Type 0
Asks answers state d None None pick = pick ≡ NoGuide
Asks answers state d None (Some after) pick = ⊥
Asks answers state d (Some before) None pick = ⊥
Asks answers state d (Some before) (Some after) pick = HasAnswered answers state d before after pick
