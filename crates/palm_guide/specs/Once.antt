-- Objects whose calls have one outcome.
use Rattle.std.specs.Prelude.{◌≡◌, ℕ, List, Option}
use Rattle.palm_base.specs.declared.terms.Pair.{Pair}
use Rattle.palm_guide.specs.declared.guide.ViewRow.{ViewRow}

-- there is one answer to a view, and one state is left after it
abbrev pub AnswersOnce : {S : Type 0} → (S → List ViewRow → Option Pair → List ℕ → Type 0) → Type 0
AnswersOnce {S} answers = (guide : S) (view : List ViewRow) (a b : Option Pair) (s t : List ℕ) → answers guide view a s → answers guide view b t → (a ≡ b) × (s ≡ t)

-- one state is left after a conflict
abbrev pub HearsOnce : {S : Type 0} → (S → List ℕ → List ℕ → Type 0) → Type 0
HearsOnce {S} hears = (guide : S) (conflict s t : List ℕ) → hears guide conflict s → hears guide conflict t → s ≡ t
