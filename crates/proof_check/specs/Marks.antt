-- Marks by numbers, and the constraints that are marked.
use Rattle.std.specs.Prelude.{◌≡◌, ℕ, ◌+◌, ◌<◌, ◌⊎◌, Bool, true, false, Some, List, length, Contains, filter, slice_get, slice_index_or}
use Rattle.palm_book.specs.declared.book.BookCon.{BookCon}
use Rattle.proof_text.specs.Users.{Uses}
use Rattle.proof_text.specs.declared.lemma.Lemma.{Lemma}
use Rattle.proof_check.specs.declared.marks.Marks.{Marks}

abbrev pub is_marked : List Bool → ℕ → Bool
is_marked marks n = slice_index_or marks n false

abbrev pub IsMarked : List Bool → ℕ → Type 0
IsMarked marks n = is_marked marks n ≡ true

-- the constraints whose numbers are marked, in their order
abbrev pub marked_in : List Bool → List BookCon → List BookCon
marked_in marks constraints = filter (λ c. is_marked marks c.number) constraints

-- these numbers were marked too, and no others
pub record MarksMore (before after : List Bool) (These : ℕ → Type 0) : Type 0 where
  pub long : length after ≡ length before
  pub keeps : (n : ℕ) → IsMarked before n → IsMarked after n
  pub marks : (n : ℕ) → These n → IsMarked after n
  pub only : (n : ℕ) → IsMarked after n → IsMarked before n ⊎ These n

-- what the steps of the lemma name was marked too
pub record MarksNamed (before after : Marks) (lemma : Lemma) : Type 0 where
  pub constraints : MarksMore before.constraints.items after.constraints.items (Contains lemma.constraints)
  pub lemmas : MarksMore before.lemmas.items after.lemmas.items (Contains lemma.lemmas)

-- exactly the constraints are marked that the lemma uses
pub record IsUsage (lemmas : List Lemma) (lemma : Lemma) (marks : List Bool) : Type 0 where
  pub used : (n : ℕ) → IsMarked marks n → Uses lemmas lemma n
  pub all : (n : ℕ) → Uses lemmas lemma n → IsMarked marks n

-- ---- the pass over the lemmas

-- one of the first lemmas is reached, and uses the constraint
pub record IsPending (lemmas : List Lemma) (marks : List Bool) (count n : ℕ) : Type 0 where
  pub place : ℕ
  pub early : place < count
  pub reached : IsMarked marks (place + 1)
  pub lemma : Lemma
  pub stands : slice_get lemmas place ≡ Some lemma
  pub uses : Uses lemmas lemma n

-- the marks where as many lemmas are left: what is marked, or used by a lemma that is reached, is used, and what is used is
-- marked or pending
pub record IsPassed (lemmas : List Lemma) (lemma : Lemma) (marks : Marks) (count : ℕ) : Type 0 where
  pub used : (n : ℕ) → IsMarked marks.constraints.items n → Uses lemmas lemma n
  pub through : (place n : ℕ) (l : Lemma) → IsMarked marks.lemmas.items (place + 1) → slice_get lemmas place ≡ Some l → Uses lemmas l n → Uses lemmas lemma n
  pub all : (n : ℕ) → Uses lemmas lemma n → IsMarked marks.constraints.items n ⊎ IsPending lemmas marks.lemmas.items count n
