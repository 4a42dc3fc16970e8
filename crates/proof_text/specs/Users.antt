-- Which constraints a lemma uses, and which of a book these are.
use Rattle.std.specs.Prelude.{◌≡◌, ℕ, ◌-◌, ◌⊎◌, Some, List, [], ◌∷◌, All, Contains, slice_get, ⊤}
use Rattle.palm_base.specs.declared.terms.Cid.{Cid}
use Rattle.palm_base.specs.declared.terms.Cid.TheVariants.{User}
use Rattle.palm_book.specs.Book.{Contents, IsUser}
use Rattle.palm_book.specs.declared.book.BookCon.{BookCon}
use Rattle.palm_model.specs.declared.constraint.Con.{Con}
use Rattle.proof_text.specs.declared.lemma.Lemma.{Lemma}
use Rattle.proof_text.specs.declared.verdict.ProofVerdict.{ProofVerdict}
use Rattle.proof_text.specs.declared.verdict.ProofVerdict.TheVariants.{Accepted, Refused}

-- the lemma uses the constraint with the number, behind these lemmas: a step of it names the constraint, or a lemma that
-- uses it
pub data Uses (lemmas : List Lemma) : Lemma → ℕ → Type 0 where
  by_step : (lemma : Lemma) (number : ℕ) → Contains lemma.constraints number → Uses lemmas lemma number
  by_lemma : (lemma earlier : Lemma) (place number : ℕ) → Contains lemma.lemmas place → slice_get lemmas (place - 1) ≡ Some earlier
      → Uses lemmas earlier number → Uses lemmas lemma number

-- of the items, those that pass, in their order
abbrev pub ArePicked : {A : Type 0} → (A → Type 0) → List A → List A → Type 0
ArePicked Passes [] picked = picked ≡ []
ArePicked {A = A} Passes (item ∷ items) picked =
    (Passes item × ((rest : List A) × (picked ≡ item ∷ rest) × ArePicked Passes items rest))
    ⊎ ((Passes item → ⊥) × ArePicked Passes items picked)

-- the constraints of the book that the lemma uses, by rising number
abbrev pub AreUsed : Contents → List Lemma → Lemma → List BookCon → Type 0
AreUsed book lemmas lemma used = ArePicked (λ c. Uses lemmas lemma c.number) book.constraints used

-- a constraint of the book is one of these users
pub record IsAmong (book : Contents) (users : List Cid) (c : Con) : Type 0 where
  pub owner : BookCon
  pub listed : Contains book.constraints owner
  pub is : owner.con ≡ c
  pub user : Contains users (User owner.number)

-- the users that are accepted are constraints of the book that is
abbrev pub AreOfTheirBook : ProofVerdict → Type 0
AreOfTheirBook (Accepted book users) = All (IsUser book) users
AreOfTheirBook (Refused line cause) = ⊤
