-- What is kept of a proof besides what it lists, and what is answered to a phrase.
use Rattle.std.specs.Prelude.{◌≡◌, ℕ, ℤ, ◌+◌, ◌<◌, ◌≤◌, ◌⊎◌, Bool, true, false, Option, Some, None, List, [], ◌∷◌, ◌++◌, length, All, Contains, slice_get, slice_index_or}
use Rattle.palm_base.specs.declared.terms.Pair.{Pair}
use Rattle.palm_book.specs.Book.{Contents, initial_of}
use Rattle.palm_book.specs.Named.{IsDeclared, IsPair}
use Rattle.palm_model.specs.Domains.{Has}
use Rattle.palm_claim.specs.Taking.{TakesStatement}
use Rattle.palm_claim.specs.declared.ground.Ground.{Ground}
use Rattle.palm_claim.specs.declared.statement.Statement.TheVariants.{Phrase}
use Rattle.palm_claim.specs.declared.verdict.Cause.{Cause}
use Rattle.proof_text.specs.Draft.{Draft}
use Rattle.proof_text.specs.Verdict.{proofs}
use Rattle.proof_text.specs.declared.lemma.Lemma.{Lemma}
use Rattle.proof_text.specs.declared.statement.ProofPhrase.{ProofPhrase}
use Rattle.proof_text.specs.declared.statement.ProofPhrase.TheVariants.{Step}
use Rattle.palm_listed.specs.declared.listed.Listed.{Listed}
use Rattle.text_check.specs.Kept.{AreKept}
use Rattle.proof_check.specs.declared.body.ProofBody.{ProofBody}

-- what the lines have said so far
abbrev pub said : Contents → ProofBody → Draft
said book body = record { stage = body.stage; book = book; lemmas = body.lemmas; begun = body.begun; proved = body.proved.items }

-- ---- what is assumed, by variables

-- the value that is assumed for the variable
abbrev pub assumed_at : List (Option ℤ) → ℕ → Option ℤ
assumed_at assumed x = slice_index_or assumed x None

-- these pairs are assumed, and no others
pub record AreAssumed (pairs : List Pair) (assumed : List (Option ℤ)) : Type 0 where
  pub each : (p : Pair) → Contains pairs p → assumed_at assumed p.var ≡ Some p.value
  pub only : (x : ℕ) (v : ℤ) → assumed_at assumed x ≡ Some v → Contains pairs (record { var = x; value = v })

-- another value is assumed for the pair's variable
pub record IsOther (assumed : List (Option ℤ)) (pair : Pair) : Type 0 where
  pub other : ℤ
  pub given : assumed_at assumed pair.var ≡ Some other
  pub differs : other ≡ pair.value → ⊥

-- the pair is one of these, and each other of them is assumed
pub record IsByOthers (assumed : List (Option ℤ)) (pairs : List Pair) (pair : Pair) : Type 0 where
  pub among : Contains pairs pair
  pub others : (q : Pair) → Contains pairs q → (q ≡ pair → ⊥) → assumed_at assumed q.var ≡ Some q.value

-- this is assumed for the variable, and for the others what was
pub record Puts (before after : List (Option ℤ)) (x : ℕ) (value : Option ℤ) : Type 0 where
  pub long : length after ≡ length before
  pub here : assumed_at after x ≡ value
  pub others : (y : ℕ) → (y ≡ x → ⊥) → assumed_at after y ≡ assumed_at before y

-- ---- what holds between lines

-- the lemma names constraints with numbers below the room, and lemmas of which so many stand before it
pub record IsBehind (room count : ℕ) (l : Lemma) : Type 0 where
  pub constraints : All (λ n. n < room) l.constraints
  pub lemmas : All (λ k. (1 ≤ k) × (k ≤ count)) l.lemmas

-- each lemma names lemmas before it
pub record AreBehind (room : ℕ) (lemmas : List Lemma) : Type 0 where
  pub each : (place : ℕ) (l : Lemma) → slice_get lemmas place ≡ Some l → IsBehind room place l

-- the pairs of the lemma begun are assumed, its steps have proved declared pairs, and each lemma names lemmas before it
pub record AreReasoned (book : Contents) (lemmas : List Lemma) (begun : Lemma) (assumed : List (Option ℤ)) (proved : List Pair) : Type 0 where
  pub declared : All (λ p. Has (initial_of book) p.var p.value) proved
  pub long : length assumed ≡ length book.variables
  pub assumes : AreAssumed begun.pairs assumed
  pub behind : AreBehind (length book.constraints + 1) lemmas
  pub last : IsBehind (length book.constraints + 1) (length lemmas) begun

abbrev pub IsReasoned : Contents → ProofBody → Type 0
IsReasoned book body = AreReasoned book body.lemmas body.begun body.assumed.items body.proved.items

-- and what was listed is kept
abbrev pub IsKept : Listed → ProofBody → Type 0
IsKept listed body = AreKept IsReasoned listed body

-- ---- what is answered

-- the lemma with one more number of a constraint, or of a lemma, that a step names
abbrev pub noting_constraint : Lemma → ℕ → Lemma
noting_constraint l n = record l { constraints = l.constraints ++ n ∷ [] }

abbrev pub noting_lemma : Lemma → ℕ → Lemma
noting_lemma l k = record l { lemmas = l.lemmas ++ k ∷ [] }

-- the draft that assumes one more pair
abbrev pub assuming : Draft → Pair → Draft
assuming d pair = record d { begun = record d.begun { pairs = d.begun.pairs ++ pair ∷ [] } }

-- the pair with the name and the value is assumed too, for whose variable nothing was; or it is not declared, or something
-- is assumed for its variable
abbrev pub AssumesOrNot : Draft → List ℕ → ℤ → Bool → Draft → Type 0
AssumesOrNot d name value true e = (pair : Pair) × IsPair d.book.variables name value pair × Has (initial_of d.book) pair.var pair.value
    × ((q : Pair) → Contains d.begun.pairs q → q.var ≡ pair.var → ⊥) × (e ≡ assuming d pair)
AssumesOrNot d name value false e = (IsDeclared d.book.variables name value → ⊥)
    ⊎ ((pair q : Pair) × IsPair d.book.variables name value pair × Contains d.begun.pairs q × (q.var ≡ pair.var))

-- what is answered to a phrase: its first cause, or that it has none, and then the draft behind it
abbrev pub TakesPhrase : Draft → ProofPhrase → Option Cause → Draft → Type 0
TakesPhrase d phrase o e = TakesStatement proofs d (Phrase phrase) o e

-- and to a step of a declared pair with this ground
abbrev pub TakesGround : Draft → Pair → Ground → Option Cause → Draft → Type 0
TakesGround d pair basis o e = (name : List ℕ) (value : ℤ) → IsPair d.book.variables name value pair → TakesPhrase d (Step name value basis) o e
