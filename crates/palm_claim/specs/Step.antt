-- When a step is right, and when a claim is reached. Certificates and proofs share it: a step of a certificate is one where
-- nothing is given.
use Rattle.std.specs.Prelude.{◌≡◌, ℕ, ℤ, pos, ◌-◌, Some, List, [], map, Contains, slice_get, slice_index_or}
use Rattle.palm_base.specs.declared.terms.Pair.{Pair}
use Rattle.palm_book.specs.Book.{Contents, initial_of}
use Rattle.palm_book.specs.declared.book.BookCon.{BookCon}
use Rattle.palm_model.specs.Domains.{Has, without}
use Rattle.palm_model.specs.Support.{LacksSupport}
use Rattle.palm_claim.specs.declared.ground.Ground.{Ground}
use Rattle.palm_claim.specs.declared.ground.Ground.TheVariants.{By, Assumed, OfLemma}
use Rattle.palm_claim.specs.declared.verdict.Claim.{Claim}
use Rattle.palm_claim.specs.declared.verdict.Claim.TheVariants.{Gone, Conflict}

-- the pair that the step with the number proved
abbrev pub pair_at : List Pair → ℕ → Pair
pair_at proved k = slice_index_or proved (k - 1) (record { var = 0; value = pos 0 })

-- the pairs that the steps with the numbers proved
abbrev pub pairs_at : List Pair → List ℕ → List Pair
pairs_at proved reasons = map (pair_at proved) reasons

-- behind steps that proved these pairs, a step is right: a listed constraint has the name, and within the declared domains
-- without the pairs of the reasons the pair has no support in some part of it. A constraint that is not over the pair's
-- variable has no such part
pub record IsRight (book : Contents) (proved : List Pair) (pair : Pair) (by : List ℕ) (reasons : List ℕ) : Type 0 where
  pub owner : BookCon
  pub listed : Contains book.constraints owner
  pub named : owner.name ≡ by
  pub lacks : LacksSupport (without (initial_of book) (pairs_at proved reasons)) owner.con pair.var pair.value

-- ---- what is given besides the listed constraints

-- the pairs that are assumed, and those of each lemma that was proved
pub record Given : Type 0 where
  pub pairs : List Pair
  pub lemmas : List (List Pair)

abbrev pub nothing : Given
nothing = record { pairs = []; lemmas = [] }

-- an assumed pair gives the variable another value
pub record IsAssumed (pairs : List Pair) (pair : Pair) : Type 0 where
  pub other : Pair
  pub given : Contains pairs other
  pub var : other.var ≡ pair.var
  pub value : other.value ≡ pair.value → ⊥

-- the pair is one of the lemma with the number, counted from 1, and every other pair of that lemma is assumed
pub record IsOfLemma (given : Given) (number : ℕ) (pair : Pair) : Type 0 where
  pub pairs : List Pair
  pub stands : slice_get given.lemmas (number - 1) ≡ Some pairs
  pub among : Contains pairs pair
  pub others : (q : Pair) → Contains pairs q → (q ≡ pair → ⊥) → Contains given.pairs q

-- behind steps that proved these pairs, the step is right by its ground
abbrev pub IsRightBy : Contents → Given → List Pair → Pair → Ground → Type 0
IsRightBy book given proved pair (By name reasons) = IsRight book proved pair name reasons
IsRightBy book given proved pair Assumed = IsAssumed given.pairs pair
IsRightBy book given proved pair (OfLemma number) = IsOfLemma given number pair

-- ---- claims

-- steps have proved the pair, or every pair of the variable
abbrev pub IsReached : Contents → List Pair → Claim → Type 0
IsReached book proved (Gone pair) = Contains proved pair
IsReached book proved (Conflict x) = (v : ℤ) → Has (initial_of book) x v → Contains proved (record { var = x; value = v })
