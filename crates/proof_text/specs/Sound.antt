-- What a right step rests on, and what is asked of domains that lack its pair: they fit what is assumed, and lack the pairs
-- of the steps before it.
use Rattle.std.specs.Prelude.{◌≡◌, ℤ, ◌-◌, Some, List, Contains, slice_get, ⊤}
use Rattle.palm_base.specs.declared.terms.Pair.{Pair}
use Rattle.palm_book.specs.Book.{Contents}
use Rattle.palm_book.specs.declared.book.BookCon.{BookCon}
use Rattle.palm_model.specs.Domains.{Domains, Has}
use Rattle.palm_model.specs.declared.constraint.Con.{Con}
use Rattle.palm_claim.specs.Step.{Given, pairs_at}
use Rattle.palm_claim.specs.declared.ground.Ground.{Ground}
use Rattle.palm_claim.specs.declared.ground.Ground.TheVariants.{By, Assumed, OfLemma}

-- the domains have the assumed pairs, and no other values of their variables
pub record Fits (pairs : List Pair) (d : Domains) : Type 0 where
  pub held : (p : Pair) → Contains pairs p → Has d p.var p.value
  pub only : (p : Pair) (v : ℤ) → Contains pairs p → Has d p.var v → v ≡ p.value

-- the domains lack each of the pairs
abbrev pub LacksEach : Domains → List Pair → Type 0
LacksEach d pairs = (p : Pair) → Contains pairs p → Has d p.var p.value → ⊥

-- the domains do not have all of the pairs
abbrev pub LacksSome : Domains → List Pair → Type 0
LacksSome d pairs = ((p : Pair) → Contains pairs p → Has d p.var p.value) → ⊥

-- the step is backed: its reasons are pairs that were proved, and the constraint with the name is one of E; or the domains
-- do not have all pairs of the lemma with the number
abbrev pub IsBacked : Contents → Given → List Pair → (Con → Type 0) → Domains → Ground → Type 0
IsBacked book given proved E d (By name reasons) =
    ((p : Pair) → Contains (pairs_at proved reasons) p → Contains proved p) × ((c : BookCon) → Contains book.constraints c → c.name ≡ name → E c.con)
IsBacked book given proved E d Assumed = ⊤
IsBacked book given proved E d (OfLemma number) = (pairs : List Pair) → slice_get given.lemmas (number - 1) ≡ Some pairs → LacksSome d pairs
