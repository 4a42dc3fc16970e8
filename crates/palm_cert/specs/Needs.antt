-- What is known of a log before its certificate is written, and what may be asked of it.
use Rattle.std.specs.Prelude.{◌≡◌, ℕ, ◌-◌, ◌<◌, ◌≤◌, Bool, List, length, map, flat_map, take, drop, All, Contains, Some, slice_get, nat_eq}
use Rattle.std.specs.List.{list_any}
use Rattle.palm_base.specs.declared.terms.Pair.{Pair}
use Rattle.palm_base.specs.declared.terms.Cid.{Cid}
use Rattle.palm_base.specs.declared.terms.Cid.TheVariants.{Decide, Not, User}
use Rattle.palm_book.specs.Book.{Contents, IsUser}
use Rattle.palm_claim.specs.declared.verdict.Claim.{Claim}
use Rattle.palm_claim.specs.declared.verdict.Claim.TheVariants.{Gone, Conflict}
use Rattle.palm_cert.specs.Certificate.{claim_var, claimed, is_cited, numbers_of}
use Rattle.palm_cert.specs.declared.needs.Needs.{Needs}
use Rattle.palm_explain.specs.Explanations.{IsLinked, reasons_of}
use Rattle.palm_explain.specs.Needed.{AreNeeded}
use Rattle.palm_model.specs.Log.{Removal, log_pairs}
use Rattle.palm_model.specs.declared.constraint.Term.{Term}
use Rattle.palm_model.specs.State.{EngineState, IsEmptyAt, present}

-- the claim holds of the state: its pair was removed, or its variable has no value
abbrev pub CanClaim : EngineState → Claim → Type 0
CanClaim s (Gone pair) = Contains (log_pairs s.log) pair
CanClaim s (Conflict x) = IsEmptyAt (present s) x

-- the removal is of a variable of the book, and by a constraint that is named so
pub record IsOfBook (book : Contents) (By : Cid → Type 0) (r : Removal) : Type 0 where
  pub variable : r.pair.var < length book.variables
  pub by : By r.by

-- the name is that of a user's constraint
abbrev pub IsNumbered : Cid → Type 0
IsNumbered (Decide x) = ⊥
IsNumbered (Not p) = ⊥
IsNumbered (User n) = Unit {0}

-- for each constraint, whether one of the removals is by it
abbrev pub cites_of : Contents → List Removal → List Bool
cites_of book rs = map (is_cited rs) book.constraints

-- the removals at these places
abbrev pub removals_at : List Removal → List ℕ → List Removal
removals_at log places = flat_map (λ place. take 1 (drop place log)) places

-- what the claim needs of the book and of a log of its constraints
pub record AreNeeds (book : Contents) (log : List Removal) (claim : Claim) (needs : Needs) : Type 0 where
  pub linked : IsLinked log
  pub logged : All (IsOfBook book (IsUser book)) log
  pub variable : claim_var claim < length book.variables
  pub steps : AreNeeded log (claimed book claim) needs.steps.items
  pub cited : needs.cited.items ≡ cites_of book (removals_at log needs.steps.items)

-- the places of the removals that some pairs need
pub record AreSteps (log : List Removal) (places : List ℕ) : Type 0 where
  pub pairs : List Pair
  pub linked : IsLinked log
  pub needed : AreNeeded log pairs places

-- the place is that of one of the steps, in a log that is of the book
pub record IsStepAt (book : Contents) (By : Cid → Type 0) (log : List Removal) (places : List ℕ) (place : ℕ) : Type 0 where
  pub steps : AreSteps log places
  pub logged : All (IsOfBook book By) log
  pub within : place < length log
  pub step : Contains places place

-- the step with the number, counted from 1, proved the pair
pub record IsNumberOf (steps : List Removal) (k : ℕ) (p : Pair) : Type 0 where
  pub positive : 1 ≤ k
  pub at : slice_get (log_pairs steps) (k - 1) ≡ Some p

-- the numbers of the steps that proved the reasons of the removal at a place
abbrev pub numbers_at : List ℕ → List Removal → ℕ → List ℕ
numbers_at places log place = numbers_of (removals_at log places) (reasons_of log place)

-- whether the variable is one of these
abbrev pub has_var : List ℕ → ℕ → Bool
has_var vars x = list_any (λ y. nat_eq y x) vars

-- whether it is the variable of one of the terms
abbrev pub has_term : List Term → ℕ → Bool
has_term terms x = list_any (λ t. nat_eq t.var x) terms
