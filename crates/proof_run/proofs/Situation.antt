-- What is known between the turns of a run that writes a proof, and of a lemma of it.
use Rattle.std.specs.Prelude.{◌≡◌, ◌↔◌, ℕ, ℤ, ◌-◌, ◌<◌, ◌≤◌, true, Some, List, ◌∷◌, ◌++◌, length, map, filter, All, Contains, slice_get}
use Rattle.palm_base.specs.declared.terms.Pair.{Pair}
use Rattle.palm_base.specs.declared.terms.Cid.{Cid}
use Rattle.palm_base.specs.declared.terms.Cid.TheVariants.{Decide, Not, User}
use Rattle.palm_model.specs.Constraint.{Distinct}
use Rattle.palm_model.specs.Domains.{Has, without}
use Rattle.palm_model.specs.Event.{vars_of}
use Rattle.palm_model.specs.Log.{Active, Removal, log_pairs}
use Rattle.palm_model.specs.State.{is_user}
use Rattle.palm_model.specs.Support.{LacksSupport}
use Rattle.palm_events.specs.Scoped.{HasScopedReasons}
use Rattle.palm_read.specs.Words.{spaced}
use Rattle.palm_book.specs.Book.{Contents, initial_of, user_at, user_name}
use Rattle.palm_book.specs.declared.book.BookCon.{BookCon}
use Rattle.palm_claim.specs.Step.{Given, IsAssumed, IsOfLemma, pairs_at}
use Rattle.palm_claim.specs.declared.ground.Ground.{Ground}
use Rattle.palm_claim.specs.declared.ground.Ground.TheVariants.{By, Assumed, OfLemma}
use Rattle.palm_cert.specs.Certificate.{numbers_of}
use Rattle.palm_search.specs.Kept.{IsSearching}
use Rattle.palm_search.specs.Turns.{SearchState}
use Rattle.proof_run.specs.Lemma.{held_decisions, lemma_of, step_words}

-- ---- lemmas that were written

-- a lemma: its pairs, and the users that it uses
pub record LemmaData : Type 0 where
  pub pairs : List Pair
  pub users : List Cid

-- the lemma of a flat conflict
abbrev pub lemma_data : SearchState → List Cid → LemmaData
lemma_data s conflict = record { pairs = held_decisions s.decisions conflict; users = filter is_user conflict }

-- the negation of the pair was given by a lemma: it has the pair, its other pairs are decided and held by the justification,
-- and its users are those of the justification
pub record IsGivenBy (undone : List Pair) (lemmas : List LemmaData) (decisions : List Pair) (a : Active) (p : Pair) : Type 0 where
  pub lemma : LemmaData
  pub positive : 1 ≤ lemma_of undone p
  pub stands : slice_get lemmas (lemma_of undone p - 1) ≡ Some lemma
  pub among : Contains lemma.pairs p
  pub others : (q : Pair) → Contains lemma.pairs q → (q ≡ p → ⊥) → Contains a.justification (Decide q.var) × Contains decisions q
  pub users : (c : Cid) → is_user c ≡ true → Contains lemma.users c ↔ Contains a.justification c

-- each active negation was given by a lemma, and there is one lemma for each pair that was undone
pub record AreGiven (undone : List Pair) (lemmas : List LemmaData) (s : SearchState) : Type 0 where
  pub each : (a : Active) (p : Pair) → Contains s.engine.active a → a.cid ≡ Not p → IsGivenBy undone lemmas s.decisions a p
  pub as_many : length lemmas ≡ length undone

-- what holds of the state between two turns, where these pairs were undone by these lemmas: the active constraints of users
-- are constraints of the book
pub record IsArguing (book : Contents) (undone : List Pair) (lemmas : List LemmaData) (s : SearchState) : Type 0 where
  pub searching : IsSearching s
  pub scoped : HasScopedReasons s.engine
  pub initial : s.engine.initial ≡ initial_of book
  pub users : (a : Active) → Contains s.engine.active a → is_user a.cid ≡ true → (c : BookCon) × Contains book.constraints c × (c.active ≡ true) × (a ≡ user_at c)
  pub given : AreGiven undone lemmas s

-- ---- a lemma that is written

-- what is given to its steps
abbrev pub given_by : List Pair → List LemmaData → Given
given_by pairs lemmas = record { pairs = pairs; lemmas = map (λ l. l.pairs) lemmas }

-- why a step takes its pair out, in the words of a proof
abbrev pub why_of : Contents → List Pair → Cid → List ℕ → Ground
why_of book undone (Decide x) numbers = Assumed
why_of book undone (Not p) numbers = OfLemma (lemma_of undone p)
why_of book undone (User n) numbers = By (user_name book.constraints (User n)) numbers

-- the numbers are those of earlier steps
abbrev pub AreBelow : List Removal → List ℕ → Type 0
AreBelow earlier numbers = All (λ k. (1 ≤ k) × (k ≤ length earlier)) numbers

-- a step behind earlier ones: it is by an active constraint of the book, in which its pair lacks support as soon as the pairs
-- of its reasons are gone; by a decision among the pairs, on another value; or by the negation that a lemma gave
pub data IsStepOf (book : Contents) (undone : List Pair) (lemmas : List LemmaData) (pairs : List Pair) (steps earlier : List Removal) (r : Removal) : Type 0 where
  by_user : (c : BookCon) → Contains book.constraints c → c.active ≡ true → r.by ≡ User c.number
      → LacksSupport (without (initial_of book) (pairs_at (log_pairs earlier) (numbers_of steps r.reasons))) c.con r.pair.var r.pair.value
      → AreBelow earlier (numbers_of steps r.reasons) → IsStepOf book undone lemmas pairs steps earlier r
  by_decision : (x : ℕ) → r.by ≡ Decide x → IsAssumed pairs r.pair → IsStepOf book undone lemmas pairs steps earlier r
  by_lemma : (p : Pair) (lemma : LemmaData) → r.by ≡ Not p → 1 ≤ lemma_of undone p → slice_get lemmas (lemma_of undone p - 1) ≡ Some lemma
      → IsOfLemma (given_by pairs lemmas) (lemma_of undone p) r.pair → IsStepOf book undone lemmas pairs steps earlier r

-- a step is by the user, or by the negation of a lemma that uses it
pub data IsUsedIn (undone : List Pair) (lemmas : List LemmaData) (steps : List Removal) (number : ℕ) : Type 0 where
  in_step : (r : Removal) → Contains steps r → r.by ≡ User number → IsUsedIn undone lemmas steps number
  in_lemma : (r : Removal) (p : Pair) (lemma : LemmaData) → Contains steps r → r.by ≡ Not p → slice_get lemmas (lemma_of undone p - 1) ≡ Some lemma
      → Contains lemma.users (User number) → IsUsedIn undone lemmas steps number

-- the lemma of these pairs and steps, by which x is emptied and which uses these users
pub record IsRightLemma (book : Contents) (undone : List Pair) (lemmas : List LemmaData) (pairs : List Pair) (steps : List Removal) (x : ℕ) (users : List Cid) : Type 0 where
  pub exists : x < length book.variables
  pub assumed : (p : Pair) → Contains pairs p → Has (initial_of book) p.var p.value
  pub apart : Distinct (vars_of pairs)
  pub proved : (r : Removal) → Contains steps r → Has (initial_of book) r.pair.var r.pair.value
  pub right : (earlier : List Removal) (r : Removal) (later : List Removal) → steps ≡ earlier ++ r ∷ later → IsStepOf book undone lemmas pairs steps earlier r
  pub few : length steps ≤ 4294967295
  pub short : (r : Removal) → Contains steps r → length (spaced (step_words book undone r.pair r.by (numbers_of steps r.reasons))) ≤ 65536
  pub wiped : (v : ℤ) → Has (initial_of book) x v → Contains (log_pairs steps) (record { var = x; value = v })
  pub used : (number : ℕ) → Contains users (User number) ↔ IsUsedIn undone lemmas steps number
