-- What may be told of explanations and conflicts, and of their certificates.
use Rattle.std.specs.Prelude.{◌≡◌, ℕ, ℤ, ◌<◌, ◌<ℤ◌, ◌⊎◌, true, false, List, ◌++◌, All, length, Contains, Option, Some, None}
use Rattle.palm_base.specs.declared.terms.Cid.{Cid}
use Rattle.palm_base.specs.declared.terms.Cid.TheVariants.{User}
use Rattle.palm_model.specs.Closure.{Explains, IsConflict, IsSolution}
use Rattle.palm_model.specs.Domains.{Assignment, Domains, Has}
use Rattle.palm_model.specs.Trial.{listed, value_count}
use Rattle.palm_model.specs.Log.{Active, IsActive, Named, cids_of, cons_of}
use Rattle.palm_cert.specs.Accepted.{IsAccepted}
use Rattle.palm_claim.specs.declared.verdict.Claim.TheVariants.{Gone, Conflict as ConflictClaim}
use Rattle.palm_book.specs.Book.{Contents, initial_of, active_of, name_of}
use Rattle.palm_book.specs.Named.{IsVariable}
use Rattle.palm_lang.specs.Reply.{fixed_text, found_line, spent_best_line, spent_line}
use Rattle.palm_lang.specs.declared.reply.Fixed.TheVariants.{Contradiction, Paused, Present, Consistent, End}
use Rattle.palm_lang.specs.declared.reply.Lead.TheVariants.{Because, Conflict as ConflictLead, NoSolution as NoSolutionLead, HardConflict}
use Rattle.palm_model.specs.Minimal.{AreConflict, DoExplain, IsMinimalConflict, IsMinimalExplanation}
use Rattle.palm_search.specs.Measure.{most_turns}
use Rattle.palm_search.specs.declared.ending.SearchEnd.{SearchEnd}
use Rattle.proof_run.specs.Accepted.{IsAcceptedAtNone}
use Rattle.palm_repair.specs.Sets.{most_repair_turns}
use Rattle.palm_prefer.specs.Laws.{IsTight}
use Rattle.palm_prefer.specs.declared.answer.LeftOut.{LeftOut}
use Rattle.palm_prefer.specs.declared.answer.Preferred.TheVariants.{Kept}
use Rattle.palm_session.specs.Answers.{end_text, least_text, preferred_text, users_text}
use Rattle.palm_session.specs.declared.request.Procedure.{Procedure}
use Rattle.palm_session.specs.declared.request.Procedure.TheVariants.{Dbt, Repair, Proof, Least}
use Rattle.palm_session.specs.Effects.{Telling, InShort, InFull, AsLeast, SoFar, with_search}
use Rattle.palm_session.specs.Requests.{budget_of}
use Rattle.palm_session.specs.State.{SessionState, AreDomains, IsContradiction, has_empty}

-- active constraints of the book, because of which the variable has the value in no closed domains
pub record IsExplanation (book : Contents) (users : List Cid) (x : ℕ) (value : ℤ) : Type 0 where
  pub active : (c : Cid) → Contains users c → IsActive (active_of book) c
  pub explains : Explains (initial_of book) (Named (active_of book) (Contains users)) x value

-- active constraints of the book, because of which some variable has no value in any closed domains
pub record IsConflictOf (book : Contents) (users : List Cid) : Type 0 where
  pub active : (c : Cid) → Contains users c → IsActive (active_of book) c
  pub conflicts : IsConflict (initial_of book) (Named (active_of book) (Contains users))

-- what is told of a value: a word where its condition holds, or an explanation
pub data ToldWhy (s : SessionState) (name : List ℕ) (value : ℤ) (reply : List ℕ) : Type 0 where
  why_paused : s.paused ≡ true → reply ≡ fixed_text Paused → ToldWhy s name value reply
  why_contradiction : IsContradiction s → reply ≡ fixed_text Contradiction → ToldWhy s name value reply
  why_present : (x : ℕ) (d : Domains) → IsVariable s.book.variables name x → AreDomains s d → Has d x value → reply ≡ fixed_text Present → ToldWhy s name value reply
  why_because : (x : ℕ) (users : List Cid) → x < length s.book.variables → name_of s.book.variables x ≡ name → IsExplanation s.book users x value
      → reply ≡ users_text s.book Because users → ToldWhy s name value reply

-- active constraints of the book that have no common solution
pub record AreUnsolvedIn (book : Contents) (users : List Cid) : Type 0 where
  pub active : (c : Cid) → Contains users c → IsActive (active_of book) c
  pub none : (a : Assignment) → IsSolution (initial_of book) (Named (active_of book) (Contains users)) a → ⊥

-- a search may take its whole budget, where that is below what it needs at most; or, in a repair, where nogoods were
-- dropped
abbrev pub MaySpend : Contents → Procedure → Option ℕ → Type 0
MaySpend book (Dbt budget) None = budget < most_turns (length book.variables) (value_count (initial_of book))
MaySpend book (Repair tabu budget) (Some dropped) = (0 < dropped) ⊎ (budget < most_repair_turns (initial_of book))
MaySpend book _ _ = ⊥

-- the same, however it is told
abbrev pub MaySpendSo : Contents → Procedure → Telling → Type 0
MaySpendSo book by (InShort dropped) = MaySpend book by dropped
MaySpendSo book by (InFull text) = MaySpend book (Dbt (budget_of by)) None
MaySpendSo book by (AsLeast users) = ⊥
MaySpendSo book by (SoFar best) = MaySpend book (Dbt (budget_of by)) None

-- what is told of a search: that filtering waits, where it does; values that satisfy all active constraints, active constraints without a common
-- solution, or that all turns of the budget were taken
pub data ToldSearch (s : SessionState) (by : Procedure) (reply : List ℕ) : Type 0 where
  search_paused : s.paused ≡ true → reply ≡ fixed_text Paused → ToldSearch s by reply
  search_found : (values : List ℤ) → IsSolution (initial_of s.book) (Contains (cons_of (active_of s.book))) (listed values)
      → reply ≡ found_line s.book.variables values → ToldSearch s by reply
  search_none : (users : List Cid) → AreUnsolvedIn s.book users → reply ≡ users_text s.book NoSolutionLead users → ToldSearch s by reply
  search_spent : (dropped : Option ℕ) → MaySpend s.book by dropped → reply ≡ spent_line (budget_of by) dropped → ToldSearch s by reply

-- the reply ends with the line, and `end`
pub record ClosesWith (reply line : List ℕ) : Type 0 where
  pub front : List ℕ
  pub is : reply ≡ front ++ line ++ fixed_text End

-- what is told of a search by its proof: that filtering waits, where it does, or a proof that ends with what a search may tell
pub data ToldProof (s : SessionState) (budget : ℕ) (reply : List ℕ) : Type 0 where
  proof_paused : s.paused ≡ true → reply ≡ fixed_text Paused → ToldProof s budget reply
  proof_found : (values : List ℤ) → IsSolution (initial_of s.book) (Contains (cons_of (active_of s.book))) (listed values)
      → ClosesWith reply (found_line s.book.variables values) → ToldProof s budget reply
  proof_none : (users : List Cid) → AreUnsolvedIn s.book users → ClosesWith reply (users_text s.book NoSolutionLead users) → ToldProof s budget reply
  proof_spent : MaySpend s.book (Dbt budget) None → ClosesWith reply (spent_line budget None) → ToldProof s budget reply

-- the values satisfy all active constraints, the users are active constraints of the book, and no assignment inside the initial
-- domains that satisfies these gives the variable a lesser value than these values do
pub record AreBestIn (book : Contents) (target : ℕ) (values : List ℤ) (users : List Cid) : Type 0 where
  pub solution : IsSolution (initial_of book) (Contains (cons_of (active_of book))) (listed values)
  pub active : (c : Cid) → Contains users c → IsActive (active_of book) c
  pub least : (a : Assignment) → IsSolution (initial_of book) (Named (active_of book) (Contains users)) a → a target <ℤ listed values target → ⊥

-- what is told of the least value of a variable: that filtering waits, where it does; the best values and what proves it, active constraints without a common
-- solution, or that all turns of the budget were taken, and the best values so far, if some were found
pub data ToldLeast (s : SessionState) (target budget : ℕ) (reply : List ℕ) : Type 0 where
  best_paused : s.paused ≡ true → reply ≡ fixed_text Paused → ToldLeast s target budget reply
  best_found : (values : List ℤ) (users : List Cid) → AreBestIn s.book target values users → reply ≡ least_text s.book values users → ToldLeast s target budget reply
  best_none : (users : List Cid) → AreUnsolvedIn s.book users → reply ≡ users_text s.book NoSolutionLead users → ToldLeast s target budget reply
  best_spent : MaySpend s.book (Dbt budget) None → reply ≡ spent_line budget None → ToldLeast s target budget reply
  best_so_far : (values : List ℤ) → IsSolution (initial_of s.book) (Contains (cons_of (active_of s.book))) (listed values) → MaySpend s.book (Dbt budget) None
      → reply ≡ spent_best_line budget s.book.variables values → ToldLeast s target budget reply

-- what is told by a way of searching
abbrev pub ToldBy : SessionState → Procedure → List ℕ → Type 0
ToldBy s (Proof budget) reply = ToldProof s budget reply
ToldBy s (Least target budget) reply = ToldLeast s target budget reply
ToldBy s by reply = ToldSearch s by reply

-- that filtering waits, where it does, or a proof whose last line is that of the end, and which is accepted where there is no solution
pub data ToldAccepted (s : SessionState) (reply : List ℕ) : Type 0 where
  accepted_paused : s.paused ≡ true → reply ≡ fixed_text Paused → ToldAccepted s reply
  accepted_end : (end : SearchEnd) → ClosesWith reply (end_text s.book end None) → IsAcceptedAtNone s.book end reply → ToldAccepted s reply

-- what is told of conflicts: a word where its condition holds, or a conflict
pub data ToldConflict (s : SessionState) (reply : List ℕ) : Type 0 where
  conflict_paused : s.paused ≡ true → reply ≡ fixed_text Paused → ToldConflict s reply
  conflict_none : (d : Domains) → AreDomains s d → has_empty d ≡ false → reply ≡ fixed_text Consistent → ToldConflict s reply
  conflict_named : (users : List Cid) → IsConflictOf s.book users → reply ≡ users_text s.book ConflictLead users → ToldConflict s reply

-- what is told of a value by a minimal set: a word where its condition holds, or the minimal explanation, which is an explanation
pub data ToldMinimal (s : SessionState) (name : List ℕ) (value : ℤ) (reply : List ℕ) : Type 0 where
  minimal_paused : s.paused ≡ true → reply ≡ fixed_text Paused → ToldMinimal s name value reply
  minimal_contradiction : IsContradiction s → reply ≡ fixed_text Contradiction → ToldMinimal s name value reply
  minimal_present : (x : ℕ) → IsVariable s.book.variables name x → (DoExplain (initial_of s.book) (record { var = x; value = value }) (active_of s.book) → ⊥)
      → reply ≡ fixed_text Present → ToldMinimal s name value reply
  minimal_because : (x : ℕ) (users : List Cid) → x < length s.book.variables → name_of s.book.variables x ≡ name → IsExplanation s.book users x value
      → IsMinimalExplanation (initial_of s.book) (active_of s.book) (record { var = x; value = value }) users
      → reply ≡ users_text s.book Because users → ToldMinimal s name value reply

-- what is told of conflicts by a minimal set: a word where its condition holds, or the minimal conflict, which is a conflict
pub data ToldMinimalConflict (s : SessionState) (reply : List ℕ) : Type 0 where
  least_paused : s.paused ≡ true → reply ≡ fixed_text Paused → ToldMinimalConflict s reply
  least_none : (AreConflict (initial_of s.book) (active_of s.book) → ⊥) → reply ≡ fixed_text Consistent → ToldMinimalConflict s reply
  least_named : (users : List Cid) → IsConflictOf s.book users → IsMinimalConflict (initial_of s.book) (active_of s.book) users
      → reply ≡ users_text s.book ConflictLead users → ToldMinimalConflict s reply

-- a constraint that is left out with its minimal conflict, which holds it
pub record IsLeftOut (book : Contents) (out : LeftOut) : Type 0 where
  pub tight : IsTight book out.conflict
  pub among : Contains out.conflict (User out.number)

-- active constraints of the book that are no conflict
pub record AreFree (book : Contents) (kept : List Active) : Type 0 where
  pub within : (a : Active) → Contains kept a → Contains (active_of book) a
  pub free : AreConflict (initial_of book) kept → ⊥

-- what is told of preferences: that filtering waits, where it does; a conflict that cannot lose a member and has no common solution; or active constraints that
-- are no conflict, and others, each with such a conflict that holds it
pub data ToldPreferred (s : SessionState) (reply : List ℕ) : Type 0 where
  preferred_paused : s.paused ≡ true → reply ≡ fixed_text Paused → ToldPreferred s reply
  preferred_hard : (conflict : List Cid) → IsTight s.book conflict → reply ≡ users_text s.book HardConflict conflict → ToldPreferred s reply
  preferred_kept : (kept : List Active) (left : List LeftOut) → AreFree s.book kept → All (IsLeftOut s.book) left
      → reply ≡ preferred_text s.book (Kept (cids_of kept) left) → ToldPreferred s reply

-- what is told of a value by a certificate: a word where its condition holds, or a text that is accepted with the claim that the value is gone
pub data ToldCert (s : SessionState) (name : List ℕ) (value : ℤ) (reply : List ℕ) : Type 0 where
  cert_paused : s.paused ≡ true → reply ≡ fixed_text Paused → ToldCert s name value reply
  cert_contradiction : IsContradiction s → reply ≡ fixed_text Contradiction → ToldCert s name value reply
  cert_present : (x : ℕ) (d : Domains) → IsVariable s.book.variables name x → AreDomains s d → Has d x value → reply ≡ fixed_text Present → ToldCert s name value reply
  cert_accepted : (x : ℕ) → x < length s.book.variables → name_of s.book.variables x ≡ name
      → IsAccepted s.book s.engine.log (Gone (record { var = x; value = value })) reply → ToldCert s name value reply

-- what is told of conflicts by a certificate: a word where its condition holds, or a text that is accepted with the claim that a variable has no value
pub data ToldCertConflict (s : SessionState) (reply : List ℕ) : Type 0 where
  claim_paused : s.paused ≡ true → reply ≡ fixed_text Paused → ToldCertConflict s reply
  claim_none : (d : Domains) → AreDomains s d → has_empty d ≡ false → reply ≡ fixed_text Consistent → ToldCertConflict s reply
  claim_accepted : (x : ℕ) → x < length s.book.variables → IsAccepted s.book s.engine.log (ConflictClaim x) reply → ToldCertConflict s reply

-- a search leaves what the session holds as it was, but for the journal and for what is pending
pub record KeepsAllButJournal (s t : SessionState) : Type 0 where
  pub log : t.engine.log ≡ s.engine.log
  pub active : t.engine.active ≡ s.engine.active
  pub initial : t.engine.initial ≡ s.engine.initial
  pub rest : t ≡ with_search s t.journal t.engine
