-- What `minimal` tells holds of the active constraints.
use Rattle.std.proofs.Common.{◌≡◌, ℕ, ℤ, List, Contains, inl, inr, refl, subst}
use Rattle.palm_base.specs.declared.terms.Cid.{Cid}
use Rattle.palm_base.specs.declared.terms.Pair.{Pair}
use Rattle.palm_laws.proofs.cited.Solutions.{explains_more}
use Rattle.palm_model.specs.Log.{Named, cons_of}
use Rattle.palm_book.specs.Book.{Contents, active_of, initial_of}
use Rattle.palm_book.specs.Named.{IsPair}
use Rattle.palm_model.proofs.cited.Without.{pair_of}
use Rattle.palm_read.specs.declared.line.Line.TheVariants.{Minimal as MinimalLine}
use Rattle.palm_session.specs.declared.request.Question.TheVariants.{Minimal, MinimalConflict}
use Rattle.palm_session.specs.declared.request.Request.{Request}
use Rattle.palm_session.specs.declared.request.Request.TheVariants.{Ask}
use Rattle.palm_session.specs.Requests.{Requests}
use Rattle.palm_model.specs.Minimal.{AreConflict, DoExplain, IsMinimalConflict, IsMinimalExplanation}
use Rattle.palm_laws.proofs.cited.Growing.{conflict_more}
use Rattle.palm_laws.proofs.cited.Reducing.{minimal_holds, minimal_named}
use Rattle.palm_session.specs.State.{SessionState, IsContradiction}
use Rattle.palm_session.specs.Answers.{IsAnswer, SaysMinimal, Accepts, waits, contradicts, says}
use Rattle.palm_session.specs.Told.{IsConflictOf, IsExplanation, ToldMinimal, ToldMinimalConflict}
use Rattle.palm_session.specs.Told.ToldMinimal.{minimal_paused, minimal_contradiction, minimal_present, minimal_because}
use Rattle.palm_session.specs.Told.ToldMinimalConflict.{least_paused, least_none, least_named}
use Rattle.palm_session.proofs.cited.LawsOfAnswers.{query_same}
use Rattle.palm_session.proofs.Users.{minimal_active}

module _ (book : Contents) where
  pub minimal_explains : (pair : Pair) (cids : List Cid) → IsMinimalExplanation (initial_of book) (active_of book) pair cids → IsExplanation book cids pair.var pair.value
  minimal_explains pair cids minimal =
      let P = DoExplain (initial_of book) pair in
      record {
        active = minimal_active P (active_of book) cids minimal;
        explains = explains_more (initial_of book) (Contains (cons_of minimal.left)) (Named (active_of book) (Contains cids)) pair.var pair.value
            (minimal_named P (active_of book) cids minimal) (minimal_holds P (active_of book) cids minimal);
      }

  pub minimal_conflicts : (cids : List Cid) → IsMinimalConflict (initial_of book) (active_of book) cids → IsConflictOf book cids
  minimal_conflicts cids minimal =
      let P = AreConflict (initial_of book) in
      record {
        active = minimal_active P (active_of book) cids minimal;
        conflicts = conflict_more (initial_of book) (Contains (cons_of minimal.left)) (Named (active_of book) (Contains cids))
            (minimal_named P (active_of book) cids minimal) (minimal_holds P (active_of book) cids minimal);
      }

asked_minimal : (s : SessionState) (name : List ℕ) (value : ℤ) (pair : Pair) (reply : List ℕ) (t : SessionState) → IsPair s.book.variables name value pair → Accepts s (Ask (Minimal pair)) reply t
    → ToldMinimal s name value reply
asked_minimal s name value pair reply t found (waits w) = minimal_paused w.paused refl
asked_minimal s name value pair reply t found (contradicts effect goes does c) =
    minimal_contradiction (subst IsContradiction (query_same s does.0 t effect does.1 does.2) c.contradiction) refl
asked_minimal s name value pair reply t found (says effect goes does quiet said) =
    let same : t ≡ s = query_same s does.0 t effect does.1 does.2 in
    let here : IsAnswer s (Minimal pair) reply = subst (λ (z : SessionState). IsAnswer z (Minimal pair) reply) same said in
    let at : SaysMinimal s.book (pair_of pair.var value) reply = subst (λ (v : ℤ). SaysMinimal s.book (pair_of pair.var v) reply) found.gives here in
    elim at [
      | inl p ↦ minimal_present pair.var found.variable p.0 p.1
      | inr p ↦ minimal_because pair.var p.0 found.variable.declared found.variable.named (minimal_explains s.book (pair_of pair.var value) p.0 p.1) p.1 p.2
    ]

pub told_minimal : (s : SessionState) (name : List ℕ) (value : ℤ) (request : Request) (reply : List ℕ) (t : SessionState) → Requests s (MinimalLine name value) request → Accepts s request reply t → ToldMinimal s name value reply
told_minimal s name value request reply t found h = asked_minimal s name value found.0 reply t found.1 (subst (λ (r : Request). Accepts s r reply t) found.2 h)

pub told_minimal_conflict : (s : SessionState) (reply : List ℕ) (t : SessionState) → Accepts s (Ask MinimalConflict) reply t → ToldMinimalConflict s reply
told_minimal_conflict s reply t (waits w) = least_paused w.paused refl
told_minimal_conflict s reply t (contradicts effect goes does c) = absurd c.contradictable
told_minimal_conflict s reply t (says effect goes does quiet said) =
    let same : t ≡ s = query_same s does.0 t effect does.1 does.2 in
    let here : IsAnswer s MinimalConflict reply = subst (λ (z : SessionState). IsAnswer z MinimalConflict reply) same said in
    elim here [ inl p ↦ least_none p.0 p.1 | inr p ↦ least_named p.0 (minimal_conflicts s.book p.0 p.1) p.1 p.2 ]
