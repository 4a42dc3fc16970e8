-- What `why` and `conflict` tell holds of the active constraints.
use Rattle.std.proofs.Common.{◌≡◌, ℕ, ℤ, ◌<◌, List, length, false, inl, inr, refl, sym, subst}
use Rattle.palm_base.specs.declared.terms.Cid.{Cid}
use Rattle.palm_model.specs.Domains.{Domains, Has}
use Rattle.palm_model.specs.Log.{NamesOfPair, IsListOf}
use Rattle.palm_model.proofs.cited.Without.{pair_of}
use Rattle.palm_book.specs.Book.{initial_of, name_of}
use Rattle.palm_base.specs.declared.terms.Pair.{Pair}
use Rattle.palm_book.specs.Named.{IsPair}
use Rattle.palm_read.specs.declared.line.Line.TheVariants.{Why as WhyLine}
use Rattle.palm_session.specs.declared.request.Question.TheVariants.{Why, Conflict}
use Rattle.palm_session.specs.declared.request.Request.{Request}
use Rattle.palm_session.specs.declared.request.Request.TheVariants.{Ask}
use Rattle.palm_session.specs.Requests.{IsAdmitted}
use Rattle.palm_session.specs.State.{SessionState, IsState, AreDomains, IsContradiction}
use Rattle.palm_session.specs.Refusals.{IsUndeclared}
use Rattle.palm_session.specs.Answers.{IsAnswer, SaysWhy, SaysConflict, Accepts, waits, contradicts, says}
use Rattle.palm_session.specs.Told.{IsExplanation, ToldWhy, ToldConflict}
use Rattle.palm_session.specs.Told.ToldWhy.{why_paused, why_contradiction, why_present, why_because}
use Rattle.palm_session.specs.Told.ToldConflict.{conflict_paused, conflict_none, conflict_named}
use Rattle.palm_session.proofs.cited.LawsOfAnswers.{awake_for, query_same}
use Rattle.palm_session.proofs.Requesting.{declared_value}
use Rattle.palm_session.proofs.LawsOfDomains.{printed_domains, explanation_active, explanation_explains, conflict_cids_active, conflict_conflicts}
use Rattle.palm_session.proofs.cited.LawsOfStates.{domains_once}

explanation : (s : SessionState) → IsState s → s.paused ≡ false → (IsContradiction s → ⊥) → (d : Domains) (x : ℕ) (value : ℤ) (cids : List Cid) → AreDomains s d → Has (initial_of s.book) x value → (Has d x value → ⊥)
    → IsListOf (NamesOfPair s.engine.log (pair_of x value)) cids → IsExplanation s.book cids x value
explanation s is awake none d x value cids are has missing list =
    let same = domains_once s d _ are (printed_domains s is awake none) in
    record {
      active = λ c m. explanation_active s is.held (pair_of x value) cids list c m;
      explains = explanation_explains s is.held x value cids has (λ m. missing (subst (λ (z : Domains). Has z x value) (sym same) m)) list;
    }

says_why : (s : SessionState) → IsState s → s.paused ≡ false → (IsContradiction s → ⊥) → (name : List ℕ) (value : ℤ) (reply : List ℕ) (d : Domains) (x : ℕ) → AreDomains s d → (x < length s.book.variables) → (name_of s.book.variables x ≡ name)
    → Has (initial_of s.book) x value → SaysWhy s d x value reply → ToldWhy s name value reply
says_why s is awake none name value reply d x are lt named has (inl p) = why_present x d (record { declared = lt; named = named }) are p.0 p.1
says_why s is awake none name value reply d x are lt named has (inr p) =
    why_because x p.1 lt named (explanation s is awake none d x value p.1 are has p.0 p.2) p.3

asked_why : (s : SessionState) (name : List ℕ) (value : ℤ) (pair : Pair) (reply : List ℕ) (t : SessionState) → IsState s → (IsUndeclared s name value → ⊥) → IsPair s.book.variables name value pair
    → Accepts s (Ask (Why pair)) reply t → ToldWhy s name value reply
asked_why s name value pair reply t is asks found (waits w) = why_paused w.paused refl
asked_why s name value pair reply t is asks found (contradicts effect goes does c) =
    why_contradiction (subst IsContradiction (query_same s does.0 t effect does.1 does.2) c.contradiction) refl
asked_why s name value pair reply t is asks found (says effect goes does quiet said) =
    let same : t ≡ s = query_same s does.0 t effect does.1 does.2 in
    let here : IsAnswer s (Why pair) reply = subst (λ (z : SessionState). IsAnswer z (Why pair) reply) same said in
    let calm : IsContradiction s → ⊥ = λ c. quiet (record { contradiction = subst IsContradiction (sym same) c; contradictable = tt }) in
    let at : SaysWhy s here.0 pair.var value reply = subst (λ (v : ℤ). SaysWhy s here.0 pair.var v reply) found.gives here.2 in
    says_why s is (awake_for s (Ask (Why pair)) tt goes) calm name value reply here.0 pair.var here.1 found.variable.declared found.variable.named
    (declared_value s name value pair.var asks found.variable.declared found.variable.named) at

pub told_why : (s : SessionState) (name : List ℕ) (value : ℤ) (request : Request) (reply : List ℕ) (t : SessionState) → IsState s → IsAdmitted s (WhyLine name value) request → Accepts s request reply t → ToldWhy s name value reply
told_why s name value request reply t is a h =
    let found = a.requests in
    asked_why s name value found.0 reply t is a.none.1.1.1.1.1.0 found.1 (subst (λ (r : Request). Accepts s r reply t) found.2 h)

says_conflict : (s : SessionState) → IsState s → (d : Domains) (reply : List ℕ) → AreDomains s d → SaysConflict s d reply → ToldConflict s reply
says_conflict s is d reply are (inl p) = conflict_none d are p.0 p.1
says_conflict s is d reply are (inr p) = conflict_named p.1 (record {
  active = λ c m. conflict_cids_active s is.held p.1 p.2 c m;
  conflicts = conflict_conflicts s is.held p.1 p.2;
}) p.3

pub told_conflict : (s : SessionState) (reply : List ℕ) (t : SessionState) → IsState s → Accepts s (Ask Conflict) reply t → ToldConflict s reply
told_conflict s reply t is (waits w) = conflict_paused w.paused refl
told_conflict s reply t is (contradicts effect goes does c) = absurd c.contradictable
told_conflict s reply t is (says effect goes does quiet said) =
    let same : t ≡ s = query_same s does.0 t effect does.1 does.2 in
    let here : IsAnswer s Conflict reply = subst (λ (z : SessionState). IsAnswer z Conflict reply) same said in
    says_conflict s is here.0 reply here.1 here.2
