-- A user's constraint that is posted between two turns keeps what a search keeps, and does not lower the measure.
use Rattle.std.proofs.Common.{◌≡◌, ℕ, ◌+◌, ◌≤◌, true, length, filter, take, Contains, inl, inr, sym, ap, ◌∙◌, subst, arith}
use Rattle.palm_model.specs.Domains.{Domains, Has}
use Rattle.palm_model.specs.Trial.{value_count}
use Rattle.palm_model.specs.Log.{Active}
use Rattle.palm_model.specs.State.{EngineState, is_user}
use Rattle.palm_model.specs.Event.{Posts, with_posted}
use Rattle.palm_model.specs.Event.Event.{Post}
use Rattle.palm_model.specs.Event.Step.{Happens}
use Rattle.palm_events.proofs.cited.States.{with_posted_cases}
use Rattle.palm_events.proofs.cited.Valid.{posts_valid}
use Rattle.palm_events.proofs.cited.Conflicts.{step_justified}
use Rattle.palm_search.specs.Turns.{SearchState}
use Rattle.palm_search.specs.Kept.{HasDecisions, HasDeclared, IsSearching}
use Rattle.palm_search.specs.Measure.{negations_within, weighed, measure}
use Rattle.palm_search.proofs.cited.Deciding.{posted_has, same_state}
use Rattle.palm_search.proofs.cited.Keeping.{user_not, user_not_decision}
use Rattle.palm_search.proofs.cited.Measuring.{held, count_posted, weighed_is}
use Rattle.palm_search.proofs.cited.Weighing.{weighed_more}

joined_decisions : (s : SearchState) (a : Active) (t : SearchState) → is_user a.cid ≡ true → Posts s.engine a t.engine → t.decisions ≡ s.decisions → HasDecisions s → HasDecisions t
joined_decisions s a t user posts same has =
    subst HasDecisions (same_state t s.decisions same) (posted_has s a t.engine (ap (λ (z : EngineState). z.active) posts.after) posts.inactive (λ x. user_not_decision a.cid x user) has)

joined_declared : (s : SearchState) (a : Active) (t : SearchState) → is_user a.cid ≡ true → Posts s.engine a t.engine → t.decisions ≡ s.decisions → HasDeclared s → HasDeclared t
joined_declared s a t user posts same declared =
    let ei : t.engine.initial ≡ s.engine.initial = ap (λ (z : EngineState). z.initial) posts.after in
    record {
      decided = λ p m. subst (λ d. Has d p.var p.value) (sym ei) (declared.decided p (subst (λ l. Contains l p) same m));
      negated = λ b p m named. subst (λ d. Has d p.var p.value) (sym ei) (elim (with_posted_cases a s.engine.active b (subst (λ (z : EngineState). Contains z.active b) posts.after m)) [
        | inl e ↦ absurd (user_not a.cid p user (ap (λ (c : Active). c.cid) e ∙ named))
        | inr k ↦ declared.negated b p k named
      ]);
    }

pub joined_searching : (s : SearchState) (a : Active) (t : SearchState) → is_user a.cid ≡ true → Posts s.engine a t.engine → t.decisions ≡ s.decisions → IsSearching s → IsSearching t
joined_searching s a t user posts same searching = record {
  valid = posts_valid s.engine t.engine a posts searching.valid;
  justified = step_justified s.engine (Happens (Post a)) t.engine posts searching.valid (λ p e. absurd (user_not a.cid p user e)) searching.justified;
  decisions = joined_decisions s a t user posts same searching.decisions;
  declared = joined_declared s a t user posts same searching.declared;
}

joined_counts : (s : SearchState) (a : Active) (t : SearchState) → Posts s.engine a t.engine → t.decisions ≡ s.decisions → (i : ℕ) → negations_within s i ≤ negations_within t i
joined_counts s a t posts same i =
    let test = held (take i s.decisions) in
    let more = count_posted test a s.engine.active posts.inactive in
    let ea : t.engine.active ≡ with_posted a s.engine.active = ap (λ (z : EngineState). z.active) posts.after in
    let l : negations_within t i ≡ length (filter test (with_posted a s.engine.active)) = λ j. length (filter (held (take i (same j))) (ea j)) in
    omega (arith, more, l)

pub joined_measure : (s : SearchState) (a : Active) (t : SearchState) → Posts s.engine a t.engine → t.decisions ≡ s.decisions → measure s ≤ measure t
joined_measure s a t posts same =
    let n = length s.engine.initial in
    let base = value_count s.engine.initial + 1 in
    let more = weighed_more (negations_within s) (negations_within t) base n n (λ i le. joined_counts s a t posts same i) in
    let ei : t.engine.initial ≡ s.engine.initial = ap (λ (z : EngineState). z.initial) posts.after in
    let es = weighed_is s base n n in
    let et = weighed_is t base n n in
    let em : measure t ≡ weighed t base n n = ap (λ (d : Domains). weighed t (value_count d + 1) (length d) (length d)) ei in
    omega (arith, more, es, et, em)
