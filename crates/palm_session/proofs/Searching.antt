-- Searches of a session: there is one for each budget and each tabu length, and it leaves all but the journal as it was.
use Rattle.std.proofs.Common.{◌≡◌, ℕ, ℤ, ◌<◌, ◌⊎◌, Bool, true, false, is_some, Option, Some, None, List, [], ◌∷◌, length, Contains, refl, sym, ap, ◌∙◌, subst}
use Rattle.std.proofs.lemmas.List.{length-map}
use Rattle.palm_base.specs.declared.terms.Cid.{Cid}
use Rattle.palm_model.specs.Closure.{IsSolution}
use Rattle.palm_model.specs.Domains.{Assignment, Domains}
use Rattle.palm_model.specs.Log.{Active, IsActive, Named, cons_of, log_pairs}
use Rattle.palm_model.specs.State.{EngineState, is_user, present}
use Rattle.palm_model.specs.Trial.{listed, value_count}
use Rattle.palm_model.proofs.cited.Without.{length_without}
use Rattle.palm_book.specs.Book.{BookVar, Contents, initial_of, active_of}
use Rattle.palm_events.specs.Along.{IsStill}
use Rattle.palm_events.proofs.cited.Reasons.{reasons_right}
use Rattle.palm_search.specs.Measure.{most_turns}
use Rattle.palm_search.specs.Kept.{HasOnlyUsers, Rests as RestsAfter}
use Rattle.palm_search.specs.declared.ending.SearchEnd.{SearchEnd}
use Rattle.palm_search.specs.Search.{Searches as SearchesWhole, EndsWith, IsFound, HasNoSolution}
use Rattle.palm_search.specs.declared.ending.SearchEnd.TheVariants.{Found, NoSolution, Spent}
use Rattle.palm_search.specs.Turns.{FitsGuide, SearchState}
use Rattle.palm_search.specs.declared.turn.Pick.{Pick}
use Rattle.palm_search.specs.declared.turn.Pick.TheVariants.{NoGuide, Nothing as NothingPicked}
use Rattle.palm_search.specs.declared.turn.Turn.{Turn}
use Rattle.palm_search.proofs.cited.Leaving.{Ended, run_ended, run_found, run_unsolved, run_users, search_leaves, search_rests}
use Rattle.palm_search.proofs.cited.Measuring.{run_spent}
use Rattle.palm_search.proofs.cited.Whole.{search_exists, search_same}
use Rattle.palm_best.specs.Ends.{Minimizes}
use Rattle.palm_best.proofs.cited.Alone.{best_alone}
use Rattle.palm_best.proofs.cited.Ending.{best_leaves, best_rests, best_true}
use Rattle.palm_best.proofs.cited.Existing.{best_exists}
use Rattle.palm_best.proofs.cited.Long.{best_long}
use Rattle.palm_repair.specs.Repair.{Repairs}
use Rattle.palm_repair.specs.Sets.{most_repair_turns}
use Rattle.palm_repair.proofs.cited.Alone.{repair_same}
use Rattle.palm_repair.proofs.cited.Counting.{repair_run_spent}
use Rattle.palm_repair.proofs.cited.Ending.{repair_ended, repair_leaves, repair_rests}
use Rattle.palm_repair.proofs.cited.Existing.{repair_exists}
use Rattle.proof_run.proofs.cited.GoingOn.{proofs_go_on}
use Rattle.proof_run.proofs.cited.Same.{proof_same}
use Rattle.proof_run.specs.SoFar.IsTextSoFar.{declaring}
use Rattle.proof_run.specs.Text.{Proves, declarations}
use Rattle.palm_session.specs.declared.request.Procedure.{Procedure}
use Rattle.palm_session.specs.declared.request.Procedure.TheVariants.{Dbt, Repair, Proof, Least}
use Rattle.palm_session.specs.Requests.{CanSearch, budget_of}
use Rattle.palm_session.specs.Effects.{Telling, InShort, InFull, SearchesByDbt, SearchesByRepair, SearchesByProof, SearchesByLeast, SearchesIn, best_end, best_telling, with_search}
use Rattle.palm_session.specs.Told.{MaySpendSo}
use Rattle.palm_session.specs.State.{SessionState, IsHeld, IsState}
use Rattle.palm_session.proofs.ActiveLists.{active_member}
use Rattle.palm_session.proofs.Minimizing.{BestHolds, EndHolds, best_end_holds, best_end_spent, best_holds, held_none, held_target, held_values}

-- every active constraint of a book is a user's
pub book_users : (book : Contents) (s : EngineState) → s.active ≡ active_of book → HasOnlyUsers s
book_users book s is a m =
    let r = active_member book a (subst (λ (l : List Active). Contains l a) is m) in
    subst (λ (x : Active). is_user x.cid ≡ true) r.3 refl

-- and so every active constraint of a session
pub held_users : (s : SessionState) → IsHeld s → HasOnlyUsers s.engine
held_users s is = book_users s.book s.engine is.active

-- ---- there is a search

-- what a guide may always answer
abbrev pick_of : Bool → Pick
pick_of true = NothingPicked
pick_of false = NoGuide

pick_fits : (guided : Bool) → FitsGuide guided (pick_of guided)
pick_fits true = tt
pick_fits false = tt

-- a search of the session, and how it ends
pub record HasSearchIn (s : SessionState) (by : Procedure) : Type 0 where
  pub turns : List Turn
  pub end : SearchEnd
  pub telling : Telling
  pub engine : EngineState
  pub searches : SearchesIn s by turns end telling engine

pub search_in : (s : SessionState) → IsHeld s → (by : Procedure) → CanSearch s by → HasSearchIn s by
search_in s is (Dbt budget) some =
    let guided = is_some s.guide in
    let p = search_exists reasons_right guided (is_some s.order) (λ k. pick_of guided) (λ k. pick_fits guided) budget s.engine is.valid (held_users s is) in
    let searches : SearchesByDbt s budget p.turns p.end (InShort None) p.state = record { searches = p.searches; told = refl } in
    record { turns = p.turns; end = p.end; telling = InShort None; engine = p.state; searches = searches }
search_in s is (Repair tabu budget) some =
    let guided = is_some s.guide in
    let p = repair_exists reasons_right guided (is_some s.order) tabu (λ k. pick_of guided) (λ k. pick_fits guided) budget s.engine some is.valid (held_users s is) in
    let searches : SearchesByRepair s tabu budget p.turns p.end (InShort (Some p.dropped)) p.state = record { count = p.dropped; repairs = p.repairs; told = refl } in
    record { turns = p.turns; end = p.end; telling = InShort (Some p.dropped); engine = p.state; searches = searches }
search_in s is (Proof budget) some =
    let p = proofs_go_on (is_some s.guide) (is_some s.order) budget s.book s.engine [] (declarations s.book) is.valid (held_users s is) (declaring refl refl) in
    let searches : SearchesByProof s budget p.0 p.1 (InFull p.3) p.2 = record { text = p.3; proves = p.5; told = refl } in
    record { turns = p.0; end = p.1; telling = InFull p.3; engine = p.2; searches = searches }
search_in s is (Least target budget) declared =
    let guided = is_some s.guide in
    let p = best_exists reasons_right guided (is_some s.order) (pick_of guided) (pick_fits guided) target budget s.engine is.valid (held_none s is) (held_target s is target declared) (held_values s is target declared) in
    let searches : SearchesByLeast s target budget p.turns (best_end p.best) (best_telling p.best) p.state = record { best = p.best; minimizes = p.minimizes; ended = refl; told = refl } in
    record { turns = p.turns; end = best_end p.best; telling = best_telling p.best; engine = p.state; searches = searches }

-- ---- without a guide and an order there is no other one

-- two searches of the session are one
pub record IsSameIn (turns others : List Turn) (end other : SearchEnd) (telling other_telling : Telling) (e f : EngineState) : Type 0 where
  pub turns_same : turns ≡ others
  pub end_same : end ≡ other
  pub telling_same : telling ≡ other_telling
  pub engine_same : e ≡ f

plain : (s : SessionState) (Runs : Bool → Bool → Type 0) → s.guide ≡ None → s.order ≡ None → Runs (is_some s.guide) (is_some s.order) → Runs false false
plain s Runs unguided free runs =
    subst (λ (o : Option ℕ). Runs false (is_some o)) free (subst (λ (o : Option ℕ). Runs (is_some o) (is_some s.order)) unguided runs)

pub search_once : (s : SessionState) (by : Procedure) (turns others : List Turn) (end other : SearchEnd) (telling told : Telling) (e f : EngineState) → IsHeld s → s.guide ≡ None → s.order ≡ None
    → SearchesIn s by turns end telling e → SearchesIn s by others other told f → IsSameIn turns others end other telling told e f
search_once s (Dbt budget) turns others end other telling told e f is unguided free x y =
    let same = search_same reasons_right budget s.engine turns end e others other f is.valid (held_users s is)
    (plain s (λ g o. SearchesWhole g o budget s.engine turns end e) unguided free x.searches)
    (plain s (λ g o. SearchesWhole g o budget s.engine others other f) unguided free y.searches) in
    record { turns_same = same.turns_same; end_same = same.end_same; telling_same = x.told ∙ sym y.told; engine_same = same.state_same }
search_once s (Repair tabu budget) turns others end other telling told e f is unguided free x y =
    let same = repair_same reasons_right tabu budget s.engine turns end x.count e others other y.count f is.valid (held_users s is)
    (plain s (λ g o. Repairs g o tabu budget s.engine turns end x.count e) unguided free x.repairs)
    (plain s (λ g o. Repairs g o tabu budget s.engine others other y.count f) unguided free y.repairs) in
    record { turns_same = same.turns_same; end_same = same.end_same; telling_same = x.told ∙ ap (λ (n : ℕ). InShort (Some n)) same.dropped_same ∙ sym y.told; engine_same = same.state_same }
search_once s (Proof budget) turns others end other telling told e f is unguided free x y =
    let one = plain s (λ g o. Proves g o budget s.book s.engine turns end e x.text) unguided free x.proves in
    let two = plain s (λ g o. Proves g o budget s.book s.engine others other f y.text) unguided free y.proves in
    let same = search_same reasons_right budget s.engine turns end e others other f is.valid (held_users s is) one.searches two.searches in
    let text = proof_same budget s.book s.engine turns others end other e f x.text y.text is.valid (held_users s is) one two in
    record { turns_same = same.turns_same; end_same = same.end_same; telling_same = x.told ∙ ap InFull text ∙ sym y.told; engine_same = same.state_same }
search_once s (Least target budget) turns others end other telling told e f is unguided free x y =
    let same = best_alone reasons_right target budget s.engine turns x.best e others y.best f is.valid (held_none s is)
    (plain s (λ g o. Minimizes g o target budget s.engine turns x.best e) unguided free x.minimizes)
    (plain s (λ g o. Minimizes g o target budget s.engine others y.best f) unguided free y.minimizes) in
    record {
      turns_same = same.turns_same;
      end_same = x.ended ∙ ap best_end same.best_same ∙ sym y.ended;
      telling_same = x.told ∙ ap best_telling same.best_same ∙ sym y.told;
      engine_same = same.state_same;
    }

-- ---- what it leaves

pub search_leaves_still : (s : SessionState) (by : Procedure) (turns : List Turn) (end : SearchEnd) (telling : Telling) (e : EngineState) → IsHeld s → SearchesIn s by turns end telling e → RestsAfter s.engine e
search_leaves_still s (Dbt budget) turns end telling e is search =
    search_rests reasons_right (is_some s.guide) (is_some s.order) budget s.engine turns end e (held_users s is) is.valid search.searches
search_leaves_still s (Proof budget) turns end telling e is search =
    search_rests reasons_right (is_some s.guide) (is_some s.order) budget s.engine turns end e (held_users s is) is.valid search.proves.searches
search_leaves_still s (Repair tabu budget) turns end telling e is search =
    repair_rests reasons_right (is_some s.guide) (is_some s.order) tabu budget s.engine turns end search.count e (held_users s is) is.valid search.repairs
search_leaves_still s (Least target budget) turns end telling e is search =
    best_rests reasons_right (is_some s.guide) (is_some s.order) target budget s.engine turns search.best e (held_none s is) is.valid search.minimizes

pub search_log : (s : SessionState) (by : Procedure) (turns : List Turn) (end : SearchEnd) (telling : Telling) (e : EngineState) → IsHeld s → SearchesIn s by turns end telling e → IsStill s.engine → e.log ≡ s.engine.log
search_log s (Dbt budget) turns end telling e is search still =
    search_leaves reasons_right (is_some s.guide) (is_some s.order) budget s.engine turns end e (held_users s is) is.valid still search.searches
search_log s (Proof budget) turns end telling e is search still =
    search_leaves reasons_right (is_some s.guide) (is_some s.order) budget s.engine turns end e (held_users s is) is.valid still search.proves.searches
search_log s (Repair tabu budget) turns end telling e is search still =
    repair_leaves reasons_right (is_some s.guide) (is_some s.order) tabu budget s.engine turns end search.count e (held_users s is) is.valid still search.repairs
search_log s (Least target budget) turns end telling e is search still =
    best_leaves reasons_right (is_some s.guide) (is_some s.order) target budget s.engine turns search.best e (held_none s is) is.valid still search.minimizes

pub searched_state : (s : SessionState) (by : Procedure) (turns : List Turn) (end : SearchEnd) (telling : Telling) (e : EngineState) → IsHeld s → SearchesIn s by turns end telling e → IsState (with_search s turns e)
searched_state s by turns end telling e is search =
    let rests = search_leaves_still s by turns end telling e is search in
    record {
      held = record {
        book = is.book;
        weights = is.weights;
        accepted = is.accepted;
        numbered = is.numbered;
        guide = is.guide;
        order = is.order;
        initial = rests.initial ∙ is.initial;
        active = rests.active ∙ is.active;
        valid = rests.valid;
      };
      still = λ awake. rests.still;
    }

-- ---- what its end says

-- a run of a search from what the session holds, which ended so
record HasEnd (s : SessionState) (end : SearchEnd) : Type 0 where
  pub budget : ℕ
  pub count : ℕ
  pub last : SearchState
  pub reached : Ended s.engine last
  pub ends : EndsWith budget count last.engine end

dbt_end : (s : SessionState) (budget : ℕ) (turns : List Turn) (end : SearchEnd) (e : EngineState) → IsHeld s → SearchesWhole (is_some s.guide) (is_some s.order) budget s.engine turns end e → HasEnd s end
dbt_end s budget turns end e is searches = record {
  budget = budget;
  count = length turns;
  last = searches.last;
  reached = run_ended reasons_right (is_some s.guide) (is_some s.order) budget s.engine turns end searches.last (held_users s is) is.valid searches.run;
  ends = searches.run.ends;
}

repair_end : (s : SessionState) (tabu budget : ℕ) (turns : List Turn) (end : SearchEnd) (dropped : ℕ) (e : EngineState) → IsHeld s → Repairs (is_some s.guide) (is_some s.order) tabu budget s.engine turns end dropped e → HasEnd s end
repair_end s tabu budget turns end dropped e is repairs = record {
  budget = budget;
  count = length turns;
  last = repairs.last.search;
  reached = repair_ended reasons_right (is_some s.guide) (is_some s.order) tabu budget s.engine turns end dropped repairs.last (held_users s is) is.valid repairs.run;
  ends = repairs.run.ends;
}

module _ (s : SessionState) (is : IsHeld s) where
  found_at : (values : List ℤ) (h : HasEnd s (Found values)) → IsFound (present h.last.engine) values
  found_at values h = h.ends

  none_at : (users : List Cid) (h : HasEnd s (NoSolution users)) → HasNoSolution h.last.engine users
  none_at users h = h.ends

  found_solves : (values : List ℤ) → HasEnd s (Found values) → IsSolution (initial_of s.book) (Contains (cons_of (active_of s.book))) (listed values)
  found_solves values h =
      let here = run_found s.engine h.last values h.reached (found_at values h) in
      subst (λ (d : Domains). IsSolution d (Contains (cons_of (active_of s.book))) (listed values)) is.initial
      (subst (λ (l : List Active). IsSolution s.engine.initial (Contains (cons_of l)) (listed values)) is.active here)

  -- one value for each variable
  found_length : (values : List ℤ) → HasEnd s (Found values) → length values ≡ length s.book.variables
  found_length values h =
      let last = h.last.engine in
      sym (length-map values (λ (v : ℤ). v ∷ [])) ∙ ap (λ (d : Domains). length d) (sym (found_at values h)) ∙ length_without last.initial (log_pairs last.log)
      ∙ ap (λ (d : Domains). length d) (h.reached.remembers.initial ∙ is.initial) ∙ length-map s.book.variables (λ (f : BookVar). f.values)

  none_active : (users : List Cid) → HasEnd s (NoSolution users) → (c : Cid) → Contains users c → IsActive (active_of s.book) c
  none_active users h c m = subst (λ (l : List Active). IsActive l c) is.active (run_users s.engine h.last users h.reached (none_at users h) c m)

  none_unsolved : (users : List Cid) → HasEnd s (NoSolution users) → (a : Assignment) → IsSolution (initial_of s.book) (Named (active_of s.book) (Contains users)) a → ⊥
  none_unsolved users h a solution =
      run_unsolved s.engine h.last users h.reached (none_at users h) a
      (subst (λ (d : Domains). IsSolution d (Named s.engine.active (Contains users)) a) (sym is.initial)
      (subst (λ (l : List Active). IsSolution (initial_of s.book) (Named l (Contains users)) a) (sym is.active) solution))

  run_holds : (end : SearchEnd) → HasEnd s end → EndHolds s.book end
  run_holds (Found values) h = (found_solves values h, found_length values h)
  run_holds (NoSolution users) h = record { active = none_active users h; none = none_unsolved users h }
  run_holds (Spent count) h = tt

  -- what the end of a minimization says
  pub least_holds : (target budget : ℕ) (turns : List Turn) (end : SearchEnd) (telling : Telling) (e : EngineState) (search : SearchesByLeast s target budget turns end telling e) → BestHolds s.book target budget search.best
  least_holds target budget turns end telling e search =
      let guided = is_some s.guide in
      let ordered = is_some s.order in
      best_holds s is target budget search.best (best_true reasons_right guided ordered target budget s.engine turns search.best search.minimizes.last (held_none s is) is.valid search.minimizes.run)
      (best_long reasons_right guided ordered target budget s.engine turns search.best search.minimizes.last (held_none s is) is.valid search.minimizes.run)

  -- and that of any search
  pub end_holds : (by : Procedure) (turns : List Turn) (end : SearchEnd) (telling : Telling) (e : EngineState) → SearchesIn s by turns end telling e → EndHolds s.book end
  end_holds (Dbt budget) turns end telling e search = run_holds end (dbt_end s budget turns end e is search.searches)
  end_holds (Proof budget) turns end telling e search = run_holds end (dbt_end s budget turns end e is search.proves.searches)
  end_holds (Repair tabu budget) turns end telling e search = run_holds end (repair_end s tabu budget turns end search.count e is search.repairs)
  end_holds (Least target budget) turns end telling e search =
      subst (EndHolds s.book) (sym search.ended) (best_end_holds s.book target budget search.best (least_holds target budget turns end telling e search))

  dbt_spent : (budget : ℕ) (turns : List Turn) (e : EngineState) (count : ℕ) → SearchesWhole (is_some s.guide) (is_some s.order) budget s.engine turns (Spent count) e
      → (count ≡ budget) × (budget < most_turns (length s.book.variables) (value_count (initial_of s.book)))
  dbt_spent budget turns e count searches =
      let small = run_spent reasons_right (is_some s.guide) (is_some s.order) budget count s.engine turns searches.last is.valid (held_users s is) searches.run in
      let long : length s.engine.initial ≡ length s.book.variables = ap (λ (d : Domains). length d) is.initial ∙ length-map s.book.variables (λ (f : BookVar). f.values) in
      let few : budget < most_turns (length s.engine.initial) (value_count s.engine.initial) = subst (λ (n : ℕ). n < most_turns (length s.engine.initial) (value_count s.engine.initial)) small.0 small.1 in (
        small.0,
        subst (λ (n : ℕ). budget < most_turns n (value_count (initial_of s.book))) long
            (subst (λ (d : Domains). budget < most_turns (length s.engine.initial) (value_count d)) is.initial few),
      )

  repair_spent : (tabu budget : ℕ) (turns : List Turn) (dropped : ℕ) (e : EngineState) (count : ℕ) → Repairs (is_some s.guide) (is_some s.order) tabu budget s.engine turns (Spent count) dropped e
      → (count ≡ budget) × ((0 < dropped) ⊎ (budget < most_repair_turns (initial_of s.book)))
  repair_spent tabu budget turns dropped e count repairs =
      let small = repair_run_spent reasons_right (is_some s.guide) (is_some s.order) tabu budget count s.engine turns dropped repairs.last is.valid (held_users s is) repairs.run in (
        small.0,
        subst (λ (d : Domains). (0 < dropped) ⊎ (budget < most_repair_turns d)) is.initial
            (subst (λ (n : ℕ). (0 < dropped) ⊎ (n < most_repair_turns s.engine.initial)) small.0 small.1),
      )

  pub spent_small : (by : Procedure) (turns : List Turn) (e : EngineState) (count : ℕ) (telling : Telling) → SearchesIn s by turns (Spent count) telling e
      → (count ≡ budget_of by) × MaySpendSo s.book by telling
  spent_small (Dbt budget) turns e count telling search =
      let small = dbt_spent budget turns e count search.searches in
      (small.0, subst (λ (d : Telling). MaySpendSo s.book (Dbt budget) d) (sym search.told) small.1)
  spent_small (Repair tabu budget) turns e count telling search =
      let small = repair_spent tabu budget turns search.count e count search.repairs in
      (small.0, subst (λ (d : Telling). MaySpendSo s.book (Repair tabu budget) d) (sym search.told) small.1)
  spent_small (Proof budget) turns e count telling search =
      let small = dbt_spent budget turns e count search.proves.searches in
      (small.0, subst (λ (d : Telling). MaySpendSo s.book (Proof budget) d) (sym search.told) small.1)
  spent_small (Least target budget) turns e count telling search =
      best_end_spent s.book target budget search.best count telling (least_holds target budget turns (Spent count) telling e search) search.ended search.told
