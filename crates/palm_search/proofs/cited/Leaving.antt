-- After a search the constraints and the log are those from before.
use Rattle.std.proofs.Common.{◌≡◌, ℕ, ◌<◌, Bool, true, not, None, List, [], ◌∷◌, length, Contains, ℤ, sym, ap, subst}
use Rattle.palm_base.specs.declared.terms.Cid.{Cid}
use Rattle.palm_model.specs.Domains.{Assignment, Has}
use Rattle.palm_model.specs.Closure.{IsSolution}
use Rattle.palm_model.specs.Trial.{listed}
use Rattle.palm_model.specs.Log.{Active, IsActive, Named, cons_of}
use Rattle.palm_model.specs.State.{EngineState, IsValid, present, is_user}
use Rattle.palm_events.specs.Along.{IsStill}
use Rattle.palm_events.specs.Reasons.{ReasonsAreRight}
use Rattle.palm_engine.proofs.cited.Settled.{settling_filters, settling_still}
use Rattle.palm_search.specs.declared.turn.Turn.{Turn}
use Rattle.palm_search.specs.Turns.{SearchState, SettlesAfter, Turns}
use Rattle.palm_search.specs.declared.ending.SearchEnd.{SearchEnd}
use Rattle.palm_search.specs.Search.{of_search, SearchRun, Closes, Searches, HasNoSolution, IsFound, begun}
use Rattle.palm_search.specs.Kept.{HasNone, HasOnlyUsers, IsSearching, Rests}
use Rattle.palm_search.proofs.cited.Owning.{Gains, Remembers, closing_leaves, closing_returns, gains_none, gains_settles, gains_takes, other_before, remembers_none, remembers_settles, remembers_takes, search_owns, solves_before}
use Rattle.palm_search.proofs.cited.Keeping.{begins, settles_keep, follows_keep, turns_keep}
use Rattle.palm_search.proofs.cited.Solving.{found_solves, users_unsolved, users_active}

-- where only users are active, nothing is a search's own
pub users_none : (s : EngineState) → HasOnlyUsers s → HasNone of_search s
users_none s users a m = ap not (users a m)

gains_turns : ReasonsAreRight → (guided ordered : Bool) (s : EngineState) (m : SearchState) (turns : List Turn) (t : SearchState) → HasOnlyUsers s → IsValid s → IsStill s → Turns guided ordered m turns t → Gains of_search s m.engine → Gains of_search s t.engine
gains_turns right guided ordered s m [] t users valid still run gains = subst (λ (z : SearchState). Gains of_search s z.engine) (sym run) gains
gains_turns right guided ordered s m (turn ∷ turns) t users valid still run gains =
    let follows = run.1 in
    let taken = gains_takes guided of_search s m turn follows.middle search_owns (users_none s users) valid follows.takes gains in
    gains_turns right guided ordered s run.0 turns t users valid still run.2 (gains_settles right ordered of_search s follows.middle run.0 follows.settles valid still taken)

-- a settling and turns lead from s to m
pub turned_gains : ReasonsAreRight → (guided ordered : Bool) (s : EngineState) (start : SearchState) (turns : List Turn) (m : SearchState) → HasOnlyUsers s → IsValid s → IsStill s
    → SettlesAfter ordered (begun s) start → Turns guided ordered start turns m → Gains of_search s m.engine
turned_gains right guided ordered s start turns m users valid still settles taken =
    gains_turns right guided ordered s start turns m users valid still taken (gains_settles right ordered of_search s (begun s) start settles valid still (gains_none of_search s valid))

pub search_leaves : ReasonsAreRight → (guided ordered : Bool) (budget : ℕ) (s : EngineState) (turns : List Turn) (end : SearchEnd) (t : EngineState) → HasOnlyUsers s → IsValid s → IsStill s → Searches guided ordered budget s turns end t → t.log ≡ s.log
search_leaves right guided ordered budget s turns end t users valid still searches =
    let run = searches.run in
    let closes = searches.closes in
    closing_leaves right of_search s searches.last.engine closes.middle t search_owns (users_none s users) valid still
    (turned_gains right guided ordered s run.start turns searches.last users valid still run.settles run.taken)
    closes.withdraws (settling_filters None closes.middle closes.revisions t closes.settles)

-- ---- whole searches

pub settles_still : (ordered : Bool) (m t : SearchState) → SettlesAfter ordered m t → IsStill t.engine
settles_still ordered m t settles = settling_still m.engine settles.revisions t.engine settles.settles

turns_still : (guided ordered : Bool) (m : SearchState) (turns : List Turn) (t : SearchState) → IsStill m.engine → Turns guided ordered m turns t → IsStill t.engine
turns_still guided ordered m [] t still run = subst (λ (z : SearchState). IsStill z.engine) (sym run) still
turns_still guided ordered m (turn ∷ turns) t still run = turns_still guided ordered run.0 turns t (settles_still ordered run.1.middle run.0 run.1.settles) run.2

remembers_turns : ReasonsAreRight → (guided ordered : Bool) (s : EngineState) (m : SearchState) (turns : List Turn) (t : SearchState) → HasOnlyUsers s → IsSearching m → Turns guided ordered m turns t → Remembers of_search s m.engine → Remembers of_search s t.engine
remembers_turns right guided ordered s m [] t users searching run old = subst (λ (z : SearchState). Remembers of_search s z.engine) (sym run) old
remembers_turns right guided ordered s m (turn ∷ turns) t users searching run old =
    let follows = run.1 in
    let taken = remembers_takes guided of_search s m turn follows.middle search_owns (users_none s users) searching.valid follows.takes old in
    remembers_turns right guided ordered s run.0 turns t users (follows_keep right guided ordered m turn run.0 follows searching) run.2 (remembers_settles ordered of_search s follows.middle run.0 follows.settles taken)

-- what is known of the last state of a run
pub record Ended (s : EngineState) (t : SearchState) : Type 0 where
  pub searching : IsSearching t
  pub still : IsStill t.engine
  pub remembers : Remembers of_search s t.engine

pub turned_ended : ReasonsAreRight → (guided ordered : Bool) (s : EngineState) (start : SearchState) (turns : List Turn) (t : SearchState) → HasOnlyUsers s → IsValid s
    → SettlesAfter ordered (begun s) start → Turns guided ordered start turns t → Ended s t
turned_ended right guided ordered s start turns t users valid settles taken =
    let searching = settles_keep right ordered (begun s) start settles (begins s valid users) in
    let first = remembers_settles ordered of_search s (begun s) start settles (remembers_none of_search s) in
    record {
      searching = turns_keep right guided ordered start turns t taken searching;
      still = turns_still guided ordered start turns t (settles_still ordered (begun s) start settles) taken;
      remembers = remembers_turns right guided ordered s start turns t users searching taken first;
    }

pub run_ended : ReasonsAreRight → (guided ordered : Bool) (budget : ℕ) (s : EngineState) (turns : List Turn) (end : SearchEnd) (t : SearchState) → HasOnlyUsers s → IsValid s → SearchRun guided ordered budget s turns end t → Ended s t
run_ended right guided ordered budget s turns end t users valid run = turned_ended right guided ordered s run.start turns t users valid run.settles run.taken

-- a user's constraint of the last state is one of the first
user_before : (s m : EngineState) → IsValid m → Remembers of_search s m → (a : Active) → Contains m.active a → is_user a.cid ≡ true → Contains s.active a
user_before s m valid old a k user = other_before of_search s m valid old a k (ap not user)

pub run_found : (s : EngineState) (t : SearchState) (values : List ℤ) → Ended s t → IsFound (present t.engine) values → IsSolution s.initial (Contains (cons_of s.active)) (listed values)
run_found s t values ended found =
    solves_before of_search s t.engine (listed values) ended.remembers (found_solves t.engine values ended.searching.valid ended.still found)

pub run_unsolved : (s : EngineState) (t : SearchState) (users : List Cid) → Ended s t → HasNoSolution t.engine users → (b : Assignment) → IsSolution s.initial (Named s.active (Contains users)) b → ⊥
run_unsolved s t users ended none b solution = users_unsolved t ended.searching users none b (record {
  within = subst (λ d. (x : ℕ) → x < length d → Has d x (b x)) (sym ended.remembers.initial) solution.within;
  satisfies = λ c named. solution.satisfies c (record {
    owner = named.owner;
    posted = user_before s t.engine ended.searching.valid ended.remembers named.owner named.posted (users_active t ended.searching users none named.owner.cid named.named).1;
    is = named.is;
    named = named.named;
  });
})

pub run_users : (s : EngineState) (t : SearchState) (users : List Cid) → Ended s t → HasNoSolution t.engine users → (c : Cid) → Contains users c → IsActive s.active c
run_users s t users ended none c m =
    let r = users_active t ended.searching users none c m in
    record {
      owner = r.0.owner;
      posted = user_before s t.engine ended.searching.valid ended.remembers r.0.owner r.0.posted (subst (λ d. is_user d ≡ true) (sym r.0.named) r.1);
      named = r.0.named;
    }

-- ---- what is left after a search

-- after a whole search nothing is pending or a domain is empty
pub ended_rests : ReasonsAreRight → (ordered : Bool) (s : EngineState) (last : SearchState) (t : EngineState) → HasOnlyUsers s → IsValid s → Ended s last → Closes of_search ordered last.engine t → Rests s t
ended_rests right ordered s last t users valid ended closes =
    let returns = closing_returns right of_search s last.engine closes.middle t search_owns (users_none s users) valid ended.searching.valid ended.remembers closes.withdraws (settling_filters None closes.middle closes.revisions t closes.settles) in
    record { valid = returns.valid; active = returns.active; initial = returns.initial; still = settling_still closes.middle closes.revisions t closes.settles }

pub search_rests : ReasonsAreRight → (guided ordered : Bool) (budget : ℕ) (s : EngineState) (turns : List Turn) (end : SearchEnd) (t : EngineState) → HasOnlyUsers s → IsValid s → Searches guided ordered budget s turns end t → Rests s t
search_rests right guided ordered budget s turns end t users valid searches =
    ended_rests right ordered s searches.last t users valid (run_ended right guided ordered budget s turns end searches.last users valid searches.run) searches.closes
