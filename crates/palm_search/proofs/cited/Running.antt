-- A run of mac-dbt, turn after turn.
use Rattle.std.proofs.Common.{◌≡◌, ℕ, ◌+◌, ◌-◌, ◌<◌, ◌≤◌, Bool, None, List, [], ◌∷◌, ◌++◌, length, min, Contains, refl, sym, ap, ◌∙◌, inl, inr, subst, arith, length-append}
use Rattle.palm_base.specs.declared.terms.Pair.{Pair}
use Rattle.palm_base.specs.declared.limits.TheConstants.{LAST_COUNT}
use Rattle.palm_base.specs.declared.terms.Cid.{Cid}
use Rattle.palm_base.specs.declared.terms.Cid.TheVariants.{Not}
use Rattle.palm_base.proofs.cited.Members.{member_nil}
use Rattle.palm_model.specs.Log.{IsActive}
use Rattle.palm_model.specs.State.{EngineState, IsValid}
use Rattle.palm_events.specs.Reasons.{ReasonsAreRight}
use Rattle.palm_engine.specs.Engine.{View, HasSettled, IsInterrupted}
use Rattle.palm_engine.specs.Settling.{Filters}
use Rattle.palm_engine.specs.declared.settle.Settle.{Settle}
use Rattle.palm_engine.proofs.cited.Settled.{settling_filters}
use Rattle.palm_engine.proofs.cited.Walking.{filters_then, revisions_filter, walk_filters, not_empty}
use Rattle.palm_search.specs.declared.turn.Turn.{Turn}
use Rattle.palm_search.specs.declared.turn.Turn.TheVariants.{Decide as TurnDecide, Undo as TurnUndo}
use Rattle.palm_search.specs.Calls.{SearchView, TakesTurn, search_state}
use Rattle.palm_search.specs.Kept.{HasDecisions, HasNoneNegated, HasOnlyUsers}
use Rattle.palm_search.specs.Leaves.{Counts}
use Rattle.palm_search.specs.Search.{begun}
use Rattle.palm_search.specs.Turns.{SearchState, Follows, SettlesAfter, Takes, Turns}
use Rattle.palm_search.proofs.cited.Deciding.{settles_has}
use Rattle.palm_search.proofs.cited.Going.{decides_unnegated, undoes_unnegated}
use Rattle.palm_search.proofs.cited.Keeping.{begins, settles_keep, takes_keep}
use Rattle.palm_search.proofs.cited.Leaving.{settles_still}
use Rattle.palm_search.specs.Breaking.{HasTurned, IsCutOff}
use Rattle.palm_search.specs.Breaking.IsCutOff.{before_turn, in_first_settling, in_settling, in_undoing}
use Rattle.palm_search.specs.Turning.{IsBetween, IsCutUndoing}
use Rattle.palm_search.specs.Turning.IsCutUndoing.{cut_before, cut_within}

-- ---- turns

turns_push : (guided ordered : Bool) (a : SearchState) (turns : List Turn) (b : SearchState) (turn : Turn) (c : SearchState) → Turns guided ordered a turns b → Follows guided ordered b turn c → Turns guided ordered a (turns ++ turn ∷ []) c
turns_push guided ordered a [] b turn c run follows = (c, subst (λ z. Follows guided ordered z turn c) run follows, refl)
turns_push guided ordered a (first ∷ turns) b turn c run follows = (run.0, run.1, turns_push guided ordered run.0 turns b turn c run.2 follows)

pub unnegated_takes : (guided : Bool) (s : SearchState) (turn : Turn) (t : SearchState) → Takes guided s turn t → IsBetween s → HasNoneNegated t
unnegated_takes guided s (TurnDecide pair pick) t takes between = decides_unnegated guided s pair pick t takes between.searching.valid quiet between.unnegated
  where
    quiet : s.engine.pending ≡ []
    quiet = elim between.still [ inl e ↦ e | inr empty ↦ absurd (not_empty _ takes.filled empty) ]
unnegated_takes guided s (TurnUndo gone conflict) t takes between = undoes_unnegated s gone conflict t takes between.searching.decisions between.unnegated

-- ---- settling

settled_after : (ordered : Bool) (answer : Settle) (before after : View) (decisions : List Pair) → HasSettled None ordered answer before after
    → SettlesAfter ordered (record { engine = before.state; decisions = decisions }) (record { engine = after.state; decisions = decisions })
settled_after ordered answer before after decisions settled = record { revisions = settled.revisions; fits = settled.fits; settles = settled.settles; decisions = refl }

pub settled_same : (ordered : Bool) (m t : SearchState) → SettlesAfter ordered m t → HasNoneNegated m → HasNoneNegated t
settled_same ordered m t settles none p k is =
    let filters = settling_filters None m.engine settles.revisions t.engine settles.settles in
    none p (subst (λ l. Contains l p) settles.decisions k) (subst (λ l. IsActive l (Not p)) filters.active is)

pub interrupted_filters : (ordered : Bool) (before after : View) → IsInterrupted None ordered before after → Filters before.state after.state
interrupted_filters ordered before after cut =
    filters_then before.state cut.middle after.state (revisions_filter before.state cut.revisions cut.middle cut.ended) (walk_filters cut.owner cut.walked cut.middle cut.removed after.state cut.walk)

-- a settling that was interrupted leaves the decisions
pub interrupted_has : (ordered : Bool) (before after : View) (search : SearchView) → IsInterrupted None ordered before after → HasDecisions (search_state before.state search) → HasDecisions (search_state after.state search)
interrupted_has ordered before after search cut has =
    settles_has (search_state before.state search) (search_state after.state search) (interrupted_filters ordered before after cut).active refl has

pub settled_filters : (ordered : Bool) (answer : Settle) (before after : View) → HasSettled None ordered answer before after → Filters before.state after.state
settled_filters ordered answer before after settled = settling_filters None before.state settled.revisions after.state settled.settles

-- ---- the run

-- the turns of the journal lead from s to the state of the engine and the search
pub record IsRunning (guided ordered : Bool) (budget : ℕ) (s t : EngineState) (search : SearchView) : Type 0 where
  pub turned : HasTurned guided ordered budget s search.journal (search_state t search)
  pub between : IsBetween (search_state t search)

pub fresh_has : (s : EngineState) (search : SearchView) → IsValid s → HasOnlyUsers s → search ≡ record { decisions = []; journal = [] } → HasDecisions (search_state s search)
fresh_has s search valid users fresh = subst (λ (v : SearchView). HasDecisions (search_state s v)) (sym fresh) (begins s valid users).decisions

pub run_starts : ReasonsAreRight → (guided ordered : Bool) (budget : ℕ) (answer : Settle) (before after : View) (search : SearchView) → IsValid before.state → HasOnlyUsers before.state → search ≡ record { decisions = []; journal = [] }
    → HasSettled None ordered answer before after → IsRunning guided ordered budget before.state after.state search
run_starts right guided ordered budget answer before after search valid users fresh settled = subst (IsRunning guided ordered budget before.state after.state) (sym fresh) (
    let s = before.state in
    let start : SearchState = record { engine = after.state; decisions = [] } in
    let settles : SettlesAfter ordered (begun s) start = settled_after ordered answer before after [] settled in
    record {
      turned = record { start = start; settles = settles; taken = refl; within = omega arith };
      between = record {
        searching = settles_keep right ordered (begun s) start settles (begins s valid users);
        unnegated = λ p m is. absurd (member_nil p m);
        still = settles_still ordered (begun s) start settles;
      };
    }
    )

pub run_goes_on : ReasonsAreRight → (guided ordered : Bool) (budget : ℕ) (s m : EngineState) (before : SearchView) (turn : Turn) (answer : Settle) (taken after : View) (search : SearchView) → IsRunning guided ordered budget s m before
    → length before.journal < budget → TakesTurn guided turn m before taken.state search → HasSettled None ordered answer taken after → IsRunning guided ordered budget s after.state search
run_goes_on right guided ordered budget s m before turn answer taken after search running lt takes settled =
    let middle = search_state taken.state search in
    let t = search_state after.state search in
    let settles : SettlesAfter ordered middle t = settled_after ordered answer taken after search.decisions settled in
    let follows : Follows guided ordered (search_state m before) turn t = record { middle = middle; takes = takes.takes; settles = settles } in
    let turned = running.turned in
    let longer = length-append before.journal (turn ∷ []) in
    record {
      turned = record {
        start = turned.start;
        settles = turned.settles;
        taken = subst (λ l. Turns guided ordered turned.start l t) (sym takes.journal) (turns_push guided ordered turned.start before.journal (search_state m before) turn t turned.taken follows);
        within = subst (λ l. length l ≤ budget) (sym takes.journal) (omega (arith, longer, lt));
      };
      between = record {
        searching = settles_keep right ordered middle t settles (takes_keep guided (search_state m before) turn middle takes.takes running.between.searching);
        unnegated = settled_same ordered middle t settles (unnegated_takes guided (search_state m before) turn middle takes.takes running.between);
        still = settles_still ordered middle t settles;
      };
    }

-- the turns that are left to take get fewer
pub fewer_left : (before after : List Turn) (turn : Turn) (budget : ℕ) → length before < budget → after ≡ before ++ turn ∷ [] → budget - length after < budget - length before
fewer_left before after turn budget lt e =
    let longer = ap length e ∙ length-append before (turn ∷ []) in omega (arith, longer, lt)

-- ---- where it is cut off

pub cut_first : (guided ordered : Bool) (budget : ℕ) (before after : View) (search : SearchView) → search ≡ record { decisions = []; journal = [] } → IsInterrupted None ordered before after → IsCutOff guided ordered budget before.state search.journal after.state
cut_first guided ordered budget before after search fresh cut = in_first_settling (ap (λ (v : SearchView). v.journal) fresh) (interrupted_filters ordered before after cut)

pub cut_here : (guided ordered : Bool) (budget : ℕ) (s m t : EngineState) (before after : SearchView) → IsRunning guided ordered budget s m before → t ≡ m → after ≡ before → IsCutOff guided ordered budget s after.journal t
cut_here guided ordered budget s m t before after running e f =
    before_turn (search_state m before) (subst (λ (v : SearchView). HasTurned guided ordered budget s v.journal (search_state m before)) (sym f) running.turned) e

pub cut_undoing : (guided ordered : Bool) (budget : ℕ) (s m t : EngineState) (before after : SearchView) (conflict : List Cid) → IsRunning guided ordered budget s m before → length before.journal < budget
    → IsCutUndoing conflict m before t after → IsCutOff guided ordered budget s after.journal t
cut_undoing guided ordered budget s m t before after conflict running lt (cut_before e f) = cut_here guided ordered budget s m t before after running e f
cut_undoing guided ordered budget s m t before after conflict running lt (cut_within gone next undoes e f) =
    in_undoing (search_state m before) next before.journal gone conflict undoes running.turned lt e f

pub cut_settling : (guided ordered : Bool) (budget : ℕ) (s m : EngineState) (before : SearchView) (turn : Turn) (taken after : View) (search : SearchView) → IsRunning guided ordered budget s m before → length before.journal < budget
    → TakesTurn guided turn m before taken.state search → IsInterrupted None ordered taken after → IsCutOff guided ordered budget s search.journal after.state
cut_settling guided ordered budget s m before turn taken after search running lt takes cut =
    in_settling (search_state m before) (search_state taken.state search) before.journal turn running.turned lt takes.takes takes.journal (interrupted_filters ordered taken after cut)

-- ---- how often support was asked for

pub checks_then : (k l m a b c most : ℕ) → a ≤ b → b ≤ c → l ≡ min (k + (b - a)) most → m ≡ min (l + (c - b)) most → m ≡ min (k + (c - a)) most
checks_then k l m a b c most ab bc e f = omega (arith, ab, bc, e, f)

pub later_then : (a b c : ℕ) → a ≤ b → b ≤ c → a ≤ c
later_then a b c ab bc = omega (arith, ab, bc)

-- after calls that ask for nothing comes a settling
pub counts_then : (first before middle after : View) (was now then : ℕ) → Counts first before was now → middle.checks ≡ before.checks → now ≤ then → after.checks ≡ min (middle.checks + (then - now)) LAST_COUNT → Counts first after was then
counts_then first before middle after was now then so_far same later e = record {
  later = later_then was now then so_far.later later;
  checks = checks_then first.checks before.checks after.checks was now then LAST_COUNT so_far.later later so_far.checks (e ∙ ap (λ n. min (n + (then - now)) LAST_COUNT) same);
}
