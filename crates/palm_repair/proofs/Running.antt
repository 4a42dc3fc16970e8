-- A run of a repair, turn after turn, and what is left after it.
use Rattle.std.proofs.Common.{◌≡◌, ℕ, ◌<◌, ◌≤◌, Bool, None, List, [], ◌∷◌, ◌++◌, length, map, Contains, ◌⊎◌, refl, sym, ap, ◌∙◌, subst, arith, length-append}
use Rattle.palm_base.specs.declared.terms.Pair.{Pair}
use Rattle.palm_base.proofs.cited.Members.{member_unmap}
use Rattle.palm_model.specs.Domains.{Domains}
use Rattle.palm_model.specs.State.{EngineState, IsValid}
use Rattle.palm_events.specs.Reasons.{ReasonsAreRight}
use Rattle.palm_engine.specs.Engine.{View, HasSettled, IsInterrupted, KeepsCounts}
use Rattle.palm_engine.specs.Settling.{Filters}
use Rattle.palm_engine.specs.declared.settle.Settle.{Settle}
use Rattle.palm_search.specs.declared.turn.Turn.{Turn}
use Rattle.palm_search.specs.Calls.{SearchView, search_state}
use Rattle.palm_search.specs.Kept.{HasDecisions, HasOnlyUsers}
use Rattle.palm_search.specs.Leaves.{Counts}
use Rattle.palm_search.proofs.cited.Deciding.{settles_has}
use Rattle.palm_search.proofs.cited.Leaving.{run_found, run_unsolved, run_users}
use Rattle.palm_search.proofs.cited.Running.{interrupted_filters}
use Rattle.palm_repair.specs.declared.answer.RepairAnswer.{RepairAnswer}
use Rattle.palm_repair.specs.declared.answer.RepairAnswer.TheVariants.{Found, NoSolution, Spent}
use Rattle.palm_repair.specs.Answers.{HasRepaired, IsTrueOf}
use Rattle.palm_repair.specs.Learned.{LearnedView, repair_state}
use Rattle.palm_repair.specs.Posting.{RepairState}
use Rattle.palm_repair.specs.Repair.{RepairFollows, RepairSettles, RepairTurns}
use Rattle.palm_repair.specs.Sets.{most_repair_turns}
use Rattle.palm_repair.specs.Turning.{HasTurned, IsCutOff, IsCutTurn, IsReady, TakesRepairTurn}
use Rattle.palm_repair.specs.Turning.IsCutOff.{before_turn, in_first_settling, in_settling, within_turn}
use Rattle.palm_repair.specs.Turning.IsCutTurn.{cut_before, cut_within}
use Rattle.palm_repair.proofs.Blocking.{starts_at_turn}
use Rattle.palm_repair.proofs.cited.Counting.{repair_run_spent}
use Rattle.palm_repair.proofs.cited.Ending.{repair_ended}
use Rattle.palm_repair.proofs.Stepping.{follows_ready}

-- ---- settling

pub filtered_has : (before after : EngineState) (search : SearchView) → Filters before after → HasDecisions (search_state before search) → HasDecisions (search_state after search)
filtered_has before after search filters has = settles_has (search_state before search) (search_state after search) filters.active refl has

settled_repair : (ordered : Bool) (answer : Settle) (before after : View) (decisions : List Pair) (learned : LearnedView) → HasSettled None ordered answer before after
    → RepairSettles ordered (repair_state before.state decisions learned) (repair_state after.state decisions learned)
settled_repair ordered answer before after decisions learned settled = record {
  settles = record { revisions = settled.revisions; fits = settled.fits; settles = settled.settles; decisions = refl };
  after = refl;
}

-- ---- the run

-- the turns of the journal lead from s to the state of the engine, the search and what is kept beside them
pub record IsRunning (guided ordered : Bool) (tabu budget : ℕ) (s t : EngineState) (search : SearchView) (learned : LearnedView) : Type 0 where
  pub turned : HasTurned guided ordered tabu budget s search.journal (repair_state t search.decisions learned)
  pub ready : IsReady tabu (length search.journal) (repair_state t search.decisions learned)

zero_weights : (d : Domains) (w : ℕ) → Contains (map (λ vs. 0) d) w → w ≡ 0
zero_weights d w m = let r = member_unmap (λ vs. 0) d w m in sym r.2

-- nothing was learned yet
abbrev pub none_learned : EngineState → LearnedView
none_learned s = record { nogoods = []; origins = []; weights = map (λ vs. 0) s.initial; dropped = 0 }

none_turned : (guided ordered : Bool) (tabu budget : ℕ) (answer : Settle) (before after : View) → HasSettled None ordered answer before after
    → HasTurned guided ordered tabu budget before.state [] (repair_state after.state [] (none_learned before.state))
none_turned guided ordered tabu budget answer before after settled = record {
  start = repair_state after.state [] (none_learned before.state);
  settles = settled_repair ordered answer before after [] (none_learned before.state) settled;
  taken = refl;
  within = omega arith;
}

pub run_starts : ReasonsAreRight → (guided ordered : Bool) (tabu budget : ℕ) (answer : Settle) (before after : View) (search : SearchView) (learned : LearnedView) → IsValid before.state → HasOnlyUsers before.state
    → search ≡ record { decisions = []; journal = [] } → HasSettled None ordered answer before after → learned ≡ none_learned before.state → IsRunning guided ordered tabu budget before.state after.state search learned
run_starts right guided ordered tabu budget answer before after search learned valid users fresh settled new =
    let s = before.state in
    let first = none_learned s in
    subst (λ (v : SearchView). IsRunning guided ordered tabu budget s after.state v learned) (sym fresh)
    (subst (λ (v : LearnedView). IsRunning guided ordered tabu budget s after.state (record { decisions = []; journal = [] }) v) (sym new) (record {
      turned = none_turned guided ordered tabu budget answer before after settled;
      ready = record {
        at = starts_at_turn right ordered s (repair_state after.state [] first) valid users (settled_repair ordered answer before after [] first settled);
        few = omega arith;
        weights = λ w m. let e = zero_weights s.initial w m in omega (arith, e);
        listed = omega arith;
      };
    }))

repair_push : (guided ordered : Bool) (tabu : ℕ) (a : RepairState) (turns : List Turn) (b : RepairState) (turn : Turn) (c : RepairState) → RepairTurns guided ordered tabu a turns b → RepairFollows guided ordered tabu b turn c
    → RepairTurns guided ordered tabu a (turns ++ turn ∷ []) c
repair_push guided ordered tabu a [] b turn c run follows = (c, subst (λ z. RepairFollows guided ordered tabu z turn c) run follows, refl)
repair_push guided ordered tabu a (first ∷ turns) b turn c run follows = (run.0, run.1, repair_push guided ordered tabu run.0 turns b turn c run.2 follows)

turned_more : (guided ordered : Bool) (tabu budget : ℕ) (s : EngineState) (before after : List Turn) (m : RepairState) (turn : Turn) (t : RepairState) → HasTurned guided ordered tabu budget s before m → RepairFollows guided ordered tabu m turn t
    → after ≡ before ++ turn ∷ [] → length after ≤ budget → HasTurned guided ordered tabu budget s after t
turned_more guided ordered tabu budget s before after m turn t turned follows e le = record {
  start = turned.start;
  settles = turned.settles;
  taken = subst (λ l. RepairTurns guided ordered tabu turned.start l t) (sym e) (repair_push guided ordered tabu turned.start before m turn t turned.taken follows);
  within = le;
}

pub run_goes_on : ReasonsAreRight → (guided ordered : Bool) (tabu budget : ℕ) (s m : EngineState) (before : SearchView) (learned now : LearnedView) (turn : Turn) (answer : Settle) (taken after : View) (search : SearchView)
    → IsRunning guided ordered tabu budget s m before learned → TakesRepairTurn guided tabu turn (repair_state m before.decisions learned) before (repair_state taken.state search.decisions now) search → length search.journal ≤ budget
    → HasSettled None ordered answer taken after → IsRunning guided ordered tabu budget s after.state search now
run_goes_on right guided ordered tabu budget s m before learned now turn answer taken after search running takes le settled =
    let t = repair_state after.state search.decisions now in
    let follows : RepairFollows guided ordered tabu (repair_state m before.decisions learned) turn t =
    record { middle = repair_state taken.state search.decisions now; takes = takes.takes; settles = settled_repair ordered answer taken after search.decisions now settled } in
    let longer = ap length takes.journal ∙ length-append before.journal (turn ∷ []) in
    record {
      turned = turned_more guided ordered tabu budget s before.journal search.journal (repair_state m before.decisions learned) turn t running.turned follows takes.journal le;
      ready = subst (λ n. IsReady tabu n t) (sym longer) (follows_ready right guided ordered tabu (length before.journal) (repair_state m before.decisions learned) turn t follows running.ready);
    }

-- ---- where it is cut off

pub cut_first : (guided ordered : Bool) (tabu budget : ℕ) (before after : View) (search : SearchView) → search ≡ record { decisions = []; journal = [] } → IsInterrupted None ordered before after
    → IsCutOff guided ordered tabu budget before.state search.journal after.state
cut_first guided ordered tabu budget before after search fresh cut = in_first_settling (ap (λ (v : SearchView). v.journal) fresh) (interrupted_filters ordered before after cut)

pub cut_started : (guided ordered : Bool) (tabu budget : ℕ) (answer : Settle) (before after : View) (search : SearchView) → search ≡ record { decisions = []; journal = [] } → HasSettled None ordered answer before after
    → IsCutOff guided ordered tabu budget before.state search.journal after.state
cut_started guided ordered tabu budget answer before after search fresh settled =
    subst (λ (v : SearchView). IsCutOff guided ordered tabu budget before.state v.journal after.state) (sym fresh)
    (before_turn (repair_state after.state [] (none_learned before.state)) (none_turned guided ordered tabu budget answer before after settled) refl)

pub cut_turn : (guided ordered : Bool) (tabu budget : ℕ) (s m t : EngineState) (before after : SearchView) (learned : LearnedView) → IsRunning guided ordered tabu budget s m before learned
    → IsCutTurn guided tabu (repair_state m before.decisions learned) before t after → length after.journal ≤ budget → IsCutOff guided ordered tabu budget s after.journal t
cut_turn guided ordered tabu budget s m t before after learned running (cut_before e f) le =
    let here = repair_state m before.decisions learned in
    before_turn here (subst (λ l. HasTurned guided ordered tabu budget s l here) (sym f) running.turned) e
cut_turn guided ordered tabu budget s m t before after learned running (cut_within turn next takes some e) le =
    let longer = ap length e ∙ length-append before.journal (turn ∷ []) in
    within_turn (repair_state m before.decisions learned) next before.journal turn takes running.turned (omega (arith, longer, le)) e some

pub cut_settling : (guided ordered : Bool) (tabu budget : ℕ) (s m : EngineState) (before : SearchView) (learned now : LearnedView) (turn : Turn) (taken after : View) (search : SearchView) → IsRunning guided ordered tabu budget s m before learned
    → length before.journal < budget → TakesRepairTurn guided tabu turn (repair_state m before.decisions learned) before (repair_state taken.state search.decisions now) search → IsInterrupted None ordered taken after
    → IsCutOff guided ordered tabu budget s search.journal after.state
cut_settling guided ordered tabu budget s m before learned now turn taken after search running lt takes cut =
    in_settling (repair_state m before.decisions learned) (repair_state taken.state search.decisions now) before.journal turn takes.takes running.turned lt takes.journal (interrupted_filters ordered taken after cut)

-- ---- the whole

pub answer_true : ReasonsAreRight → (guided ordered : Bool) (tabu budget : ℕ) (s : EngineState) (turns : List Turn) (t : EngineState) (answer : RepairAnswer) → HasOnlyUsers s → IsValid s → HasRepaired guided ordered tabu budget s turns t answer
    → IsTrueOf s budget answer
answer_true right guided ordered tabu budget s turns t (Found values) users valid whole =
    let run = whole.repairs.run in
    run_found s whole.repairs.last.search values (repair_ended right guided ordered tabu budget s turns _ whole.dropped whole.repairs.last users valid run) run.ends
answer_true right guided ordered tabu budget s turns t (NoSolution cids) users valid whole =
    let run = whole.repairs.run in
    let last = whole.repairs.last.search in
    let ended = repair_ended right guided ordered tabu budget s turns _ whole.dropped whole.repairs.last users valid run in
    record { active = run_users s last cids ended run.ends; none = run_unsolved s last cids ended run.ends }
answer_true right guided ordered tabu budget s turns t (Spent spent dropped) users valid whole =
    let r = repair_run_spent right guided ordered tabu budget spent s turns whole.dropped whole.repairs.last valid users whole.repairs.run in
    (r.0, subst (λ k. (0 < k) ⊎ (spent < most_repair_turns s.initial)) (sym whole.told) r.1)

-- ---- how often support was asked for

-- a turn counts nothing
pub counts_kept : (first before after : View) (was now : ℕ) → Counts first before was now → KeepsCounts before after → Counts first after was now
counts_kept first before after was now counts kept = record { later = counts.later; checks = kept.checks ∙ counts.checks }
