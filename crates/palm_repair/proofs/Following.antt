-- What a guide and an order are asked and told along a repair, turn after turn.
use Rattle.std.proofs.Common.{◌≡◌, ℕ, ◌≤◌, Bool, None, Some, Option, is_some, List, [], ◌∷◌, ◌++◌, length, refl, sym, ap, subst, arith}
use Rattle.palm_model.specs.State.{EngineState, IsValid}
use Rattle.palm_model.specs.Event.{WithdrawsAll}
use Rattle.palm_events.specs.Reasons.{ReasonsAreRight}
use Rattle.palm_engine.specs.Engine.{View}
use Rattle.palm_engine.specs.Following.{Hearing, HasSettledBy, LeadsAlong, hearings}
use Rattle.palm_engine.specs.declared.settle.Settle.{Settle}
use Rattle.palm_engine.proofs.cited.Leading.{leads_split, leads_then}
use Rattle.palm_search.specs.declared.turn.Turn.{Turn}
use Rattle.palm_search.specs.Calls.{SearchView, search_state}
use Rattle.palm_search.specs.Following.{Moment}
use Rattle.palm_search.specs.Kept.{HasOnlyUsers}
use Rattle.palm_search.specs.Search.{search_cids}
use Rattle.palm_search.proofs.cited.Following.{SettlesOn}
use Rattle.palm_repair.specs.declared.answer.RepairAnswer.{RepairAnswer}
use Rattle.palm_repair.specs.Answers.{end_of}
use Rattle.palm_repair.specs.Following.{HasRepairedBy, HasRunBy, repair_hearings, repair_moments, settled_hearings, turned_hearings}
use Rattle.palm_repair.specs.Learned.{LearnedView, repair_state}
use Rattle.palm_repair.specs.Posting.{RepairState}
use Rattle.palm_repair.specs.Repair.{RepairFollows, RepairTurns, repair_begun}
use Rattle.palm_repair.specs.Turning.{Advances, TakesRepairTurn}
use Rattle.palm_repair.proofs.Running.{IsRunning, none_learned, run_goes_on, run_starts}

-- ---- one turn more

-- turns, and what they and the settlings after them led to
record TurnsOn {X Y : Type 0} (guiding : Moment → X → X → Type 0) (ordering : Hearing → Y → Y → Type 0) (guided ordered : Bool) (tabu : ℕ) (s : RepairState) (turns : List Turn) (t : RepairState) (guide_first guide_last : X) (order_first order_last : Y) : Type 0 where
  taken : RepairTurns guided ordered tabu s turns t
  guide : LeadsAlong guiding (repair_moments guided ordered tabu s turns t taken) guide_first guide_last
  order : LeadsAlong ordering (turned_hearings guided ordered tabu s turns t taken) order_first order_last

turns_on : {X Y : Type 0} (guiding : Moment → X → X → Type 0) (ordering : Hearing → Y → Y → Type 0) (guided ordered : Bool) (tabu : ℕ) (a : RepairState) (turns : List Turn) (b : RepairState) (turn : Turn) (c : RepairState) (g h k : X) (o p q : Y)
    → (taken : RepairTurns guided ordered tabu a turns b) → LeadsAlong guiding (repair_moments guided ordered tabu a turns b taken) g h → LeadsAlong ordering (turned_hearings guided ordered tabu a turns b taken) o p
    → (follows : RepairFollows guided ordered tabu b turn c) → guiding (record { state = b.search; turn = turn }) h k → LeadsAlong ordering (settled_hearings ordered follows.middle c follows.settles) p q
    → TurnsOn guiding ordering guided ordered tabu a (turns ++ turn ∷ []) c g k o q
turns_on guiding ordering guided ordered tabu a [] b turn c g h k o p q taken guide order follows step settled =
    let moved : (f : RepairFollows guided ordered tabu a turn c) × LeadsAlong ordering (settled_hearings ordered f.middle c f.settles) p q =
    subst (λ (z : RepairState). (f : RepairFollows guided ordered tabu z turn c) × LeadsAlong ordering (settled_hearings ordered f.middle c f.settles) p q) taken (follows, settled) in
    let here = subst (λ (z : RepairState). guiding (record { state = z.search; turn = turn }) h k) taken step in
    record {
      taken = (c, moved.0, refl);
      guide = (k, subst (λ x. guiding (record { state = a.search; turn = turn }) x k) guide here, refl);
      order = leads_then ordering (settled_hearings ordered moved.0.middle c moved.0.settles) [] o q q (subst (λ y. LeadsAlong ordering (settled_hearings ordered moved.0.middle c moved.0.settles) y q) order moved.1) refl;
    }
turns_on guiding ordering guided ordered tabu a (first ∷ turns) b turn c g h k o p q taken guide order follows step settled =
    let heard = settled_hearings ordered taken.1.middle taken.0 taken.1.settles in
    let split = leads_split ordering heard (turned_hearings guided ordered tabu taken.0 turns b taken.2) o p order in
    let more = turns_on guiding ordering guided ordered tabu taken.0 turns b turn c guide.0 h k split.0 p q taken.2 guide.2 split.2 follows step settled in
    record {
      taken = (taken.0, taken.1, more.taken);
      guide = (guide.0, guide.1, more.guide);
      order = leads_then ordering heard (turned_hearings guided ordered tabu taken.0 (turns ++ turn ∷ []) c more.taken) o split.0 q split.1 more.order;
    }

-- ---- the run

-- the run so far, and what its turns and its settlings led to
pub record IsRunningBy {G O : Type 0} (guiding : Moment → Option G → Option G → Type 0) (ordering : Hearing → Option O → Option O → Type 0) (guide_first guide_now : Option G) (order_first order_now : Option O)
    (tabu budget : ℕ) (s t : EngineState) (search : SearchView) (learned : LearnedView) : Type 0 where
  pub running : IsRunning (is_some guide_first) (is_some order_first) tabu budget s t search learned
  pub guide : LeadsAlong guiding (repair_moments (is_some guide_first) (is_some order_first) tabu running.turned.start search.journal (repair_state t search.decisions learned) running.turned.taken) guide_first guide_now
  pub order_begun : Option O
  pub begins : LeadsAlong ordering (settled_hearings (is_some order_first) (repair_begun s) running.turned.start running.turned.settles) order_first order_begun
  pub order : LeadsAlong ordering (turned_hearings (is_some guide_first) (is_some order_first) tabu running.turned.start search.journal (repair_state t search.decisions learned) running.turned.taken) order_begun order_now

pub run_starts_by : ReasonsAreRight → {G O : Type 0} (guiding : Moment → Option G → Option G → Type 0) (ordering : Hearing → Option O → Option O → Type 0) (guide : Option G) (order_first order_now : Option O) (tabu budget : ℕ) (answer : Settle)
    (before after : View) (search : SearchView) (learned : LearnedView) → IsValid before.state → HasOnlyUsers before.state → search ≡ record { decisions = []; journal = [] } → HasSettledBy ordering None order_first order_now answer before after
    → learned ≡ none_learned before.state → IsRunningBy guiding ordering guide guide order_first order_now tabu budget before.state after.state search learned
run_starts_by right guiding ordering guide order_first order_now tabu budget answer before after search learned valid users fresh by new =
    let s = before.state in
    let first = none_learned s in
    let settled = by.settled in
    subst (λ (v : SearchView). IsRunningBy guiding ordering guide guide order_first order_now tabu budget s after.state v learned) (sym fresh)
    (subst (λ (v : LearnedView). IsRunningBy guiding ordering guide guide order_first order_now tabu budget s after.state (record { decisions = []; journal = [] }) v) (sym new) (record {
      running = record {
        turned = record {
          start = repair_state after.state [] first;
          settles = record { settles = record { revisions = settled.revisions; fits = settled.fits; settles = settled.settles; decisions = refl }; after = refl };
          taken = refl;
          within = omega arith;
        };
        ready = (run_starts right (is_some guide) (is_some order_first) tabu budget answer before after (record { decisions = []; journal = [] }) first valid users refl settled refl).ready;
      };
      guide = refl;
      order_begun = order_now;
      begins = by.followed;
      order = refl;
    }))

pub run_goes_on_by : ReasonsAreRight → {G O : Type 0} (guiding : Moment → Option G → Option G → Type 0) (ordering : Hearing → Option O → Option O → Type 0) (guide_first guide_was guide_now : Option G) (order_first order_was order_now : Option O)
    (tabu budget : ℕ) (s m : EngineState) (before : SearchView) (learned now : LearnedView) (turn : Turn) (answer : Settle) (taken after : View) (search : SearchView) → IsRunningBy guiding ordering guide_first guide_was order_first order_was tabu budget s m before learned
    → TakesRepairTurn (is_some guide_first) tabu turn (repair_state m before.decisions learned) before (repair_state taken.state search.decisions now) search → length search.journal ≤ budget → guiding (record { state = search_state m before; turn = turn }) guide_was guide_now
    → SettlesOn ordering (is_some order_first) answer taken after order_was order_now → IsRunningBy guiding ordering guide_first guide_now order_first order_now tabu budget s after.state search now
run_goes_on_by right guiding ordering guide_first guide_was guide_now order_first order_was order_now tabu budget s m before learned now turn answer taken after search by takes le step settles_on =
    let guided = is_some guide_first in
    let ordered = is_some order_first in
    let here = repair_state m before.decisions learned in
    let t = repair_state after.state search.decisions now in
    let longer : SearchView = record { decisions = search.decisions; journal = before.journal ++ turn ∷ [] } in
    let takes_longer : TakesRepairTurn guided tabu turn here before (repair_state taken.state search.decisions now) longer = record { takes = takes.takes; journal = refl } in
    let settled = settles_on.0 in
    let goes = run_goes_on right guided ordered tabu budget s m before learned now turn answer taken after longer by.running takes_longer (subst (λ (l : List Turn). length l ≤ budget) takes.journal le) settled in
    let turned = by.running.turned in
    let follows : RepairFollows guided ordered tabu here turn t = record {
      middle = repair_state taken.state search.decisions now;
      takes = takes.takes;
      settles = record { settles = record { revisions = settled.revisions; fits = settled.fits; settles = settled.settles; decisions = refl }; after = refl };
    } in
    let on = turns_on guiding ordering guided ordered tabu turned.start before.journal here turn t guide_first guide_was guide_now by.order_begun order_was order_now turned.taken by.guide by.order follows step settles_on.1 in
    subst (λ (l : List Turn). IsRunningBy guiding ordering guide_first guide_now order_first order_now tabu budget s after.state (record { decisions = search.decisions; journal = l }) now) (sym takes.journal) (record {
      running = record { turned = record { start = turned.start; settles = turned.settles; taken = on.taken; within = goes.turned.within }; ready = goes.ready };
      guide = on.guide;
      order_begun = by.order_begun;
      begins = by.begins;
      order = on.order;
    })

-- ---- the end

pub run_ends_by : {G O : Type 0} (guiding : Moment → Option G → Option G → Type 0) (ordering : Hearing → Option O → Option O → Type 0) (guide_first guide_was guide_now : Option G) (order_first order_now : Option O) (tabu budget : ℕ) (s m t : EngineState)
    (before after : SearchView) (learned now : LearnedView) (answer : RepairAnswer) → IsRunningBy guiding ordering guide_first guide_was order_first order_now tabu budget s m before learned
    → Advances guiding guide_was guide_now (is_some guide_first) tabu budget (repair_state m before.decisions learned) before (repair_state t after.decisions now) after (Some answer)
    → HasRunBy guiding ordering guide_first guide_now order_first order_now tabu budget s after.journal t answer
run_ends_by {G = G} guiding ordering guide_first guide_was guide_now order_first order_now tabu budget s m t before after learned now answer by ends =
    let guided = is_some guide_first in
    let ordered = is_some order_first in
    let turned = by.running.turned in
    let last = repair_state m before.decisions learned in
    let here : HasRunBy guiding ordering guide_first guide_was order_first order_now tabu budget s before.journal t answer = record {
      has_run = record {
        last = last;
        run = record {
          start = turned.start;
          settles = turned.settles;
          taken = turned.taken;
          within = turned.within;
          ends = ends.0;
          drops = refl;
        };
        at = ap (λ (z : RepairState). z.search.engine) ends.2;
        told = ends.1;
      };
      guide = by.guide;
      order = leads_then ordering (settled_hearings ordered (repair_begun s) turned.start turned.settles) (turned_hearings guided ordered tabu turned.start before.journal last turned.taken) order_first by.order_begun order_now by.begins by.order;
    } in
    subst (λ (o : Option G). HasRunBy guiding ordering guide_first o order_first order_now tabu budget s after.journal t answer) (sym ends.4)
    (subst (λ (v : SearchView). HasRunBy guiding ordering guide_first guide_was order_first order_now tabu budget s v.journal t answer) (sym ends.3) here)

-- all decisions and negations are withdrawn, and the engine settles once more
pub repaired_by : {G O : Type 0} (guiding : Moment → Option G → Option G → Type 0) (ordering : Hearing → Option O → Option O → Type 0) (guide_first guide_last : Option G) (order_first order_end order_last : Option O) (tabu budget : ℕ) (s : EngineState)
    (turns : List Turn) (m : EngineState) (answer : RepairAnswer) (settle : Settle) (closed after : View) → HasRunBy guiding ordering guide_first guide_last order_first order_end tabu budget s turns m answer
    → WithdrawsAll m (search_cids m.active) closed.state → SettlesOn ordering (is_some order_first) settle closed after order_end order_last
    → HasRepairedBy guiding ordering guide_first guide_last order_first order_last tabu budget s turns after.state answer
repaired_by guiding ordering guide_first guide_last order_first order_end order_last tabu budget s turns m answer settle closed after by withdraws settles_on =
    let settled = settles_on.0 in
    let run = by.has_run in
    let guided = is_some guide_first in
    let ordered = is_some order_first in
    record {
      repaired = record {
        dropped = run.last.dropped;
        repairs = record {
          last = run.last;
          run = run.run;
          closes = record {
            middle = closed.state;
            withdraws = subst (λ (z : EngineState). WithdrawsAll z (search_cids z.active) closed.state) run.at withdraws;
            revisions = settled.revisions;
            fits = settled.fits;
            settles = settled.settles;
          };
        };
        told = run.told;
      };
      guide = by.guide;
      order = leads_then ordering (repair_hearings guided ordered tabu budget s turns (end_of answer) run.last.dropped run.last run.run) (hearings closed.state settled.revisions after.state settled.settles.revisions) order_first order_end order_last by.order settles_on.1;
    }
