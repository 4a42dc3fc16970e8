-- What is left after a repair that was broken off.
use Rattle.std.proofs.Common.{◌≡◌, ℕ, Bool, not, List, [], sym, ap, subst}
use Rattle.std.specs.Prelude.{Result, Ok, OnOk}
use Rattle.palm_model.specs.State.{EngineState, IsValid}
use Rattle.palm_model.specs.Event.{WithdrawsAll}
use Rattle.palm_events.specs.Along.{IsStill}
use Rattle.palm_events.specs.Reasons.{ReasonsAreRight}
use Rattle.palm_events.proofs.cited.Valid.{posts_valid, withdraws_all_valid}
use Rattle.palm_engine.specs.Settling.{Filters}
use Rattle.palm_engine.proofs.cited.Settled.{filters_valid}
use Rattle.palm_search.specs.declared.turn.Turn.{Turn}
use Rattle.palm_search.specs.declared.ending.SearchEnd.{SearchEnd}
use Rattle.palm_search.specs.Calls.{SearchView}
use Rattle.palm_search.specs.Kept.{HasOnlyUsers}
use Rattle.palm_search.specs.Leaves.{Leaves}
use Rattle.palm_search.specs.Search.{of_search, search_cids}
use Rattle.palm_search.proofs.cited.Leaving.{users_none}
use Rattle.palm_search.proofs.cited.Owning.{Gains, Remembers, closing_leaves, closing_returns, gains_filtered, gains_none, others_new, remembers_filtered, remembers_none, remembers_posted, remembers_withdrawn, search_owns}
use Rattle.palm_repair.specs.declared.answer.RepairAnswer.{RepairAnswer}
use Rattle.palm_repair.specs.Posting.{RepairState}
use Rattle.palm_repair.specs.Repair.{Repairs}
use Rattle.palm_repair.specs.Turning.{BreaksOff, HasRun, HasTurned, IsCutOff}
use Rattle.palm_repair.specs.Turning.IsCutOff.{before_turn, in_first_settling, in_settling, within_turn}
use Rattle.palm_repair.proofs.cited.Ending.{IsKeptAlong, part_along, repair_leaves, repair_rests, gains_along, takes_along, turned_ended, turned_gains}

-- ---- where a repair is cut off

-- the engine is valid and remembers s
record Knows (s t : EngineState) : Type 0 where
  valid : IsValid t
  remembers : Remembers of_search s t

knows_along : (s : EngineState) → HasOnlyUsers s → IsKeptAlong (Knows s)
knows_along s users = record {
  posts = λ m a t f posts knows. record { valid = posts_valid m t a posts knows.valid; remembers = remembers_posted of_search s m a t (ap not f) posts knows.remembers };
  withdraws = λ m gone t may withdraws knows. record {
    valid = withdraws_all_valid m t gone may.keeps withdraws knows.valid;
    remembers = remembers_withdrawn of_search s m gone t (others_new of_search s search_owns (users_none s users) gone may.none) withdraws knows.remembers;
  };
}

knows_filtered : ReasonsAreRight → (s m t : EngineState) → Filters m t → Knows s m → Knows s t
knows_filtered right s m t filters knows = record { valid = filters_valid right m t filters knows.valid; remembers = remembers_filtered of_search s m t filters knows.remembers }

turned_knows : ReasonsAreRight → (guided ordered : Bool) (tabu budget : ℕ) (s : EngineState) (turns : List Turn) (m : RepairState) → HasOnlyUsers s → IsValid s → HasTurned guided ordered tabu budget s turns m → Knows s m.search.engine
turned_knows right guided ordered tabu budget s turns m users valid turned =
    let ended = turned_ended right guided ordered tabu s turned.start turns m users valid turned.settles turned.taken in
    record { valid = ended.searching.valid; remembers = ended.remembers }

cut_knows : ReasonsAreRight → (guided ordered : Bool) (tabu budget : ℕ) (s : EngineState) (turns : List Turn) (t : EngineState) → HasOnlyUsers s → IsValid s → IsCutOff guided ordered tabu budget s turns t → Knows s t
cut_knows right guided ordered tabu budget s turns t users valid (in_first_settling e filters) = knows_filtered right s s t filters (record { valid = valid; remembers = remembers_none of_search s })
cut_knows right guided ordered tabu budget s turns t users valid (before_turn m turned e) = subst (Knows s) (sym e) (turned_knows right guided ordered tabu budget s turns m users valid turned)
cut_knows right guided ordered tabu budget s turns t users valid (within_turn m next before turn takes turned lt e some) =
    let knows = turned_knows right guided ordered tabu budget s before m users valid turned in
    part_along (Knows s) (knows_along s users) guided tabu m turn next takes t knows.valid some knows
cut_knows right guided ordered tabu budget s turns t users valid (in_settling m next before turn takes turned lt e filters) =
    let knows = turned_knows right guided ordered tabu budget s before m users valid turned in
    knows_filtered right s next.search.engine t filters (takes_along (Knows s) (knows_along s users) guided tabu m turn next takes knows.valid knows)

gains_here : ReasonsAreRight → (guided ordered : Bool) (tabu budget : ℕ) (s : EngineState) (turns : List Turn) (m : RepairState) → HasOnlyUsers s → IsValid s → IsStill s → HasTurned guided ordered tabu budget s turns m
    → Gains of_search s m.search.engine
gains_here right guided ordered tabu budget s turns m users valid still turned = turned_gains right guided ordered tabu s turned.start turns m users valid still turned.settles turned.taken

cut_gains : ReasonsAreRight → (guided ordered : Bool) (tabu budget : ℕ) (s : EngineState) (turns : List Turn) (t : EngineState) → HasOnlyUsers s → IsValid s → IsStill s → IsCutOff guided ordered tabu budget s turns t → Gains of_search s t
cut_gains right guided ordered tabu budget s turns t users valid still (in_first_settling e filters) = gains_filtered right of_search s s t filters valid still (gains_none of_search s valid)
cut_gains right guided ordered tabu budget s turns t users valid still (before_turn m turned e) =
    subst (Gains of_search s) (sym e) (gains_here right guided ordered tabu budget s turns m users valid still turned)
cut_gains right guided ordered tabu budget s turns t users valid still (within_turn m next before turn takes turned lt e some) =
    let gains = gains_here right guided ordered tabu budget s before m users valid still turned in
    part_along (Gains of_search s) (gains_along s users valid) guided tabu m turn next takes t gains.valid some gains
cut_gains right guided ordered tabu budget s turns t users valid still (in_settling m next before turn takes turned lt e filters) =
    let gains = gains_here right guided ordered tabu budget s before m users valid still turned in
    gains_filtered right of_search s next.search.engine t filters valid still (takes_along (Gains of_search s) (gains_along s users valid) guided tabu m turn next takes gains.valid gains)

-- ---- and all its decisions and negations are withdrawn

-- what is left then
pub broken_leaves : {T E : Type 0} → ReasonsAreRight → (guided ordered : Bool) (tabu budget : ℕ) (s : EngineState) (turns : List Turn) (t : EngineState) (after : SearchView) (result : Result T E) → HasOnlyUsers s → IsValid s
    → BreaksOff guided ordered tabu budget s turns t → after.decisions ≡ [] → OnOk result (IsStill t) → Leaves s t after result
broken_leaves right guided ordered tabu budget s turns t after result users valid broken none still =
    let knows = cut_knows right guided ordered tabu budget s turns broken.cut users valid broken.is in
    let returns = closing_returns right of_search s broken.cut broken.middle t search_owns (users_none s users) valid knows.valid knows.remembers broken.withdraws broken.filters in
    record {
      active = returns.active;
      initial = returns.initial;
      log = λ rest. closing_leaves right of_search s broken.cut broken.middle t search_owns (users_none s users) valid rest (cut_gains right guided ordered tabu budget s turns broken.cut users valid rest broken.is) broken.withdraws broken.filters;
      still = still;
      decisions = none;
      valid = returns.valid;
    }

-- and after an answer
pub repaired_leaves : {T E : Type 0} → ReasonsAreRight → (guided ordered : Bool) (tabu budget : ℕ) (s : EngineState) (turns : List Turn) (end : SearchEnd) (dropped : ℕ) (t : EngineState) (after : SearchView) (answer : T)
    → HasOnlyUsers s → IsValid s → Repairs guided ordered tabu budget s turns end dropped t → after.decisions ≡ [] → Leaves {T = T} {E = E} s t after (Ok answer)
repaired_leaves right guided ordered tabu budget s turns end dropped t after answer users valid repairs none =
    let rests = repair_rests right guided ordered tabu budget s turns end dropped t users valid repairs in
    record {
      active = rests.active;
      initial = rests.initial;
      log = λ rest. repair_leaves right guided ordered tabu budget s turns end dropped t users valid rest repairs;
      still = rests.still;
      decisions = none;
      valid = rests.valid;
    }

-- memory ran out in the run
pub broken_in_run : (guided ordered : Bool) (tabu budget : ℕ) (s : EngineState) (turns : List Turn) (m n t : EngineState) → IsCutOff guided ordered tabu budget s turns m → WithdrawsAll m (search_cids m.active) n → Filters n t
    → BreaksOff guided ordered tabu budget s turns t
broken_in_run guided ordered tabu budget s turns m n t is withdraws filters = record { cut = m; is = is; middle = n; withdraws = withdraws; filters = filters }

-- the run has ended, and its decisions and negations are withdrawn
pub broken_at_end : (guided ordered : Bool) (tabu budget : ℕ) (s : EngineState) (turns : List Turn) (m : EngineState) (answer : RepairAnswer) (n t : EngineState) → HasRun guided ordered tabu budget s turns m answer
    → WithdrawsAll m (search_cids m.active) n → Filters n t → BreaksOff guided ordered tabu budget s turns t
broken_at_end guided ordered tabu budget s turns m answer n t has withdraws filters =
    let run = has.run in
    broken_in_run guided ordered tabu budget s turns m n t
    (before_turn has.last (record { start = run.start; settles = run.settles; taken = run.taken; within = run.within }) has.at) withdraws filters
