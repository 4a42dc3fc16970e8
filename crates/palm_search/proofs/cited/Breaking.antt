-- What is left after a run, whether it ended or was broken off.
use Rattle.std.proofs.Common.{◌≡◌, ℕ, Bool, List, [], refl, sym, subst}
use Rattle.std.specs.Prelude.{Result, Ok, OnOk}
use Rattle.palm_base.specs.declared.terms.Cid.TheVariants.{Decide}
use Rattle.palm_model.specs.State.{EngineState, IsValid}
use Rattle.palm_events.specs.Along.{IsStill}
use Rattle.palm_events.specs.Reasons.{ReasonsAreRight}
use Rattle.palm_events.proofs.cited.Valid.{withdraws_valid}
use Rattle.palm_model.specs.Event.{WithdrawsAll}
use Rattle.palm_engine.specs.Settling.{Filters}
use Rattle.palm_engine.proofs.cited.Settled.{filters_valid}
use Rattle.palm_search.specs.declared.turn.Turn.{Turn}
use Rattle.palm_search.specs.Kept.{HasOnlyUsers}
use Rattle.palm_search.specs.declared.ending.SearchEnd.{SearchEnd}
use Rattle.palm_search.specs.Search.{SearchRun, Searches, of_search, search_cids}
use Rattle.palm_search.specs.Turns.{SearchState}
use Rattle.palm_search.proofs.cited.Keeping.{takes_keep}
use Rattle.palm_search.proofs.cited.Leaving.{Ended, search_leaves, search_rests, turned_ended, turned_gains, users_none}
use Rattle.palm_search.proofs.cited.Owning.{Gains, Remembers, closing_leaves, closing_returns, gains_filtered, gains_none, gains_takes, gains_undone, remembers_filtered, remembers_none, remembers_takes, remembers_undone, search_owns}
use Rattle.palm_search.specs.Breaking.{BreaksOff, HasTurned, IsCutOff}
use Rattle.palm_search.specs.Breaking.IsCutOff.{before_turn, in_first_settling, in_settling, in_undoing}
use Rattle.palm_search.specs.Calls.{SearchView}
use Rattle.palm_search.specs.Leaves.{Leaves}

-- ---- where a run is cut off

ended_here : ReasonsAreRight → (guided ordered : Bool) (budget : ℕ) (s : EngineState) (turns : List Turn) (m : SearchState) → HasOnlyUsers s → IsValid s → HasTurned guided ordered budget s turns m → Ended s m
ended_here right guided ordered budget s turns m users valid turned = turned_ended right guided ordered s turned.start turns m users valid turned.settles turned.taken

-- the engine is valid and remembers s
record Knows (s t : EngineState) : Type 0 where
  valid : IsValid t
  remembers : Remembers of_search s t

cut_knows : ReasonsAreRight → (guided ordered : Bool) (budget : ℕ) (s : EngineState) (turns : List Turn) (t : EngineState) → HasOnlyUsers s → IsValid s → IsCutOff guided ordered budget s turns t → Knows s t
cut_knows right guided ordered budget s turns t users valid (in_first_settling e filters) =
    record { valid = filters_valid right s t filters valid; remembers = remembers_filtered of_search s s t filters (remembers_none of_search s) }
cut_knows right guided ordered budget s turns t users valid (before_turn m turned e) =
    let ended = ended_here right guided ordered budget s turns m users valid turned in
    subst (Knows s) (sym e) (record { valid = ended.searching.valid; remembers = ended.remembers })
cut_knows right guided ordered budget s turns t users valid (in_undoing m next before gone conflict undoes turned lt e f) =
    let ended = ended_here right guided ordered budget s before m users valid turned in
    subst (Knows s) (sym f) (record {
      valid = withdraws_valid m.engine undoes.middle (Decide gone.var) undoes.withdraws ended.searching.valid;
      remembers = remembers_undone of_search s m gone conflict next undoes search_owns (users_none s users) ended.searching.valid ended.remembers;
    })
cut_knows right guided ordered budget s turns t users valid (in_settling m next before turn turned lt takes e filters) =
    let ended = ended_here right guided ordered budget s before m users valid turned in
    record {
      valid = filters_valid right next.engine t filters (takes_keep guided m turn next takes ended.searching).valid;
      remembers = remembers_filtered of_search s next.engine t filters (remembers_takes guided of_search s m turn next search_owns (users_none s users) ended.searching.valid takes ended.remembers);
    }

gains_here : ReasonsAreRight → (guided ordered : Bool) (budget : ℕ) (s : EngineState) (turns : List Turn) (m : SearchState) → HasOnlyUsers s → IsValid s → IsStill s → HasTurned guided ordered budget s turns m → Gains of_search s m.engine
gains_here right guided ordered budget s turns m users valid still turned = turned_gains right guided ordered s turned.start turns m users valid still turned.settles turned.taken

cut_gains : ReasonsAreRight → (guided ordered : Bool) (budget : ℕ) (s : EngineState) (turns : List Turn) (t : EngineState) → HasOnlyUsers s → IsValid s → IsStill s → IsCutOff guided ordered budget s turns t → Gains of_search s t
cut_gains right guided ordered budget s turns t users valid still (in_first_settling e filters) = gains_filtered right of_search s s t filters valid still (gains_none of_search s valid)
cut_gains right guided ordered budget s turns t users valid still (before_turn m turned e) =
    subst (Gains of_search s) (sym e) (gains_here right guided ordered budget s turns m users valid still turned)
cut_gains right guided ordered budget s turns t users valid still (in_undoing m next before gone conflict undoes turned lt e f) =
    subst (Gains of_search s) (sym f) (gains_undone of_search s m gone conflict next undoes search_owns (users_none s users) valid (gains_here right guided ordered budget s before m users valid still turned))
cut_gains right guided ordered budget s turns t users valid still (in_settling m next before turn turned lt takes e filters) =
    gains_filtered right of_search s next.engine t filters valid still (gains_takes guided of_search s m turn next search_owns (users_none s users) valid takes (gains_here right guided ordered budget s before m users valid still turned))

-- ---- and all its decisions and negations are withdrawn

pub broken_leaves : {T E : Type 0} → ReasonsAreRight → (guided ordered : Bool) (budget : ℕ) (s : EngineState) (turns : List Turn) (t : EngineState) (after : SearchView) (result : Result T E) → HasOnlyUsers s → IsValid s
    → BreaksOff guided ordered budget s turns t → IsValid t → after.decisions ≡ [] → OnOk result (IsStill t) → Leaves s t after result
broken_leaves right guided ordered budget s turns t after result users valid broken valid_after none still =
    let knows = cut_knows right guided ordered budget s turns broken.cut users valid broken.is in
    let returns = closing_returns right of_search s broken.cut broken.middle t search_owns (users_none s users) valid knows.valid knows.remembers broken.withdraws broken.filters in
    record {
      active = returns.active;
      initial = returns.initial;
      log = λ rest. closing_leaves right of_search s broken.cut broken.middle t search_owns (users_none s users) valid rest (cut_gains right guided ordered budget s turns broken.cut users valid rest broken.is) broken.withdraws broken.filters;
      still = still;
      decisions = none;
      valid = valid_after;
    }

-- the run has ended, and its decisions and negations are withdrawn
pub broken_at_end : (guided ordered : Bool) (budget : ℕ) (s : EngineState) (turns : List Turn) (end : SearchEnd) (last : SearchState) (n t : EngineState) → SearchRun guided ordered budget s turns end last
    → WithdrawsAll last.engine (search_cids last.engine.active) n → Filters n t → BreaksOff guided ordered budget s turns t
broken_at_end guided ordered budget s turns end last n t run withdraws filters = record {
  cut = last.engine;
  is = before_turn last (record { start = run.start; settles = run.settles; taken = run.taken; within = run.within }) refl;
  middle = n;
  withdraws = withdraws;
  filters = filters;
}

pub searches_leaves : {T E : Type 0} → ReasonsAreRight → (guided ordered : Bool) (budget : ℕ) (s : EngineState) (turns : List Turn) (end : SearchEnd) (t : EngineState) (after : SearchView) (answer : T) → HasOnlyUsers s → IsValid s
    → Searches guided ordered budget s turns end t → IsValid t → after.decisions ≡ [] → Leaves {T = T} {E = E} s t after (Ok answer)
searches_leaves right guided ordered budget s turns end t after answer users valid searches valid_after none =
    let rests = search_rests right guided ordered budget s turns end t users valid searches in
    record {
      active = rests.active;
      initial = rests.initial;
      log = λ rest. search_leaves right guided ordered budget s turns end t users valid rest searches;
      still = rests.still;
      decisions = none;
      valid = valid_after;
    }
