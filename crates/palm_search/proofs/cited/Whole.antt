-- Whole searches: there is one for every budget, and without guide and order no other.
use Rattle.std.proofs.Common.{◌≡◌, ℕ, Bool, false, None, List, subst}
use Rattle.palm_model.specs.State.{EngineState, IsValid}
use Rattle.palm_model.specs.Event.{WithdrawsAll}
use Rattle.palm_events.specs.Reasons.{ReasonsAreRight}
use Rattle.palm_events.proofs.cited.Valid.{withdraws_all_valid}
use Rattle.palm_events.proofs.cited.Outcomes.{withdrawal_exists, withdrawal_same}
use Rattle.palm_engine.specs.Settling.{Settles}
use Rattle.palm_engine.proofs.cited.Settled.{plainly_exists, plainly_same}
use Rattle.palm_search.specs.declared.turn.Pick.{Pick}
use Rattle.palm_search.specs.declared.turn.Turn.{Turn}
use Rattle.palm_search.specs.Turns.{SearchState, FitsGuide}
use Rattle.palm_search.specs.declared.ending.SearchEnd.{SearchEnd}
use Rattle.palm_search.specs.Search.{SearchRun, Closes, Searches, SearchesTo, IsSameSearch, begun, of_search, search_cids}
use Rattle.palm_search.specs.Kept.{HasOnlyUsers, IsSearching}
use Rattle.palm_search.proofs.cited.Keeping.{begins, settles_keep, turns_keep}
use Rattle.palm_search.proofs.cited.Owning.{closing_keeps, search_owns}
use Rattle.palm_search.proofs.cited.Alone.{run_same}
use Rattle.palm_search.proofs.cited.Going.{order_fits, run_exists}

run_searching : ReasonsAreRight → (guided ordered : Bool) (budget : ℕ) (s : EngineState) (turns : List Turn) (end : SearchEnd) (t : SearchState) → IsValid s → HasOnlyUsers s → SearchRun guided ordered budget s turns end t → IsSearching t
run_searching right guided ordered budget s turns end t valid users run =
    turns_keep right guided ordered run.start turns t run.taken (settles_keep right ordered (begun s) run.start run.settles (begins s valid users))

closed_valid : (m t : EngineState) → IsValid m → WithdrawsAll m (search_cids m.active) t → IsValid t
closed_valid m t valid withdraws = withdraws_all_valid m t (search_cids m.active) (closing_keeps of_search search_owns m valid) withdraws valid

pub closes_exist : (ordered : Bool) (m : EngineState) → IsValid m → (t : EngineState) × Closes of_search ordered m t
closes_exist ordered m valid =
    let w = withdrawal_exists m (search_cids m.active) valid in
    let r = plainly_exists None w.0 (closed_valid m w.0 valid w.1) in
    (r.state, record { middle = w.0; withdraws = w.1; revisions = r.revisions; fits = order_fits ordered r.revisions r.fits; settles = r.settles })

pub closes_same : (m t u : EngineState) → IsValid m → Closes of_search false m t → Closes of_search false m u → t ≡ u
closes_same m t u valid one two =
    let middle : one.middle ≡ two.middle = withdrawal_same m (search_cids m.active) one.middle two.middle one.withdraws two.withdraws in
    (plainly_same None two.middle one.revisions t two.revisions u (closed_valid m two.middle valid two.withdraws) one.fits two.fits (subst (λ z. Settles None z one.revisions t) middle one.settles) two.settles).state

pub search_exists : ReasonsAreRight → (guided ordered : Bool) (f : ℕ → Pick) → ((k : ℕ) → FitsGuide guided (f k)) → (budget : ℕ) (s : EngineState) → IsValid s → HasOnlyUsers s → SearchesTo guided ordered f budget s
search_exists right guided ordered f fits budget s valid users =
    let r = run_exists right guided ordered f fits budget s valid users in
    let c = closes_exist ordered r.state.engine (run_searching right guided ordered budget s r.turns r.end r.state valid users r.run).valid in
    record { turns = r.turns; end = r.end; state = c.0; searches = record { last = r.state; run = r.run; closes = c.1 }; picked = r.picked }

pub search_same : ReasonsAreRight → (budget : ℕ) (s : EngineState) (turns : List Turn) (end : SearchEnd) (t : EngineState) (others : List Turn) (other : SearchEnd) (u : EngineState)
    → IsValid s → HasOnlyUsers s → Searches false false budget s turns end t → Searches false false budget s others other u → IsSameSearch turns end t others other u
search_same right budget s turns end t others other u valid users one two =
    let run = run_same right budget s valid users turns end one.last others other two.last one.run two.run in
    let last = (run_searching right false false budget s others other two.last valid users two.run).valid in
    record {
      turns_same = run.turns_same;
      end_same = run.end_same;
      state_same = closes_same two.last.engine t u last (subst (λ (z : SearchState). Closes of_search false z.engine t) run.state one.closes) two.closes;
    }
