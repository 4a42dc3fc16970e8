-- What a guide and an order were asked and told along a run that was broken off.
use Rattle.std.proofs.Common.{◌≡◌, ℕ, ◌<◌, ◌⊎◌, None, Option, is_some, List, [], ◌∷◌, ◌++◌, length, inl, inr, refl, sym, ap, ◌∙◌, subst, arith, length-append}
use Rattle.palm_base.specs.declared.terms.Cid.{Cid}
use Rattle.palm_base.specs.declared.terms.Pair.{Pair}
use Rattle.palm_model.specs.State.{EngineState, present}
use Rattle.palm_engine.specs.Engine.{View}
use Rattle.palm_engine.specs.Following.{Hearing, IsInterruptedBy}
use Rattle.palm_engine.proofs.cited.Leading.{leads_then}
use Rattle.palm_guide.specs.declared.guide.ViewRow.{ViewRow}
use Rattle.palm_search.specs.declared.turn.Pick.{Pick}
use Rattle.palm_search.specs.declared.turn.Turn.{Turn}
use Rattle.palm_search.specs.declared.turn.Turn.TheVariants.{Undo}
use Rattle.palm_search.specs.Asked.{Asks}
use Rattle.palm_search.specs.Calls.{SearchView, TakesTurn, search_state}
use Rattle.palm_search.specs.Following.{GuideFollows, Moment, settling_hearings, turns_hearings}
use Rattle.palm_search.specs.Search.{begun}
use Rattle.palm_search.specs.Stopping.{GuideStops, HasTurnedBy, IsCutOffBy, OrderStops}
use Rattle.palm_search.specs.Stopping.GuideStops.{stops_asked, stops_silent, stops_told}
use Rattle.palm_search.specs.Stopping.OrderStops.{stops_before, stops_within}
use Rattle.palm_search.specs.Stopping.IsCutOffBy.{by_first_settling, by_next_turn, by_settling, by_undoing}
use Rattle.palm_search.specs.Turning.{Hears, IsCutUndoing}
use Rattle.palm_search.specs.Turning.IsCutUndoing.{cut_before, cut_within}
use Rattle.palm_search.specs.Turns.{SearchState, HasFlatConflict, decided_vars}
use Rattle.palm_search.proofs.cited.Following.{IsRunningBy}

-- ---- the last step

-- a settling that was interrupted
pub order_stops : {O : Type 0} {answering : List Cid → ℕ → Option O → Option O → Type 0} {ordering : Hearing → Option O → Option O → Type 0} (first last : Option O) (before after : View) → IsInterruptedBy answering ordering None first last before after
    → OrderStops answering ordering first last before.state after.state
order_stops first last before after cut = stops_within before after refl refl cut

-- one that was not begun
pub order_silent : {O : Type 0} {answering : List Cid → ℕ → Option O → Option O → Type 0} {ordering : Hearing → Option O → Option O → Type 0} (order : Option O) (s : EngineState) → OrderStops answering ordering order order s s
order_silent order s = stops_before refl refl

-- a decision that was not taken
pub decision_stops : {G : Type 0} {answers : G → List ViewRow → Option Pair → List ℕ → Type 0} {hears : G → List ℕ → List ℕ → Type 0} {state : G → List ℕ} (s : SearchState) (old new : Option G)
    → (new ≡ old) ⊎ ((pick : Pick) × Asks answers state (present s.engine) old new pick) → GuideStops answers hears state s old new
decision_stops s old new (inl same) = stops_silent same
decision_stops s old new (inr asked) = stops_asked asked.0 asked.1

-- ---- the turns so far

pub turned_by : {G O : Type 0} {guiding : Moment → Option G → Option G → Type 0} {ordering : Hearing → Option O → Option O → Type 0} (guide_first guide_now : Option G) (order_first order_now : Option O) (budget : ℕ) (s m : EngineState) (search : SearchView)
    → IsRunningBy guiding ordering (is_some guide_first) guide_first guide_now order_first order_now budget s m search → HasTurnedBy guiding ordering guide_first guide_now order_first order_now budget s search.journal (search_state m search)
turned_by {ordering = ordering} guide_first guide_now order_first order_now budget s m search by =
    let turned = by.running.turned in
    let guided = is_some guide_first in
    let ordered = is_some order_first in
    record {
      turned = turned;
      guide = by.guide;
      order = leads_then ordering (settling_hearings ordered (begun s) turned.start turned.settles) (turns_hearings guided ordered turned.start search.journal (search_state m search) turned.taken) order_first by.order_begun order_now by.begins by.order;
    }

-- ---- where it is cut off

pub cut_first_by : {G O : Type 0} {guiding : Moment → Option G → Option G → Type 0} {stopping : SearchState → Option G → Option G → Type 0} {ordering : Hearing → Option O → Option O → Type 0} {answering : List Cid → ℕ → Option O → Option O → Type 0}
    (guide : Option G) (order_first order_last : Option O) (budget : ℕ) (s t : EngineState) (search : SearchView) → search ≡ record { decisions = []; journal = [] } → OrderStops answering ordering order_first order_last s t
    → IsCutOffBy guiding stopping ordering answering guide guide order_first order_last budget s search.journal t
cut_first_by guide order_first order_last budget s t search fresh stops = by_first_settling (ap (λ (v : SearchView). v.journal) fresh) refl stops

pub cut_here_by : {G O : Type 0} {guiding : Moment → Option G → Option G → Type 0} {stopping : SearchState → Option G → Option G → Type 0} {ordering : Hearing → Option O → Option O → Type 0} {answering : List Cid → ℕ → Option O → Option O → Type 0}
    (guide_first guide_now guide_last : Option G) (order_first order_now : Option O) (budget : ℕ) (s m t : EngineState) (before after : SearchView) → IsRunningBy guiding ordering (is_some guide_first) guide_first guide_now order_first order_now budget s m before
    → t ≡ m → after ≡ before → stopping (search_state m before) guide_now guide_last → IsCutOffBy guiding stopping ordering answering guide_first guide_last order_first order_now budget s after.journal t
cut_here_by {guiding = guiding} {stopping = stopping} {ordering = ordering} {answering = answering} guide_first guide_now guide_last order_first order_now budget s m t before after by e f stops =
    subst (λ (v : SearchView). IsCutOffBy guiding stopping ordering answering guide_first guide_last order_first order_now budget s v.journal t) (sym f)
    (by_next_turn (search_state m before) guide_now (turned_by guide_first guide_now order_first order_now budget s m before by) e stops)

longer : (turns : List Turn) (turn : Turn) → turns ≡ turns ++ turn ∷ [] → ⊥
longer turns turn e = let n = ap length e ∙ length-append turns (turn ∷ []) in omega (arith, n)

-- an undoing that was not begun, or not ended
pub cut_undoing_by : {G O : Type 0} (answers : G → List ViewRow → Option Pair → List ℕ → Type 0) (hears : G → List ℕ → List ℕ → Type 0) (state : G → List ℕ) {ordering : Hearing → Option O → Option O → Type 0} {answering : List Cid → ℕ → Option O → Option O → Type 0}
    (guide_first guide_now guide_last : Option G) (order_first order_now : Option O) (budget : ℕ) (s m t : EngineState) (before after : SearchView) (conflict : List Cid)
    → IsRunningBy (GuideFollows answers hears state) ordering (is_some guide_first) guide_first guide_now order_first order_now budget s m before → length before.journal < budget → HasFlatConflict m conflict → IsCutUndoing conflict m before t after
    → ((guide_last ≡ guide_now) × (after ≡ before)) ⊎ Hears hears state (decided_vars conflict) guide_now guide_last
    → IsCutOffBy (GuideFollows answers hears state) (GuideStops answers hears state) ordering answering guide_first guide_last order_first order_now budget s after.journal t
cut_undoing_by answers hears state guide_first guide_now guide_last order_first order_now budget s m t before after conflict by lt flat (cut_before e f) (inl same) =
    cut_here_by guide_first guide_now guide_last order_first order_now budget s m t before after by e f (stops_silent same.0)
cut_undoing_by answers hears state guide_first guide_now guide_last order_first order_now budget s m t before after conflict by lt flat (cut_before e f) (inr told) =
    cut_here_by guide_first guide_now guide_last order_first order_now budget s m t before after by e f (stops_told conflict flat told)
cut_undoing_by answers hears state guide_first guide_now guide_last order_first order_now budget s m t before after conflict by lt flat (cut_within gone next undoes e f) (inl same) =
    absurd (longer before.journal (Undo gone conflict) (sym (ap (λ (v : SearchView). v.journal) same.1) ∙ e))
cut_undoing_by answers hears state guide_first guide_now guide_last order_first order_now budget s m t before after conflict by lt flat (cut_within gone next undoes e f) (inr told) =
    by_undoing (search_state m before) next before.journal gone conflict undoes guide_now (turned_by guide_first guide_now order_first order_now budget s m before by) lt e f told

pub cut_settling_by : {G O : Type 0} {guiding : Moment → Option G → Option G → Type 0} {stopping : SearchState → Option G → Option G → Type 0} {ordering : Hearing → Option O → Option O → Type 0} {answering : List Cid → ℕ → Option O → Option O → Type 0}
    (guide_first guide_now guide_last : Option G) (order_first order_now order_last : Option O) (budget : ℕ) (s m : EngineState) (before : SearchView) (turn : Turn) (taken t : EngineState) (search : SearchView)
    → IsRunningBy guiding ordering (is_some guide_first) guide_first guide_now order_first order_now budget s m before → length before.journal < budget → TakesTurn (is_some guide_first) turn m before taken search
    → guiding (record { state = search_state m before; turn = turn }) guide_now guide_last → OrderStops answering ordering order_now order_last taken t
    → IsCutOffBy guiding stopping ordering answering guide_first guide_last order_first order_last budget s search.journal t
cut_settling_by guide_first guide_now guide_last order_first order_now order_last budget s m before turn taken t search by lt takes step stops =
    by_settling (search_state m before) (search_state taken search) before.journal turn guide_now order_now (turned_by guide_first guide_now order_first order_now budget s m before by) lt takes.takes takes.journal step stops
