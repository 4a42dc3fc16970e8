-- What a guide and an order were asked and told along a minimization that was broken off.
use Rattle.std.proofs.Common.{◌≡◌, ℕ, ◌<◌, ◌⊎◌, None, Option, is_some, List, [], ◌∷◌, ◌++◌, length, inl, inr, refl, sym, ap, ◌∙◌, subst, arith, length-append}
use Rattle.palm_base.specs.declared.terms.Cid.{Cid}
use Rattle.palm_base.specs.declared.terms.Pair.{Pair}
use Rattle.palm_model.specs.State.{EngineState}
use Rattle.palm_engine.specs.Engine.{View}
use Rattle.palm_engine.specs.Following.{Hearing, IsInterruptedBy}
use Rattle.palm_engine.proofs.cited.Leading.{leads_then}
use Rattle.palm_guide.specs.declared.guide.ViewRow.{ViewRow}
use Rattle.palm_search.specs.declared.turn.Turn.{Turn}
use Rattle.palm_search.specs.declared.turn.Turn.TheVariants.{Undo}
use Rattle.palm_search.specs.Calls.{SearchView, TakesTurn, search_state}
use Rattle.palm_search.specs.Following.{GuideFollows, Moment, settling_hearings}
use Rattle.palm_search.specs.Search.{begun}
use Rattle.palm_search.specs.Stopping.{GuideStops, OrderStops}
use Rattle.palm_search.specs.Stopping.GuideStops.{stops_silent, stops_told}
use Rattle.palm_search.specs.Turning.{Hears, IsCutUndoing}
use Rattle.palm_search.specs.Turning.IsCutUndoing.{cut_before, cut_within}
use Rattle.palm_search.specs.Turns.{SearchState, HasFlatConflict, decided_vars}
use Rattle.palm_search.proofs.cited.Stopping.{order_stops}
use Rattle.palm_best.specs.Ends.{opened}
use Rattle.palm_best.specs.Following.{moves_hearings}
use Rattle.palm_best.specs.Improving.{best_state}
use Rattle.palm_best.specs.Stopping.{HasMovedBy, IsCutOffBy}
use Rattle.palm_best.specs.Stopping.IsCutOffBy.{by_cut, by_first_settling, by_next_move, by_turn, by_undoing}
use Rattle.palm_best.specs.declared.incumbent.Incumbent.{Incumbent}
use Rattle.palm_best.proofs.Looping.{HasMade, IsMinimizingBy}
use Rattle.palm_best.proofs.Looping.HasMade.{made_cut, made_turn}

-- the moves so far
moved_by : {G O : Type 0} {guiding : Moment → Option G → Option G → Type 0} {ordering : Hearing → Option O → Option O → Type 0} (guide_first guide_now : Option G) (order_first order_now : Option O) (target budget : ℕ) (s m : EngineState) (search : SearchView) (incumbent : Incumbent)
    → IsMinimizingBy guiding ordering (is_some guide_first) guide_first guide_now order_first order_now target budget s m search incumbent
    → HasMovedBy guiding ordering guide_first guide_now order_first order_now target budget s search.journal (best_state m search incumbent)
moved_by {ordering = ordering} guide_first guide_now order_first order_now target budget s m search incumbent by =
    let moved = by.minimizing.moved in
    let guided = is_some guide_first in
    let ordered = is_some order_first in
    record {
      moved = moved;
      guide = by.guide;
      order = leads_then ordering (settling_hearings ordered (begun s) moved.start moved.settles) (moves_hearings guided ordered target (opened moved.start) moved.moves (best_state m search incumbent) moved.taken) order_first by.order_begun order_now by.begins by.order;
    }

pub cut_first_by : {G O : Type 0} {guiding : Moment → Option G → Option G → Type 0} {stopping : SearchState → Option G → Option G → Type 0} {ordering : Hearing → Option O → Option O → Type 0} {answering : List Cid → ℕ → Option O → Option O → Type 0}
    (guide : Option G) (order_first order_last : Option O) (target budget : ℕ) (s t : EngineState) (search : SearchView) → search ≡ record { decisions = []; journal = [] } → OrderStops answering ordering order_first order_last s t
    → IsCutOffBy guiding stopping ordering answering guide guide order_first order_last target budget s search.journal t
cut_first_by guide order_first order_last target budget s t search fresh stops = by_first_settling (ap (λ (v : SearchView). v.journal) fresh) refl stops

-- between two moves
pub cut_here_by : {G O : Type 0} {guiding : Moment → Option G → Option G → Type 0} {stopping : SearchState → Option G → Option G → Type 0} {ordering : Hearing → Option O → Option O → Type 0} {answering : List Cid → ℕ → Option O → Option O → Type 0}
    (guide_first guide_now guide_last : Option G) (order_first order_now : Option O) (target budget : ℕ) (s m t : EngineState) (before after : SearchView) (incumbent : Incumbent)
    → IsMinimizingBy guiding ordering (is_some guide_first) guide_first guide_now order_first order_now target budget s m before incumbent → t ≡ m → after ≡ before → stopping (search_state m before) guide_now guide_last
    → IsCutOffBy guiding stopping ordering answering guide_first guide_last order_first order_now target budget s after.journal t
cut_here_by {guiding = guiding} {stopping = stopping} {ordering = ordering} {answering = answering} guide_first guide_now guide_last order_first order_now target budget s m t before after incumbent by e f stops =
    subst (λ (v : SearchView). IsCutOffBy guiding stopping ordering answering guide_first guide_last order_first order_now target budget s v.journal t) (sym f)
    (by_next_move (best_state m before incumbent) guide_now (moved_by guide_first guide_now order_first order_now target budget s m before incumbent by) e stops)

longer : (turns : List Turn) (turn : Turn) → turns ≡ turns ++ turn ∷ [] → ⊥
longer turns turn e = let n = ap length e ∙ length-append turns (turn ∷ []) in omega (arith, n)

-- an undoing that was not begun, or not ended
pub cut_undoing_by : {G O : Type 0} (answers : G → List ViewRow → Option Pair → List ℕ → Type 0) (hears : G → List ℕ → List ℕ → Type 0) (state : G → List ℕ) {ordering : Hearing → Option O → Option O → Type 0} {answering : List Cid → ℕ → Option O → Option O → Type 0}
    (guide_first guide_now guide_last : Option G) (order_first order_now : Option O) (target budget : ℕ) (s m t : EngineState) (before after : SearchView) (incumbent : Incumbent) (conflict : List Cid)
    → IsMinimizingBy (GuideFollows answers hears state) ordering (is_some guide_first) guide_first guide_now order_first order_now target budget s m before incumbent → length before.journal < budget → HasFlatConflict m conflict
    → IsCutUndoing conflict m before t after → ((guide_last ≡ guide_now) × (after ≡ before)) ⊎ Hears hears state (decided_vars conflict) guide_now guide_last
    → IsCutOffBy (GuideFollows answers hears state) (GuideStops answers hears state) ordering answering guide_first guide_last order_first order_now target budget s after.journal t
cut_undoing_by answers hears state guide_first guide_now guide_last order_first order_now target budget s m t before after incumbent conflict by lt flat (cut_before e f) (inl same) =
    cut_here_by guide_first guide_now guide_last order_first order_now target budget s m t before after incumbent by e f (stops_silent same.0)
cut_undoing_by answers hears state guide_first guide_now guide_last order_first order_now target budget s m t before after incumbent conflict by lt flat (cut_before e f) (inr told) =
    cut_here_by guide_first guide_now guide_last order_first order_now target budget s m t before after incumbent by e f (stops_told conflict flat told)
cut_undoing_by answers hears state guide_first guide_now guide_last order_first order_now target budget s m t before after incumbent conflict by lt flat (cut_within gone next undoes e f) (inl same) =
    absurd (longer before.journal (Undo gone conflict) (sym (ap (λ (v : SearchView). v.journal) same.1) ∙ e))
cut_undoing_by answers hears state guide_first guide_now guide_last order_first order_now target budget s m t before after incumbent conflict by lt flat (cut_within gone next undoes e f) (inr told) =
    by_undoing (best_state m before incumbent) next before.journal gone conflict undoes guide_now (moved_by guide_first guide_now order_first order_now target budget s m before incumbent by) lt e f told

-- in the settling after a move
pub cut_settling_by : {G O : Type 0} {guiding : Moment → Option G → Option G → Type 0} {stopping : SearchState → Option G → Option G → Type 0} {ordering : Hearing → Option O → Option O → Type 0} {answering : List Cid → ℕ → Option O → Option O → Type 0}
    (guide_first guide_now guide_last : Option G) (order_first order_now order_last : Option O) (target budget : ℕ) (s : EngineState) (before made after : View) (search done : SearchView) (old new : Incumbent) → is_some guide_now ≡ is_some guide_first
    → IsMinimizingBy guiding ordering (is_some guide_first) guide_first guide_now order_first order_now target budget s before.state search old → HasMade guiding target budget before made search done old new guide_now guide_last
    → IsInterruptedBy answering ordering None order_now order_last made after → IsCutOffBy guiding stopping ordering answering guide_first guide_last order_first order_last target budget s done.journal after.state
cut_settling_by guide_first guide_now guide_last order_first order_now order_last target budget s before made after search done old new there by (made_turn taken same) cut =
    let takes = subst (λ b. TakesTurn b taken.turn before.state search made.state done) there taken.takes in
    by_turn (best_state before.state search old) (search_state made.state done) search.journal taken.turn guide_now order_now (moved_by guide_first guide_now order_first order_now target budget s before.state search old by) taken.left takes.takes takes.journal taken.step
    (order_stops order_now order_last made after cut)
cut_settling_by {guiding = guiding} {stopping = stopping} {ordering = ordering} {answering = answering} guide_first guide_now guide_last order_first order_now order_last target budget s before made after search done old new there by (made_cut values found cuts counts view lent) cut =
    let moved = moved_by guide_first guide_now order_first order_now target budget s before.state search old by in
    subst (λ (v : SearchView). IsCutOffBy guiding stopping ordering answering guide_first guide_last order_first order_last target budget s v.journal after.state) (sym view)
    (by_cut (best_state before.state search old) made.state values order_now (subst (λ o. HasMovedBy guiding ordering guide_first o order_first order_now target budget s search.journal (best_state before.state search old)) (sym lent) moved) found cuts.posts
    (order_stops order_now order_last made after cut))
