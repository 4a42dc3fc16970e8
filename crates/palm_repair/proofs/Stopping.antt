-- What a guide and an order were asked and told along a repair that was broken off.
use Rattle.std.proofs.Common.{◌≡◌, ℕ, ◌<◌, ◌≤◌, None, Option, is_some, List, [], ◌∷◌, ◌++◌, length, refl, sym, ap, ◌∙◌, subst, arith, length-append}
use Rattle.std.proofs.lemmas.List.{append_cancel_left}
use Rattle.palm_base.specs.declared.terms.Cid.{Cid}
use Rattle.palm_model.specs.State.{EngineState}
use Rattle.palm_engine.specs.Engine.{View}
use Rattle.palm_engine.specs.Following.{Hearing, IsInterruptedBy}
use Rattle.palm_engine.proofs.cited.Leading.{leads_then}
use Rattle.palm_search.specs.declared.turn.Turn.{Turn}
use Rattle.palm_search.specs.Calls.{SearchView, search_state}
use Rattle.palm_search.specs.Following.{Moment}
use Rattle.palm_search.specs.Stopping.{GuideStopsAt, OrderStops}
use Rattle.palm_search.specs.Stopping.GuideStopsAt.{stops_between, stops_in_turn}
use Rattle.palm_search.specs.Turns.{SearchState}
use Rattle.palm_search.proofs.cited.Stopping.{order_stops}
use Rattle.palm_repair.specs.Following.{settled_hearings, turned_hearings}
use Rattle.palm_repair.specs.Learned.{LearnedView, repair_state}
use Rattle.palm_repair.specs.Repair.{repair_begun}
use Rattle.palm_repair.specs.Stopping.{HasTurnedBy, IsCutOffBy}
use Rattle.palm_repair.specs.Stopping.IsCutOffBy.{by_first_settling, by_next_turn, by_settling, by_turn}
use Rattle.palm_repair.specs.Turning.{IsCutTurn, TakesRepairTurn}
use Rattle.palm_repair.specs.Turning.IsCutTurn.{cut_before, cut_within}
use Rattle.palm_repair.proofs.Following.{IsRunningBy}

-- the turns so far
turned_by : {G O : Type 0} {guiding : Moment → Option G → Option G → Type 0} {ordering : Hearing → Option O → Option O → Type 0} (guide_first guide_now : Option G) (order_first order_now : Option O) (tabu budget : ℕ) (s m : EngineState) (search : SearchView) (learned : LearnedView)
    → IsRunningBy guiding ordering guide_first guide_now order_first order_now tabu budget s m search learned → HasTurnedBy guiding ordering guide_first guide_now order_first order_now tabu budget s search.journal (repair_state m search.decisions learned)
turned_by {ordering = ordering} guide_first guide_now order_first order_now tabu budget s m search learned by =
    let turned = by.running.turned in
    let guided = is_some guide_first in
    let ordered = is_some order_first in
    record {
      turned = turned;
      guide = by.guide;
      order = leads_then ordering (settled_hearings ordered (repair_begun s) turned.start turned.settles) (turned_hearings guided ordered tabu turned.start search.journal (repair_state m search.decisions learned) turned.taken) order_first by.order_begun order_now by.begins by.order;
    }

pub cut_first_by : {G O : Type 0} {guiding : Moment → Option G → Option G → Type 0} {stopping : SearchState → Option G → Option G → Type 0} {ordering : Hearing → Option O → Option O → Type 0} {answering : List Cid → ℕ → Option O → Option O → Type 0}
    (guide : Option G) (order_first order_last : Option O) (tabu budget : ℕ) (s t : EngineState) (search : SearchView) → search ≡ record { decisions = []; journal = [] } → OrderStops answering ordering order_first order_last s t
    → IsCutOffBy guiding stopping ordering answering guide guide order_first order_last tabu budget s search.journal t
cut_first_by guide order_first order_last tabu budget s t search fresh stops = by_first_settling (ap (λ (v : SearchView). v.journal) fresh) refl stops

-- before the next turn
pub cut_here_by : {G O : Type 0} {guiding : Moment → Option G → Option G → Type 0} {stopping : SearchState → Option G → Option G → Type 0} {ordering : Hearing → Option O → Option O → Type 0} {answering : List Cid → ℕ → Option O → Option O → Type 0}
    (guide_first guide_now guide_last : Option G) (order_first order_now : Option O) (tabu budget : ℕ) (s m t : EngineState) (before : SearchView) (turns : List Turn) (learned : LearnedView)
    → IsRunningBy guiding ordering guide_first guide_now order_first order_now tabu budget s m before learned → t ≡ m → turns ≡ before.journal → stopping (search_state m before) guide_now guide_last
    → IsCutOffBy guiding stopping ordering answering guide_first guide_last order_first order_now tabu budget s turns t
cut_here_by {guiding = guiding} {stopping = stopping} {ordering = ordering} {answering = answering} guide_first guide_now guide_last order_first order_now tabu budget s m t before turns learned by e f stops =
    subst (λ (l : List Turn). IsCutOffBy guiding stopping ordering answering guide_first guide_last order_first order_now tabu budget s l t) (sym f)
    (by_next_turn (repair_state m before.decisions learned) guide_now (turned_by guide_first guide_now order_first order_now tabu budget s m before learned by) e stops)

longer : (turns : List Turn) (turn : Turn) → turns ≡ turns ++ turn ∷ [] → ⊥
longer turns turn e = let n = ap length e ∙ length-append turns (turn ∷ []) in omega (arith, n)

same_turn : (turns : List Turn) (first second : Turn) → turns ++ first ∷ [] ≡ turns ++ second ∷ [] → first ≡ second
same_turn turns first second e = let ends = append_cancel_left turns (first ∷ []) (second ∷ []) e in cc

-- within a turn
pub cut_turn_by : {G O : Type 0} {guiding : Moment → Option G → Option G → Type 0} {stopping : SearchState → Option G → Option G → Type 0} {ordering : Hearing → Option O → Option O → Type 0} {answering : List Cid → ℕ → Option O → Option O → Type 0}
    (guide_first guide_now guide_last : Option G) (order_first order_now : Option O) (tabu budget : ℕ) (s m t : EngineState) (before after : SearchView) (learned : LearnedView)
    → IsRunningBy guiding ordering guide_first guide_now order_first order_now tabu budget s m before learned → IsCutTurn (is_some guide_first) tabu (repair_state m before.decisions learned) before t after → length after.journal ≤ budget
    → GuideStopsAt guiding stopping guide_now guide_last (search_state m before) before.journal after.journal
    → IsCutOffBy guiding stopping ordering answering guide_first guide_last order_first order_now tabu budget s after.journal t
cut_turn_by guide_first guide_now guide_last order_first order_now tabu budget s m t before after learned by (cut_before e f) le (stops_between same stops) =
    cut_here_by guide_first guide_now guide_last order_first order_now tabu budget s m t before after.journal learned by e f stops
cut_turn_by guide_first guide_now guide_last order_first order_now tabu budget s m t before after learned by (cut_before e f) le (stops_in_turn turn is step) =
    absurd (longer before.journal turn (sym f ∙ is))
cut_turn_by guide_first guide_now guide_last order_first order_now tabu budget s m t before after learned by (cut_within turn next takes some e) le (stops_between same stops) =
    absurd (longer before.journal turn (sym same ∙ e))
cut_turn_by {guiding = guiding} guide_first guide_now guide_last order_first order_now tabu budget s m t before after learned by (cut_within turn next takes some e) le (stops_in_turn other is step) =
    let more = ap length e ∙ length-append before.journal (turn ∷ []) in
    let led = subst (λ (z : Turn). guiding (record { state = search_state m before; turn = z }) guide_now guide_last) (same_turn before.journal other turn (sym is ∙ e)) step in
    by_turn (repair_state m before.decisions learned) next before.journal turn takes guide_now (turned_by guide_first guide_now order_first order_now tabu budget s m before learned by) (omega (arith, more, le)) e some led

-- in the settling after a turn
pub cut_settling_by : {G O : Type 0} {guiding : Moment → Option G → Option G → Type 0} {stopping : SearchState → Option G → Option G → Type 0} {ordering : Hearing → Option O → Option O → Type 0} {answering : List Cid → ℕ → Option O → Option O → Type 0}
    (guide_first guide_now guide_last : Option G) (order_first order_now order_last : Option O) (tabu budget : ℕ) (s m : EngineState) (before : SearchView) (learned now : LearnedView) (turn : Turn) (taken after : View) (search : SearchView)
    → IsRunningBy guiding ordering guide_first guide_now order_first order_now tabu budget s m before learned → length before.journal < budget
    → TakesRepairTurn (is_some guide_first) tabu turn (repair_state m before.decisions learned) before (repair_state taken.state search.decisions now) search → guiding (record { state = search_state m before; turn = turn }) guide_now guide_last
    → IsInterruptedBy answering ordering None order_now order_last taken after → IsCutOffBy guiding stopping ordering answering guide_first guide_last order_first order_last tabu budget s search.journal after.state
cut_settling_by guide_first guide_now guide_last order_first order_now order_last tabu budget s m before learned now turn taken after search by lt takes step cut =
    by_settling (repair_state m before.decisions learned) (repair_state taken.state search.decisions now) before.journal turn guide_now order_now takes.takes (turned_by guide_first guide_now order_first order_now tabu budget s m before learned by) lt takes.journal step
    (order_stops order_now order_last taken after cut)
