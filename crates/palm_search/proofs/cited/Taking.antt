-- A turn that was taken, whether a decision or an undoing.
use Rattle.std.proofs.Common.{◌≡◌, ℕ, ◌<◌, Option, is_some, List, length, sym, subst}
use Rattle.palm_base.specs.declared.terms.Pair.{Pair}
use Rattle.palm_base.specs.declared.terms.Cid.{Cid}
use Rattle.palm_model.specs.State.{present}
use Rattle.palm_engine.specs.Engine.{View, KeepsCounts}
use Rattle.palm_guide.specs.declared.guide.ViewRow.{ViewRow}
use Rattle.palm_search.specs.declared.next.Next.{Next}
use Rattle.palm_search.specs.declared.next.Next.TheVariants.{Decide as NextDecide, Undo as NextUndo}
use Rattle.palm_search.specs.declared.turn.Pick.{Pick}
use Rattle.palm_search.specs.declared.turn.Turn.{Turn}
use Rattle.palm_search.specs.declared.turn.Turn.TheVariants.{Decide as TurnDecide, Undo as TurnUndo}
use Rattle.palm_search.specs.Asked.{Asks}
use Rattle.palm_search.specs.Calls.{SearchView, TakesTurn, search_state}
use Rattle.palm_search.specs.Following.{GuideFollows, Moment}
use Rattle.palm_search.specs.Kept.{HasDecisions}
use Rattle.palm_search.specs.Turning.{Hears, IsNext}
use Rattle.palm_search.specs.Turns.{decided_vars}

pub record HasTaken {G : Type 0} (guiding : Moment → Option G → Option G → Type 0) (budget : ℕ) (before after : View) (search now : SearchView) (old new : Option G) : Type 0 where
  pub turn : Turn
  pub left : length search.journal < budget
  pub takes : TakesTurn (is_some old) turn before.state search after.state now
  pub step : guiding (record { state = search_state before.state search; turn = turn }) old new
  pub decisions : HasDecisions (search_state after.state now)
  pub counts : KeepsCounts before after
  pub stays : is_some new ≡ is_some old

pub taken_alike : {G : Type 0} {guiding : Moment → Option G → Option G → Type 0} {budget : ℕ} {before after then : View} {search now done : SearchView} {old new lent : Option G} → then ≡ after → done ≡ now → lent ≡ new
    → HasTaken guiding budget before after search now old new → HasTaken guiding budget before then search done old lent
taken_alike {guiding = guiding} {budget = budget} {before = before} {after = after} {search = search} {done = done} {old = old} {lent = lent} e f h taken =
    subst (λ (v : View). HasTaken guiding budget before v search done old lent) (sym e)
    (subst (λ (v : SearchView). HasTaken guiding budget before after search v old lent) (sym f)
    (subst (HasTaken guiding budget before after search _ old) (sym h) taken))

-- ---- the two ways

pub taken_deciding : {G : Type 0} (answers : G → List ViewRow → Option Pair → List ℕ → Type 0) (hears : G → List ℕ → List ℕ → Type 0) (state : G → List ℕ) (budget : ℕ) (before after : View) (search now : SearchView) (old new : Option G) (next : Next) (pair : Pair)
    → next ≡ NextDecide → IsNext budget before.state search next → ((pick : Pick) × Asks answers state (present before.state) old new pick × TakesTurn (is_some old) (TurnDecide pair pick) before.state search after.state now)
    → HasDecisions (search_state after.state now) → KeepsCounts before after → is_some new ≡ is_some old → HasTaken (GuideFollows answers hears state) budget before after search now old new
taken_deciding answers hears state budget before after search now old new next pair is can taken decisions counts stays =
    let left = (subst (IsNext budget before.state search) is can).0 in
    record { turn = TurnDecide pair taken.0; left = left; takes = taken.2; step = taken.1; decisions = decisions; counts = counts; stays = stays }

pub taken_undoing : {G : Type 0} (answers : G → List ViewRow → Option Pair → List ℕ → Type 0) (hears : G → List ℕ → List ℕ → Type 0) (state : G → List ℕ) (budget : ℕ) (before after : View) (search now : SearchView) (old new : Option G) (next : Next) (conflict : List Cid)
    → next ≡ NextUndo conflict → IsNext budget before.state search next → ((gone : Pair) × TakesTurn (is_some old) (TurnUndo gone conflict) before.state search after.state now)
    → Hears hears state (decided_vars conflict) old new → HasDecisions (search_state after.state now) → KeepsCounts before after → is_some new ≡ is_some old → HasTaken (GuideFollows answers hears state) budget before after search now old new
taken_undoing answers hears state budget before after search now old new next conflict is can taken told decisions counts stays =
    let left = (subst (IsNext budget before.state search) is can).0 in
    record { turn = TurnUndo taken.0 conflict; left = left; takes = taken.1; step = told; decisions = decisions; counts = counts; stays = stays }
