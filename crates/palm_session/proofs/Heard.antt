-- Of calls along which objects were asked and told, the same of objects that stand elsewhere.
use Rattle.std.proofs.Common.{◌≡◌, ℕ, List, Option, Result, Ok, Err, IfOk, sym, subst}
use Rattle.palm_book.specs.Book.{Contents}
use Rattle.palm_model.specs.State.{EngineState}
use Rattle.palm_engine.specs.Engine.{View}
use Rattle.palm_engine.specs.Following.{HasSettledBy}
use Rattle.palm_engine.specs.declared.settle.Settle.{Settle}
use Rattle.palm_search.specs.declared.turn.Turn.{Turn}
use Rattle.palm_session.specs.Led.{Guiding, Ordering}
use Rattle.palm_session.specs.Ways.{RunsTo}
use Rattle.palm_session.specs.declared.request.Procedure.{Procedure}
use Rattle.palm_session.specs.declared.ways.Searched.{Searched}

pub settles_by : {O E : Type 0} (ordering : Ordering O) (limit : Option ℕ) (first last before_it after_it : Option O) (before after : View) (r : Result Settle E) → before_it ≡ first → after_it ≡ last
    → IfOk r (λ answer. HasSettledBy ordering limit first last answer before after) → IfOk r (λ answer. HasSettledBy ordering limit before_it after_it answer before after)
settles_by {O = O} ordering limit first last before_it after_it before after (Ok answer) one other by =
    subst (λ (o : Option O). HasSettledBy ordering limit o after_it answer before after) (sym one)
    (subst (λ (o : Option O). HasSettledBy ordering limit first o answer before after) (sym other) by)
settles_by ordering limit first last before_it after_it before after (Err e) one other by = tt

module _ {G O : Type 0} (guiding : Guiding G) (ordering : Ordering O) (guide_first guide_last guide_before guide_after : Option G) (order_first order_last order_before order_after : Option O)
    (guide_one : guide_before ≡ guide_first) (guide_other : guide_after ≡ guide_last) (order_one : order_before ≡ order_first) (order_other : order_after ≡ order_last) where
  elsewhere : (P : Option G → Option G → Option O → Option O → Type 0) → P guide_first guide_last order_first order_last → P guide_before guide_after order_before order_after
  elsewhere P p =
      subst (λ (o : Option G). P o guide_after order_before order_after) (sym guide_one)
      (subst (λ (o : Option G). P guide_first o order_before order_after) (sym guide_other)
      (subst (λ (o : Option O). P guide_first guide_last o order_after) (sym order_one)
      (subst (λ (o : Option O). P guide_first guide_last order_first o) (sym order_other) p)))

  pub runs_by : {E : Type 0} (by : Procedure) (book : Contents) (s : EngineState) (turns : List Turn) (t : EngineState) (was now : Option (List ℕ)) (r : Result Searched E)
      → IfOk r (λ answer. RunsTo guiding ordering guide_first guide_last order_first order_last by book s turns answer t was now)
      → IfOk r (λ answer. RunsTo guiding ordering guide_before guide_after order_before order_after by book s turns answer t was now)
  runs_by by book s turns t was now (Ok answer) run = elsewhere (λ a b c d. RunsTo guiding ordering a b c d by book s turns answer t was now) run
  runs_by by book s turns t was now (Err e) run = tt
