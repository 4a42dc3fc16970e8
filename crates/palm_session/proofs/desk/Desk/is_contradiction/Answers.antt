use Rattle.std.proofs.Common.{◌∙◌, MatchOption, sym, subst}
use Rattle.palm_model.specs.State.{EngineState, HasEmpty, IsEmptyAt, present}
use Rattle.palm_session.proofs.Emptied.{tells_contradiction}
use Rattle.palm_session.proofs.desk.Desk.is_contradiction.Goals as goal

pub returns-then-not-is_paused : goal.returns-then-not-is_paused
returns-then-not-is_paused g c =
    let s = c.args.self.now.state in
    let o = c.empty_variable.result in
    let tells = subst (λ (e : EngineState). MatchOption o (HasEmpty (present e) → ⊥) (IsEmptyAt (present e))) c.engine.ensures.state c.empty_variable.ensures.empty in
    tells_contradiction s c.requires (sym c.is_paused.ensures ∙ c.if-not-is_paused.true) o tells c.is_some.result c.is_some.ensures
