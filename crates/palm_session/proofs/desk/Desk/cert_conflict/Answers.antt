use Rattle.std.proofs.Common.{◌≡◌, ℕ, subst}
use Rattle.palm_model.specs.State.{EngineState, HasEmpty, IsEmptyAt, present}
use Rattle.palm_session.proofs.Conflicting.{cert_conflicting, cert_consistent}
use Rattle.palm_session.proofs.Emptied.{only_empty}
use Rattle.palm_session.proofs.desk.Desk.cert_conflict.Goals as goal

pub returns-in-Some-clause-tells : goal.returns-in-Some-clause-tells
returns-in-Some-clause-tells g c =
    let s = c.args.self.now.state in
    let x = c.in-Some.var in
    let empty = subst (λ (e : EngineState). IsEmptyAt (present e) x) c.engine.ensures.state c.in-Some.ensures.empty in
    let only = subst (λ (e : EngineState). (y : ℕ) → IsEmptyAt (present e) y → y ≡ x) c.engine.ensures.state c.in-Some.ensures.only in
    cert_conflicting s c.requires.state x (only_empty s x empty only)

pub returns-in-None-clause-tells : goal.returns-in-None-clause-tells
returns-in-None-clause-tells g c =
    let s = c.args.self.now.state in
    let filled = subst (λ (e : EngineState). HasEmpty (present e) → ⊥) c.engine.ensures.state c.in-None.ensures.empty in
    cert_consistent s c.requires.state c.requires.awake filled
