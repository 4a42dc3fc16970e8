use Rattle.std.proofs.Common.{subst}
use Rattle.palm_base.specs.declared.terms.Pair.{Pair}
use Rattle.palm_model.specs.Log.{IsListOf, NamesOfPair}
use Rattle.palm_model.specs.State.{EngineState}
use Rattle.palm_session.proofs.Explained.{IsPlaceOf, logged_pair, tells_because, tells_present, unlogged_pair}
use Rattle.palm_session.proofs.Users.{explanation_users}
use Rattle.palm_session.proofs.desk.Desk.why.Goals as goal

pub returns-then-is_none-clause-tells : goal.returns-then-is_none-clause-tells
returns-then-is_none-clause-tells g c =
    let s = c.args.self.now.state in
    let pair : Pair = record { var = c.args.pair.var; value = c.args.pair.value } in
    let place = subst (λ (e : EngineState). IsPlaceOf e.log pair c.place_of.result) c.engine.ensures.state (rw c.log-log.ensures at c.place_of.ensures) in
    tells_present s c.args.pair.var c.args.pair.value c.requires.declared (unlogged_pair s.engine.log pair c.place_of.result place c.is_none.result c.is_none.ensures c.if-is_none.true)

pub explanation-requires : goal.explanation-requires
explanation-requires g c = logged_pair _ _ c.place_of.result c.place_of.ensures c.is_none.result c.is_none.ensures c.if-is_none.false

pub returns-clause-tells : goal.returns-clause-tells
returns-clause-tells g c =
    let s = c.args.self.now.state in
    let pair : Pair = record { var = c.args.pair.var; value = c.args.pair.value } in
    let place = subst (λ (e : EngineState). IsPlaceOf e.log pair c.place_of.result) c.engine.ensures.state (rw c.log-log.ensures at c.place_of.ensures) in
    let list = subst (λ (e : EngineState). IsListOf (NamesOfPair e.log pair) c.explanation.new.out) c.engine.ensures.state (rw c.log-log.ensures at c.in_ok-explanation.ensures.ok) in
    tells_because s c.args.pair.var c.args.pair.value c.explanation.new.out (logged_pair s.engine.log pair c.place_of.result place c.is_none.result c.is_none.ensures c.if-is_none.false) list

pub returns-clause-fits : goal.returns-clause-fits
returns-clause-fits g c =
    let s = c.args.self.now.state in
    let pair : Pair = record { var = c.args.pair.var; value = c.args.pair.value } in
    let list = subst (λ (e : EngineState). IsListOf (NamesOfPair e.log pair) c.explanation.new.out) c.engine.ensures.state (rw c.log-log.ensures at c.in_ok-explanation.ensures.ok) in
    explanation_users s c.requires.held pair c.explanation.new.out list
