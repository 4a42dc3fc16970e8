use Rattle.std.proofs.Common.{subst}
use Rattle.palm_base.specs.declared.terms.Pair.{Pair}
use Rattle.palm_model.specs.State.{EngineState}
use Rattle.palm_session.proofs.Explained.{IsPlaceOf, certifies_absent, certifies_present, logged_pair, unlogged_pair}
use Rattle.palm_session.proofs.desk.Desk.cert.Goals as goal

pub returns-then-is_none-clause-tells : goal.returns-then-is_none-clause-tells
returns-then-is_none-clause-tells g c =
    let s = c.args.self.now.state in
    let pair : Pair = record { var = c.args.pair.var; value = c.args.pair.value } in
    let place = subst (λ (e : EngineState). IsPlaceOf e.log pair c.place_of.result) c.engine.ensures.state (rw c.log.ensures at c.place_of.ensures) in
    certifies_present s c.args.pair.var c.args.pair.value c.requires (unlogged_pair s.engine.log pair c.place_of.result place c.is_none.result c.is_none.ensures c.if-is_none.true)

pub returns-clause-tells : goal.returns-clause-tells
returns-clause-tells g c =
    let s = c.args.self.now.state in
    let pair : Pair = record { var = c.args.pair.var; value = c.args.pair.value } in
    let place = subst (λ (e : EngineState). IsPlaceOf e.log pair c.place_of.result) c.engine.ensures.state (rw c.log.ensures at c.place_of.ensures) in
    certifies_absent s c.args.pair.var c.args.pair.value (logged_pair s.engine.log pair c.place_of.result place c.is_none.result c.is_none.ensures c.if-is_none.false)

pub returns-clause-fits : goal.returns-clause-fits
returns-clause-fits g c =
    let s = c.args.self.now.state in
    let pair : Pair = record { var = c.args.pair.var; value = c.args.pair.value } in
    let place = subst (λ (e : EngineState). IsPlaceOf e.log pair c.place_of.result) c.engine.ensures.state (rw c.log.ensures at c.place_of.ensures) in
    logged_pair s.engine.log pair c.place_of.result place c.is_none.result c.is_none.ensures c.if-is_none.false
