use Rattle.std.proofs.Common.{◌-◌, ◌≤◌, Some, arith}
use Rattle.std.proofs.lemmas.Result.{IfOk-weaker}
use Rattle.palm_base.specs.declared.limits.TheConstants.{LAST_COUNT}
use Rattle.palm_engine.specs.Following.{OrderFollows}
use Rattle.palm_session.specs.Serving.{Ran, RanAll}
use Rattle.palm_session.proofs.Following.{steps_told}
use Rattle.palm_session.proofs.desk.Desk.run.Goals as goal

pub returns-clause-ran : goal.returns-clause-ran
returns-clause-ran g c =
    let few : c.args.count ≤ LAST_COUNT = omega arith in
    let ordering = OrderFollows {O = g.row.O.Denot} g.O.Order.answers g.O.Order.hears g.O.Order.state in
    let s = c.args.self.now in
    let t = c.settle.new.self in
    let asked = c.settle.new.steps - c.args.steps.now in
    IfOk-weaker c.settle.result (λ told. Ran ordering s.state (Some c.args.count) told s.objects t.state t.objects asked) (λ told. RanAll ordering s.state c.args.count told s.objects t.state t.objects asked)
    (λ told ran. record { ran = ran; all = steps_told ordering s.state c.args.count told s.objects t.state t.objects asked few ran }) c.settle.ensures.ran
