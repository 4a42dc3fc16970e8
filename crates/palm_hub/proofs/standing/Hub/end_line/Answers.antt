use Rattle.std.proofs.Common.{ℕ, subst}
use Rattle.std.proofs.lemmas.Result.{IfErr-weaker, on_ok_weaker}
use Rattle.palm_base.specs.Streams.{Rose}
use Rattle.palm_hub.proofs.Ending.{line_ends, line_stops}
use Rattle.palm_hub.proofs.standing.Hub.end_line.Goals as goal

pub returns-clause-answers : goal.returns-clause-answers
returns-clause-answers g c =
    let routed = c.in_ok-route_rest.ensures in
    on_ok_weaker c.answer.result
    (λ answers hub seen unbroken behind.
    line_ends c.args.self.now c.route_rest.new.self routed.stands hub seen unbroken behind (g.K.Sink.state c.args.sink.now).written
    (g.K.Sink.state c.route_rest.new.sink).written
    (g.K.Sink.state c.answer.new.sink).written routed.quiet.written c.answer.new.self answers)
    c.answer.ensures.answers

pub returns-clause-stopped : goal.returns-clause-stopped
returns-clause-stopped g c =
    let routed = c.in_ok-route_rest.ensures in
    let after = (g.K.Sink.state c.answer.new.sink).faults in
    IfErr-weaker c.answer.result _ _
    (λ stop stopped hub seen unbroken behind calm.
    line_stops c.args.self.now c.route_rest.new.self routed.stands hub seen unbroken behind (g.K.Sink.state c.args.sink.now).written
    (g.K.Sink.state c.route_rest.new.sink).written
    (g.K.Sink.state c.answer.new.sink).written routed.quiet.written stop
    (λ h content none stands. stopped h content none stands
    (λ memory rose. calm memory (subst (λ (n : ℕ). Rose n after) routed.quiet.counted rose))))
    c.answer.ensures.stopped
