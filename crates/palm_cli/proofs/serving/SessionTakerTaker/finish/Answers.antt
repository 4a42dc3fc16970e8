use Rattle.std.proofs.Common.{◌-◌}
use Rattle.palm_cli.proofs.LeadLemmas.{takes_end}
use Rattle.palm_cli.proofs.serving.SessionTakerTaker.finish.Goals as goal

pub returns-clause-takes : goal.returns-clause-takes
returns-clause-takes g c = λ first seen start s.
    takes_end _ _ _ _ _ seen start (g.K.Sink.state c.args.sink.now) (g.K.Sink.state c.finish.new.out) c.args.self.now.session c.finish.new.self s
    c.finish.result (c.finish.new.steps - c.args.self.now.steps) c.finish.ensures.finishes c.finish.ensures.led
