use Rattle.palm_hub.proofs.Served.{takes_end}
use Rattle.palm_hub.proofs.serving.HubTakerTaker.finish.Goals as goal

pub returns-clause-takes : goal.returns-clause-takes
returns-clause-takes g c = λ first seen start s.
    takes_end seen start (g.K.Sink.state c.args.sink.now) (g.K.Sink.state c.finish.new.sink) c.args.self.now.hub c.finish.new.self s
    c.finish.result c.finish.ensures.answers c.finish.ensures.stopped
