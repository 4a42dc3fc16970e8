use Rattle.palm_hub.proofs.Served.{takes_more, takes_until}
use Rattle.palm_hub.proofs.serving.HubTakerTaker.take.Goals as goal

pub returns-in-Ok-clause-takes : goal.returns-in-Ok-clause-takes
returns-in-Ok-clause-takes g c = λ first seen start s.
    takes_more seen start (g.K.Sink.state c.args.sink.now) (g.K.Sink.state c.feed.new.sink) c.args.self.now.hub c.feed.new.self s
    c.args.piece.now c.in-Ok.ensures.counted c.in-Ok.ensures.answers

pub returns-in-Err-clause-takes : goal.returns-in-Err-clause-takes
returns-in-Err-clause-takes g c = λ first seen start s.
    takes_until seen start (g.K.Sink.state c.args.sink.now) (g.K.Sink.state c.feed.new.sink) c.args.self.now.hub c.feed.new.self s
    c.in-Err.stop c.args.piece.now c.in-Err.ensures.stopped
