use Rattle.std.proofs.Common.{◌-◌}
use Rattle.palm_cli.proofs.LeadLemmas.{takes_enough, takes_more, takes_until}
use Rattle.palm_cli.proofs.serving.SessionTakerTaker.take.Goals as goal

pub returns-in-Ok-More-clause-takes : goal.returns-in-Ok-More-clause-takes
returns-in-Ok-More-clause-takes g c = λ first seen start s.
    let is = c.in-Ok-More.field-0-is in
    let e = c.in-Ok-More.ensures in
    takes_more _ _ _ _ _ seen start (g.K.Sink.state c.args.sink.now) (g.K.Sink.state c.feed.new.out) c.args.self.now.session c.feed.new.self s
    c.args.piece.now (c.feed.new.steps - c.args.self.now.steps) (rw is at e.feeds) (rw is at e.led)

pub returns-in-Ok-Quit-clause-takes : goal.returns-in-Ok-Quit-clause-takes
returns-in-Ok-Quit-clause-takes g c = λ first seen start s.
    let is = c.in-Ok-Quit.field-0-is in
    let e = c.in-Ok-Quit.ensures in
    takes_enough _ _ _ _ _ seen start (g.K.Sink.state c.args.sink.now) (g.K.Sink.state c.feed.new.out) c.args.self.now.session c.feed.new.self s
    c.args.piece.now (c.feed.new.steps - c.args.self.now.steps) (rw is at e.feeds) (rw is at e.led)

pub returns-in-Err-clause-takes : goal.returns-in-Err-clause-takes
returns-in-Err-clause-takes g c = λ first seen start s.
    takes_until _ _ _ _ _ seen start (g.K.Sink.state c.args.sink.now) (g.K.Sink.state c.feed.new.out) c.args.self.now.session c.feed.new.self s
    c.in-Err.stop c.args.piece.now (c.feed.new.steps - c.args.self.now.steps) c.in-Err.ensures.feeds
