use Rattle.std.proofs.Common.{ap, rules, ◌-◌}
use Rattle.palm_hub.proofs.PassedLines.{fed}
use Rattle.palm_hub.proofs.passing.feed_marked.Goals as goal

pub returns-clause-feeds : goal.returns-clause-feeds
returns-clause-feeds g c =
    let state = g.K.Sink.state in
    let start = g.B.Start in
    let made = c.new-marked in
    let marked = c.feed.new.out in
    fed c.args.session.now c.feed.new.self c.args.piece.now c.args.prefix.now start.prefix start.written start.faults (state c.args.sink.now)
    (state made.result.inner.now) (state marked.inner.now) _ made.result.torn marked.torn marked.shown (c.feed.new.steps - c.args.steps.now)
    c.feed.result c.requires.written c.requires.faults c.requires.prefix (ap state made.ensures.inner) made.ensures.whole (search rules)
    (record { few = marked.few; built = marked.built; proper = marked.proper }) marked.cause c.feed.ensures.stands.ok c.feed.ensures.feeds
