use Rattle.std.proofs.Common.{◌-◌}
use Rattle.std.proofs.lemmas.Result.{err_from_is_err_and}
use Rattle.palm_cli.proofs.SolveLemmas.{taken, solved_after, stopped_after, stopped_before}
use Rattle.palm_cli.proofs.generator.solve_after.Goals as goal

pub feed-requires-2 : goal.feed-requires-2
feed-requires-2 g c =
    (taken c.args.session.now c.feed.new.self c.args.text.now c.requires.text.0 _ _ (c.feed.new.steps - c.args.steps.now) c.in_ok-feed.field-0 c.requires.whole c.requires.text.1 c.in_ok-feed.ensures.feeds).1

pub returns : goal.returns
returns g c = λ lines is.
    solved_after (tt {0}) c.args.session.now c.feed.new.self c.feed-2.new.self c.args.text.now c.args.solve.now lines _ _ (g.K.Sink.state c.args.sink.now) (g.K.Sink.state c.feed-2.new.out)
    (c.feed.new.steps - c.args.steps.now) (c.feed-2.new.steps - c.feed.new.steps) c.in_ok-feed.field-0 c.in_ok-feed-2.field-0 c.requires.whole is c.requires.solve
    c.in_ok-feed.ensures.feeds c.in_ok-feed-2.ensures.counted c.in_ok-feed-2.ensures.feeds

pub returns-in_err-feed : goal.returns-in_err-feed
returns-in_err-feed g c = λ lines is.
    let p = err_from_is_err_and c.from_residual.result c.from_residual.ensures.1 in
    rw (p.1, p.2)
    (stopped_before (Unit {0}) c.args.session.now c.feed.new.self lines (g.K.Sink.state c.args.sink.now) c.in_err-feed.field-0.0 c.requires.state c.in_err-feed.ensures.counted)

pub returns-in_err-feed-2 : goal.returns-in_err-feed-2
returns-in_err-feed-2 g c = λ lines is.
    let p = err_from_is_err_and c.from_residual-in_err-feed-2.result c.from_residual-in_err-feed-2.ensures.1 in
    rw (p.1, p.2)
    (stopped_after (Unit {0}) c.args.session.now c.feed.new.self c.feed-2.new.self c.feed-2.new.self c.args.text.now c.args.solve.now lines _ _ (g.K.Sink.state c.args.sink.now) (g.K.Sink.state c.feed-2.new.out)
    (c.feed.new.steps - c.args.steps.now) (c.feed-2.new.steps - c.feed.new.steps) c.in_ok-feed.field-0
    c.in_err-feed-2.field-0.0 c.requires.state c.requires.whole is c.requires.solve c.in_ok-feed.ensures.feeds c.in_err-feed-2.ensures.counted c.in_err-feed-2.ensures.feeds)
