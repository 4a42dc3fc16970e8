use Rattle.std.proofs.Common.{IfErr, [], subst, sym, ◌-◌, ◌≡◌}
use Rattle.palm_base.specs.Streams.{Appended, Rose}
use Rattle.palm_lang.specs.declared.stop.WriteStop.TheVariants.{NoMemory}
use Rattle.palm_hub.proofs.PassedLines.{part_kept, part_stopped, stopped_with}
use Rattle.palm_hub.proofs.passing.pass_part.Goals as goal

pub returns-in_err-feed_marked-clause-memory : goal.returns-in_err-feed_marked-clause-memory
returns-in_err-feed_marked-clause-memory g c =
    let state = g.K.Sink.state in
    let fed = c.feed_marked in
    let stop = c.in_err-feed_marked.field-0.0 in
    let stopped = part_stopped c.args.session.now fed.new.session c.args.piece.now c.args.prefix.now (state c.args.sink.now) (state fed.new.sink)
    (fed.new.steps - c.args.steps.now) stop fed.ensures.held c.requires.unbroken c.in_err-feed_marked.ensures.feeds in
    subst (λ r. IfErr r (λ s. s ≡ NoMemory)) (sym (stopped_with c.from_residual.result stop c.from_residual.ensures.1)) stopped.0

pub returns-in_err-feed_marked-clause-stopped : goal.returns-in_err-feed_marked-clause-stopped
returns-in_err-feed_marked-clause-stopped g c =
    let state = g.K.Sink.state in
    let fed = c.feed_marked in
    let stop = c.in_err-feed_marked.field-0.0 in
    let first = state c.args.sink.now in
    let last = state fed.new.sink in
    let stopped = part_stopped c.args.session.now fed.new.session c.args.piece.now c.args.prefix.now first last
    (fed.new.steps - c.args.steps.now) stop fed.ensures.held c.requires.unbroken c.in_err-feed_marked.ensures.feeds in
    subst (λ r. IfErr r (λ s. (Rose first.faults last.faults → ⊥) → Appended first.written last.written []))
    (sym (stopped_with c.from_residual.result stop c.from_residual.ensures.1)) stopped.1

pub returns-clause-kept : goal.returns-clause-kept
returns-clause-kept g c =
    let state = g.K.Sink.state in
    let fed = c.feed_marked in
    (part_kept c.args.session.now fed.new.session c.args.piece.now c.args.prefix.now (state c.args.sink.now) (state fed.new.sink)
    (fed.new.steps - c.args.steps.now) c.in_ok-feed_marked.field-0 fed.ensures.held c.requires.unbroken c.in_ok-feed_marked.ensures.feeds).0

pub returns-clause-written : goal.returns-clause-written
returns-clause-written g c =
    let state = g.K.Sink.state in
    let fed = c.feed_marked in
    (part_kept c.args.session.now fed.new.session c.args.piece.now c.args.prefix.now (state c.args.sink.now) (state fed.new.sink)
    (fed.new.steps - c.args.steps.now) c.in_ok-feed_marked.field-0 fed.ensures.held c.requires.unbroken c.in_ok-feed_marked.ensures.feeds).1
