use Rattle.std.proofs.Common.{IfErr, List, subst, sym, take, ℕ, ◌-◌, ◌≡◌}
use Rattle.palm_base.specs.Streams.{Rose}
use Rattle.palm_lang.specs.declared.stop.WriteStop.TheVariants.{NoMemory}
use Rattle.palm_read.specs.Lines.{HasNoFeed}
use Rattle.palm_session.specs.declared.limits.TheConstants.{MOST_KEPT_BYTES}
use Rattle.palm_hub.specs.Standing.{AnswersInUntil}
use Rattle.palm_hub.proofs.PassedLines.{line_answered, line_stopped, stopped_with}
use Rattle.palm_hub.proofs.passing.end_line.Goals as goal

pub returns-in_err-feed_marked-clause-stopped : goal.returns-in_err-feed_marked-clause-stopped
returns-in_err-feed_marked-clause-stopped g c =
    let state = g.K.Sink.state in
    let fed = c.feed_marked in
    let before = c.args.session.now in
    let prefix = c.args.prefix.now in
    let first = state c.args.sink.now in
    let last = state fed.new.sink in
    let stop = c.in_err-feed_marked.field-0.0 in
    subst (λ r. IfErr r (λ s. (line : List ℕ) → HasNoFeed line → before.unfinished ≡ take MOST_KEPT_BYTES line
    → (s ≡ NoMemory → Rose first.faults last.faults → ⊥) → AnswersInUntil s before.state line prefix first.written last.written))
    (sym (stopped_with c.from_residual.result stop c.from_residual.ensures.1))
    (λ line unbroken kept calm. line_stopped before fed.new.session line prefix first last (fed.new.steps - c.args.steps.now) stop fed.ensures.held
    c.requires.going unbroken kept c.in_err-feed_marked.ensures.feeds calm)

pub returns-clause-answers : goal.returns-clause-answers
returns-clause-answers g c =
    let state = g.K.Sink.state in
    let fed = c.feed_marked in
    λ line unbroken kept. line_answered c.args.session.now fed.new.session line c.args.prefix.now (state c.args.sink.now) (state fed.new.sink)
    (fed.new.steps - c.args.steps.now) c.in_ok-feed_marked.field-0 unbroken kept c.in_ok-feed_marked.ensures.feeds
