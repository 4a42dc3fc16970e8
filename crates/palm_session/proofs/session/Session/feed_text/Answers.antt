use Rattle.std.proofs.lemmas.Result.{err_from_is_err_and}
use Rattle.std.proofs.Common.{sym, subst}
use Rattle.palm_lang.specs.declared.stop.WriteStop.TheVariants.{NoMemory}
use Rattle.palm_session.specs.Feeding.{View, FeedsPart}
use Rattle.palm_read.specs.Lines.{HasNoFeed}
use Rattle.palm_session.proofs.cited.FeedLemmas.{part_all}
use Rattle.palm_session.proofs.cited.Keeping.{rest_whole}
use Rattle.palm_session.proofs.session.Session.feed_text.Goals as goal

pub returns-in_err-keep-in-Ok-More-default-clause-feeds :
    goal.returns-in_err-keep-in-Ok-More-default-clause-feeds
returns-in_err-keep-in-Ok-More-default-clause-feeds g c =
    let p = err_from_is_err_and c.from_residual.result c.from_residual.ensures.1 in
    let fed = rw c.in-Ok-More-default.field-0-0-is at c.in-Ok-More-default.ensures.answers in
    rw (p.1, p.2) (subst (λ (v : View g.row.G.Denot g.row.O.Denot). FeedsPart NoMemory v.state c.args.text.now (g.K.Sink.state c.args.out.now).written (g.K.Sink.state c.answer_lines.new.out).written) c.self.view_is
    (part_all c.self.inside.desk.state c.answer_lines.new.desk.state c.args.text.now _ _ _ _ fed.1))

pub keep-requires-clause-unbroken : goal.keep-requires-clause-unbroken
keep-requires-clause-unbroken g c =
    let fed = rw c.in-Ok-More-default.field-0-0-is at c.in-Ok-More-default.ensures.answers in
    subst HasNoFeed (sym (rest_whole c.in-Ok-More-default.used c.args.text.now)) fed.1.unfinished
