use Rattle.std.proofs.Common.{◌<◌, ◌∙◌, List, All, length, sym, subst}
use Rattle.palm_base.specs.declared.terms.Pair.{Pair}
use Rattle.palm_lang.proofs.cited.Wrote.{wrote_text}
use Rattle.palm_session.proofs.Logging.{line_at, numbered_user, reasons_at_place, user_at_place, variable_at}
use Rattle.palm_cert.proofs.cited.Logged.{user_numbered}
use Rattle.palm_session.proofs.deliver.write_removal.Goals as goal

pub number_of-by-requires : goal.number_of-by-requires
number_of-by-requires g c =
    user_numbered c.args.book.now c.by_at.result (user_at_place c.args.book.now c.args.log.now.log c.requires.logged c.args.place c.by_at.result c.by_at.ensures)

pub removal-requires-clause-variable : goal.removal-requires-clause-variable
removal-requires-clause-variable g c = variable_at c.args.book.now c.args.log.now.log c.requires.logged c.args.place c.pair_at.result c.pair_at.ensures

pub removal-requires-clause-constraint : goal.removal-requires-clause-constraint
removal-requires-clause-constraint g c =
    numbered_user c.args.book.now c.by_at.result c.number_of-by.result c.number_of-by.ensures
    (user_at_place c.args.book.now c.args.log.now.log c.requires.logged c.args.place c.by_at.result c.by_at.ensures)

pub removal-requires-clause-reasons : goal.removal-requires-clause-reasons
removal-requires-clause-reasons g c =
    subst (λ (ps : List Pair). All (λ (p : Pair). p.var < length c.args.book.now.variables) ps) (sym (c.deref.ensures.value ∙ c.in_ok-reasons.ensures.ok))
    (reasons_at_place c.args.book.now c.args.log.now.log c.requires.logged c.args.place c.requires.place)

pub returns : goal.returns
returns g c =
    wrote_text
    (line_at c.args.book.now c.args.log.now.log c.args.place c.pair_at.result c.by_at.result c.number_of-by.result c.deref.result.now c.pair_at.ensures c.by_at.ensures c.number_of-by.ensures
    (c.deref.ensures.value ∙ c.in_ok-reasons.ensures.ok)) c.removal.ensures
