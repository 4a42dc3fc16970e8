use Rattle.std.proofs.Common.{◌∙◌, ℕ, List, Some, ap}
use Rattle.palm_base.specs.declared.terms.Pair.{Pair}
use Rattle.palm_book.specs.Book.{number_name, user_name}
use Rattle.palm_lang.specs.Reply.{ended}
use Rattle.palm_read.specs.Words.{spaced}
use Rattle.palm_cert.specs.Certificate.{numbers_of, step_words}
use Rattle.palm_cert.specs.Needs.{removals_at}
use Rattle.palm_cert.proofs.cited.Logged.{by_at_place, text_read, user_numbered, variable_at}
use Rattle.palm_lang.proofs.cited.Wrote.{wrote_text}
use Rattle.palm_cert.proofs.certificate.write_step.Goals as goal

pub number_of-by-requires : goal.number_of-by-requires
number_of-by-requires g c =
    user_numbered c.args.book.now c.by_at.result (by_at_place c.args.book.now _ c.args.log.now.log c.requires.logged c.args.place c.requires.within c.by_at.result c.by_at.ensures)

pub write_removal-requires-clause-variable : goal.write_removal-requires-clause-variable
write_removal-requires-clause-variable g c =
    variable_at c.args.book.now _ c.args.log.now.log c.requires.logged c.args.place c.requires.within c.pair_at.result c.pair_at.ensures

pub write_removal-requires-clause-constraint : goal.write_removal-requires-clause-constraint
write_removal-requires-clause-constraint g c =
    by_at_place c.args.book.now _ c.args.log.now.log c.requires.logged c.args.place c.requires.within _ (c.by_at.ensures ∙ ap Some c.number_of-by.ensures)

pub returns : goal.returns
returns g c =
    let book = c.args.book.now in
    let log = c.args.log.now.log in
    let steps = removals_at log c.args.steps.now in
    let line = λ (p : Pair) (by : List ℕ) (ks : List ℕ). ended (spaced (step_words book.variables p by ks)) in
    wrote_text
    (ap (λ (ks : List ℕ). line c.pair_at.result (number_name book.constraints c.number_of-by.result) ks) (c.deref.ensures.value ∙ c.in_ok-collect_numbers.ensures)
    ∙ text_read (λ p by reasons. line p (user_name book.constraints by) (numbers_of steps reasons)) log c.args.place c.pair_at.result _ c.requires.within c.pair_at.ensures (c.by_at.ensures ∙ ap Some c.number_of-by.ensures))
    c.write_removal.ensures
