use Rattle.std.proofs.Common.{◌≡◌, ◌∙◌, ◌<◌, ℕ, Some, List, [], ◌∷◌, length, flat_map, refl, ap}
use Rattle.std.specs.Prelude.{slice_get}
use Rattle.palm_base.specs.declared.terms.Cid.{Cid}
use Rattle.palm_base.specs.declared.terms.Cid.TheVariants.{Decide, Not, User}
use Rattle.palm_base.specs.declared.terms.Pair.{Pair}
use Rattle.palm_book.specs.Book.{Contents, number_name}
use Rattle.palm_cert.specs.Certificate.{numbers_of, step_words as by_words}
use Rattle.palm_cert.specs.Needs.{removals_at}
use Rattle.palm_cert.proofs.cited.Logged.{by_at_place, text_read, variable_at}
use Rattle.palm_explain.specs.Explanations.{log_bys, reasons_of}
use Rattle.palm_lang.specs.Reply.{ended}
use Rattle.palm_lang.proofs.cited.Wrote.{wrote_nothing, wrote_text}
use Rattle.palm_model.specs.Log.{Removal, log_pairs}
use Rattle.palm_read.specs.Words.{spaced}
use Rattle.proof_run.specs.Lemma.{step_line, step_words}
use Rattle.proof_write.specs.Lines.{given_line}
use Rattle.proof_write.proofs.lemma.write_step.Goals as goal

-- the line of the step at a place, by what is read there
line_read : (book : Contents) (undone : List Pair) (steps log : List Removal) (place : ℕ) (pair : Pair) (by : Cid) → place < length log → slice_get (log_pairs log) place ≡ Some pair → slice_get (log_bys log) place ≡ Some by
    → ended (spaced (step_words book undone pair by (numbers_of steps (reasons_of log place)))) ≡ flat_map (step_line book undone steps) (removals_at log (place ∷ []))
line_read book undone steps log place pair by = text_read (λ p c reasons. ended (spaced (step_words book undone p c (numbers_of steps reasons)))) log place pair by

pub write_assumed-requires : goal.write_assumed-requires
write_assumed-requires g c =
    variable_at c.args.book.now _ c.args.log.now.log c.requires.logged c.args.place c.requires.within c.pair_at-pair.result c.pair_at-pair.ensures

pub write_given-requires : goal.write_given-requires
write_given-requires g c =
    variable_at c.args.book.now _ c.args.log.now.log c.requires.logged c.args.place c.requires.within c.pair_at-pair.result c.pair_at-pair.ensures

pub write_removal-requires-clause-variable : goal.write_removal-requires-clause-variable
write_removal-requires-clause-variable g c =
    variable_at c.args.book.now _ c.args.log.now.log c.requires.logged c.args.place c.requires.within c.pair_at-pair.result c.pair_at-pair.ensures

pub write_removal-requires-clause-constraint : goal.write_removal-requires-clause-constraint
write_removal-requires-clause-constraint g c =
    by_at_place c.args.book.now _ c.args.log.now.log c.requires.logged c.args.place c.requires.within (User c.in-User.by) c.in-User.ensures

pub returns-in_err-collect_numbers-in-User : goal.returns-in_err-collect_numbers-in-User
returns-in_err-collect_numbers-in-User g c undone are = wrote_nothing _ _ _ refl c.from_residual.ensures.1

pub returns-in-Decide : goal.returns-in-Decide
returns-in-Decide g c undone are =
    let line = line_read c.args.book.now undone (removals_at c.args.log.now.log c.args.steps.now) c.args.log.now.log c.args.place c.pair_at-pair.result (Decide c.in-Decide.field-0) c.requires.within c.pair_at-pair.ensures c.in-Decide.ensures in
    wrote_text line c.write_assumed.ensures

pub returns-in-Not : goal.returns-in-Not
returns-in-Not g c undone are =
    let book = c.args.book.now in
    let line = line_read book undone (removals_at c.args.log.now.log c.args.steps.now) c.args.log.now.log c.args.place c.pair_at-pair.result (Not c.in-Not.negated) c.requires.within c.pair_at-pair.ensures c.in-Not.ensures in
    wrote_text (ap (λ (n : ℕ). given_line book.variables c.pair_at-pair.result n) (c.number_of.ensures ∙ are.each c.in-Not.negated) ∙ line) c.write_given.ensures

pub returns-in_ok-collect_numbers-in-User : goal.returns-in_ok-collect_numbers-in-User
returns-in_ok-collect_numbers-in-User g c undone are =
    let book = c.args.book.now in
    let line = line_read book undone (removals_at c.args.log.now.log c.args.steps.now) c.args.log.now.log c.args.place c.pair_at-pair.result (User c.in-User.by) c.requires.within c.pair_at-pair.ensures c.in-User.ensures in
    wrote_text
    (ap (λ (ks : List ℕ). ended (spaced (by_words book.variables c.pair_at-pair.result (number_name book.constraints c.in-User.by) ks))) (c.deref.ensures.value ∙ c.in_ok-collect_numbers-in-User.ensures) ∙ line)
    c.write_removal.ensures
