use Rattle.std.proofs.Common.{Bool, List, ◌∙◌, sym, subst}
use Rattle.palm_book.specs.Book.{initial_of}
use Rattle.palm_model.specs.Log.{Active}
use Rattle.palm_model.specs.Minimal.{AreConflict}
use Rattle.palm_reduce.specs.Answers.{TellsMinimal}
use Rattle.palm_reduce.specs.Walked.{HasMarked}
use Rattle.palm_prefer.specs.Preferred.{hard}
use Rattle.palm_prefer.proofs.Ordering.{hard_book, hard_kept}
use Rattle.palm_prefer.proofs.choosing.choose.Goals as goal

pub engine_of-requires-clause-kept : goal.engine_of-requires-clause-kept
engine_of-requires-clause-kept g c =
    hard_kept c.args.book.now c.args.weights.now c.args.kinds.now c.as_slice.result.now (c.as_slice.ensures.value ∙ c.in_ok-marks.ensures.marks) c.requires.kept

pub minimal_conflict_in-requires-clause-kept : goal.minimal_conflict_in-requires-clause-kept
minimal_conflict_in-requires-clause-kept g c =
    hard_kept c.args.book.now c.args.weights.now c.args.kinds.now c.as_slice-2.result.now (c.as_slice-2.ensures.value ∙ c.in_ok-marks.ensures.marks) c.requires.kept

pub minimal_conflict_in-requires-clause-filled : goal.minimal_conflict_in-requires-clause-filled
minimal_conflict_in-requires-clause-filled g c =
    subst (λ (marks : List Bool). HasMarked c.args.book.now marks c.in_ok-engine.engine.state) (c.as_slice.ensures.value ∙ sym c.as_slice-2.ensures.value) c.in_ok-engine.ensures

pub keep_most-requires-clause-free : goal.keep_most-requires-clause-free
keep_most-requires-clause-free g c =
    let book = c.args.book.now in
    let answer = subst (λ (z : List Active). TellsMinimal (AreConflict (initial_of book)) z c.in_ok-conflict.field-0)
    (hard_book book c.args.weights.now c.as_slice-2.result.now (c.as_slice-2.ensures.value ∙ c.in_ok-marks.ensures.marks)) c.in_ok-conflict.ensures.answer in
    subst (TellsMinimal (AreConflict (initial_of book)) (hard book c.args.weights.now)) c.in-None.is answer

pub returns-in-Some : goal.returns-in-Some
returns-in-Some g c =
    let book = c.args.book.now in
    let answer = subst (λ (z : List Active). TellsMinimal (AreConflict (initial_of book)) z c.in_ok-conflict.field-0)
    (hard_book book c.args.weights.now c.as_slice-2.result.now (c.as_slice-2.ensures.value ∙ c.in_ok-marks.ensures.marks)) c.in_ok-conflict.ensures.answer in
    subst (TellsMinimal (AreConflict (initial_of book)) (hard book c.args.weights.now)) c.in-Some.is answer
