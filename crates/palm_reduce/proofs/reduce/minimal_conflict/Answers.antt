use Rattle.std.proofs.Common.{IfOk, length, ap, sym, ◌∙◌, subst}
use Rattle.std.proofs.lemmas.List.{length-map}
use Rattle.palm_book.specs.declared.book.BookCon.{BookCon}
use Rattle.palm_book.specs.Book.{Contents, active_of, initial_of}
use Rattle.palm_model.specs.Minimal.{AreConflict}
use Rattle.palm_reduce.specs.Answers.{TellsMinimal}
use Rattle.palm_reduce.specs.Kept.{CanLend}
use Rattle.palm_reduce.proofs.cited.Marking.{same_marked}
use Rattle.palm_reduce.proofs.reduce.minimal_conflict.Goals as goal

pub returns : goal.returns
returns c =
    let book = c.args.book.now in
    subst (λ (z : Contents). IfOk c.minimal_conflict_among.result (TellsMinimal (AreConflict (initial_of book)) (active_of z)))
    (same_marked book c.as_slice.result.now (c.as_slice.ensures.value ∙ c.in_ok-marks.ensures.marks)) c.minimal_conflict_among.ensures

pub minimal_conflict_among-requires-clause-lends : goal.minimal_conflict_among-requires-clause-lends
minimal_conflict_among-requires-clause-lends c =
    subst (λ (z : Contents). CanLend z c.args.lender.now.state) (sym (same_marked c.args.book.now c.as_slice.result.now (c.as_slice.ensures.value ∙ c.in_ok-marks.ensures.marks))) c.requires

pub minimal_conflict_among-requires-clause-whole : goal.minimal_conflict_among-requires-clause-whole
minimal_conflict_among-requires-clause-whole c =
    let cs = c.args.book.now.constraints in
    ap length (c.as_slice.ensures.value ∙ c.in_ok-marks.ensures.marks) ∙ length-map cs (λ (e : BookCon). e.active)
