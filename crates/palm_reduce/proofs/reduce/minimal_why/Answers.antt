use Rattle.std.proofs.Common.{IfOk, length, ap, sym, ◌∙◌, subst}
use Rattle.std.proofs.lemmas.List.{length-map}
use Rattle.palm_book.specs.declared.book.BookCon.{BookCon}
use Rattle.palm_book.specs.Book.{Contents, active_of, initial_of}
use Rattle.palm_model.specs.Minimal.{AreConflict, DoExplain}
use Rattle.palm_reduce.specs.Answers.{TellsMinimal}
use Rattle.palm_reduce.specs.Kept.{CanLend}
use Rattle.palm_reduce.proofs.cited.Marking.{same_marked}
use Rattle.palm_reduce.proofs.reduce.minimal_why.Goals as goal

pub reduce-requires-clause-allowed : goal.reduce-requires-clause-allowed
reduce-requires-clause-allowed c =
    let book = c.args.book.now in (
      c.requires.declared,
      subst (λ (z : Contents). AreConflict (initial_of book) (active_of z) → ⊥) (sym (same_marked book c.as_slice.result.now (c.as_slice.ensures.value ∙ c.in_ok-marks.ensures.marks))) c.requires.filled,
    )

pub reduce-requires-clause-lends : goal.reduce-requires-clause-lends
reduce-requires-clause-lends c =
    subst (λ (z : Contents). CanLend z c.args.lender.now.state) (sym (same_marked c.args.book.now c.as_slice.result.now (c.as_slice.ensures.value ∙ c.in_ok-marks.ensures.marks))) c.requires.lends

pub returns : goal.returns
returns c =
    let book = c.args.book.now in
    subst (λ (z : Contents). IfOk c.reduce.result (TellsMinimal (DoExplain (initial_of book) c.args.pair) (active_of z)))
    (same_marked book c.as_slice.result.now (c.as_slice.ensures.value ∙ c.in_ok-marks.ensures.marks)) c.reduce.ensures

pub reduce-requires-clause-whole : goal.reduce-requires-clause-whole
reduce-requires-clause-whole c =
    let cs = c.args.book.now.constraints in
    ap length (c.as_slice.ensures.value ∙ c.in_ok-marks.ensures.marks) ∙ length-map cs (λ (e : BookCon). e.active)
