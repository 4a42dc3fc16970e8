use Rattle.std.proofs.Common.{Bool, List, length, ap, sym, ◌∙◌, subst}
use Rattle.std.proofs.lemmas.List.{length-map}
use Rattle.palm_book.specs.declared.book.BookCon.{BookCon}
use Rattle.palm_book.specs.Book.{Contents}
use Rattle.palm_reduce.proofs.cited.Marking.{same_marked}
use Rattle.palm_reduce.specs.Kept.{AreKept, CanLend}
use Rattle.palm_prefer.proofs.choosing.preferred.Goals as goal

pub new-requires-clause-lends : goal.new-requires-clause-lends
new-requires-clause-lends c =
    subst (λ (z : Contents). CanLend z c.args.lender.now.state) (sym (same_marked c.args.book.now c.as_slice.result.now (c.as_slice.ensures.value ∙ c.in_ok-marks.ensures.marks))) c.requires.lends

pub new-requires-clause-whole : goal.new-requires-clause-whole
new-requires-clause-whole c =
    let cs = c.args.book.now.constraints in
    ap length (c.as_slice.ensures.value ∙ c.in_ok-marks.ensures.marks) ∙ length-map cs (λ (e : BookCon). e.active)

pub choose-requires-clause-kept : goal.choose-requires-clause-kept
choose-requires-clause-kept c =
    subst (λ (z : List Bool). AreKept c.args.book.now z c.in_ok-kinds.kinds) (c.as_slice.ensures.value ∙ c.in_ok-marks.ensures.marks) c.in_ok-kinds.ensures
