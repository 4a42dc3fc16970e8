use Rattle.std.proofs.Common.{refl}
use Rattle.palm_book.proofs.cited.BookLemmas.{IsBook-with_active, values-with_active, AreKeyed-with_active}
use Rattle.palm_book.proofs.book.Book.set_active.Goals as goal

pub invariant_of-self : goal.invariant_of-self
invariant_of-self c =
    let es = c.self.inside.constraints.entries in
    let at = c.index_mut-entry.ensures.value in (
      IsBook-with_active _ _ c.self.view_is c.self.invariant.0 c.args.place c.args.active _ (values-with_active es c.args.place c.args.active c.index_mut-entry.result.now at),
      AreKeyed-with_active es c.args.place c.args.active c.index_mut-entry.result.now at c.self.invariant.1,
    )

pub returns : goal.returns
returns c =
    let es = c.self.inside.constraints.entries in
    rw (← c.self.view_is, values-with_active es c.args.place c.args.active c.index_mut-entry.result.now c.index_mut-entry.ensures.value) refl
