use Rattle.std.proofs.Common.{◌≡◌, take}
use Rattle.palm_book.specs.Book.{initial_of}
use Rattle.palm_model.specs.State.{blank}
use Rattle.palm_reduce.proofs.posting.declare_all.Given as goal

abbrev pub invariant-loop-var : goal.invariant-loop-var
invariant-loop-var l = l.engine.state ≡ blank (take l.var (initial_of l.book))
