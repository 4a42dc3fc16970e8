use Rattle.std.proofs.Common.{take, All}
use Rattle.palm_book.specs.Book.{HasConstraint}
use Rattle.proof_check.proofs.users.are_listed.Given as goal

abbrev pub invariant-loop-name : goal.invariant-loop-name
invariant-loop-name l = All (HasConstraint l.book) (take l.name-index l.names)
