use Rattle.std.proofs.Common.{length}
use Rattle.tests_reduce.proofs.Lending.{HasFirst}
use Rattle.tests_reduce.proofs.lender.post_all.Given as goal

abbrev pub invariant-loop-place : goal.invariant-loop-place
invariant-loop-place l = HasFirst l.book.constraints (length l.book.variables) l.place l.engine.state
