use Rattle.proof_check.proofs.Picking.{AreNamed}
use Rattle.proof_check.proofs.users.are_names.Given as goal

abbrev pub invariant-loop-place : goal.invariant-loop-place
invariant-loop-place l = AreNamed l.marks l.book.constraints l.names l.place l.matched
