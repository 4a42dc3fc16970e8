use Rattle.std.proofs.Common.{◌≡◌, map, take, filter}
use Rattle.tests_sessions.proofs.agreement.active_constraints.Given as goal

abbrev pub invariant-loop-place : goal.invariant-loop-place
invariant-loop-place l = l.list ≡ map (λ c. c.con) (filter (λ c. c.active) (take l.place l.book.constraints))
