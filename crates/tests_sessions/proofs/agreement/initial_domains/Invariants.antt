use Rattle.std.proofs.Common.{◌≡◌, map, take}
use Rattle.tests_sessions.proofs.agreement.initial_domains.Given as goal

abbrev pub invariant-loop-index : goal.invariant-loop-index
invariant-loop-index l = l.list ≡ map (λ e. e.values) (take l.index l.book.variables)
