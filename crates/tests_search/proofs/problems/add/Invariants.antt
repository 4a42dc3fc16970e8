use Rattle.palm_search.specs.Kept.{HasOnlyUsers}
use Rattle.tests_search.proofs.problems.add.Given as goal

abbrev pub invariant-loop : goal.invariant-loop
invariant-loop l = HasOnlyUsers l.engine.state
