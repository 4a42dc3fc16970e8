use Rattle.std.proofs.Common.{◌≡◌, ◌-◌, length}
use Rattle.palm_base.specs.declared.terms.Pair.{Pair}
use Rattle.palm_explain.specs.Rows.{AreFormedRows, number_at}
use Rattle.palm_explain.proofs.rows.reach.Given as goal

-- no key has changed
abbrev pub invariant-loop-rows : goal.invariant-loop-rows
invariant-loop-rows l = record {
  formed : AreFormedRows l.rows.items;
  same : (p : Pair) → number_at l.rows.items p ≡ number_at l.initial.rows.items p;
}

abbrev pub decreases-loop-rows : goal.decreases-loop-rows
decreases-loop-rows l = l.variables - length l.rows.items
