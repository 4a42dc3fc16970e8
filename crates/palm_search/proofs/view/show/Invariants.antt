use Rattle.std.proofs.Common.{◌≡◌, length}
use Rattle.palm_domain.specs.Rows.{present_of}
use Rattle.palm_search.specs.Asked.{AreRows}
use Rattle.palm_search.proofs.view.show.Given as goal

abbrev pub invariant-loop-var : goal.invariant-loop-var
invariant-loop-var l = AreRows (present_of l.store) l.view.items × (length l.view.items ≡ l.var)
