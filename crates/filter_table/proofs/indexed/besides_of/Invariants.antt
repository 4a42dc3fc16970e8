use Rattle.std.proofs.Common.{◌≡◌, length}
use Rattle.filter_table.specs.Table.{AreBesides}
use Rattle.filter_table.proofs.indexed.besides_of.Given as goal

-- those of the columns so far
abbrev pub invariant-loop-own : goal.invariant-loop-own
invariant-loop-own l = AreBesides l.columns l.besides.items × (length l.besides.items ≡ l.own)
