use Rattle.filter_table.specs.Table.{AreColumns}
use Rattle.filter_table.proofs.indexed.column_indexes.Given as goal

-- the columns so far
abbrev pub invariant-loop-column : goal.invariant-loop-column
invariant-loop-column l = AreColumns l.rows l.column l.columns.items
