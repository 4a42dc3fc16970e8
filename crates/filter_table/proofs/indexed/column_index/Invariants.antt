use Rattle.std.proofs.Common.{◌≡◌, take}
use Rattle.filter_table.specs.Table.{column_values}
use Rattle.filter_table.proofs.indexed.column_index.Given as goal

-- the entries of the rows so far
abbrev pub invariant-loop-row : goal.invariant-loop-row
invariant-loop-row l = l.values.items ≡ column_values (take l.row-index l.rows) l.column
