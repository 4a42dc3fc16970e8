use Rattle.std.proofs.Common.{◌≡◌, drop}
use Rattle.palm_domain.specs.Rows.{initial_of}
use Rattle.palm_model.specs.Table.{are_there, row_pairs}
use Rattle.filter_table.specs.Table.{row_at}
use Rattle.filter_table.proofs.indexed.IndexedTable.are_declared.Given as goal

-- the answer is that of the entries left
abbrev pub invariant-loop-column : goal.invariant-loop-column
invariant-loop-column l =
    are_there (initial_of l.store) (row_pairs l.self.vars (row_at l.self.rows l.place)) ≡ are_there (initial_of l.store) (row_pairs (drop l.column l.self.vars) (drop l.column (row_at l.self.rows l.place)))
