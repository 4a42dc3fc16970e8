use Rattle.std.proofs.Common.{◌≡◌, drop}
use Rattle.palm_domain.specs.Rows.{present_of}
use Rattle.palm_model.specs.Table.{first_missing, row_pairs}
use Rattle.filter_table.specs.Table.{row_at}
use Rattle.filter_table.proofs.indexed.IndexedTable.are_present_before.Given as goal

-- the first entry that is not present is among those left
abbrev pub invariant-loop-column : goal.invariant-loop-column
invariant-loop-column l =
    first_missing (present_of l.store) (row_pairs l.self.vars (row_at l.self.rows l.place)) ≡ first_missing (present_of l.store) (row_pairs (drop l.column l.self.vars) (drop l.column (row_at l.self.rows l.place)))
