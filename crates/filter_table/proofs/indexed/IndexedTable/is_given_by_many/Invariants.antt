use Rattle.std.proofs.Common.{◌≡◌, false}
use Rattle.std.specs.List.{AllWithin}
use Rattle.filter_table.specs.Table.{row_at}
use Rattle.palm_domain.specs.Rows.{present_of}
use Rattle.palm_model.specs.Table.{are_there, row_pairs}
use Rattle.filter_table.proofs.indexed.IndexedTable.is_given_by_many.Given as goal

-- each row so far has an entry that is not present
abbrev pub invariant-loop-place : goal.invariant-loop-place
invariant-loop-place l = AllWithin (λ k. are_there (present_of l.store) (row_pairs l.self.vars (row_at l.self.rows k)) ≡ false) l.place-items 0 l.place-index
