use Rattle.std.proofs.Common.{◌≡◌, ◌++◌, take, flat_map}
use Rattle.palm_domain.specs.Rows.{initial_of, present_of}
use Rattle.palm_model.specs.Table.{blocking_values}
use Rattle.palm_model.specs.Removed.{others, pairs_of}
use Rattle.filter_table.proofs.indexed.IndexedTable.push_reason.Given as goal

-- the pairs of the variables so far were added
abbrev pub invariant-loop-end : goal.invariant-loop-end
invariant-loop-end l =
    l.out.items
    ≡ l.initial.out.items ++ flat_map (λ y. pairs_of y (blocking_values (initial_of l.store) (present_of l.store) l.self.vars l.self.rows l.pair.var l.pair.value y)) (others (take l.end l.var-items) l.pair.var)
