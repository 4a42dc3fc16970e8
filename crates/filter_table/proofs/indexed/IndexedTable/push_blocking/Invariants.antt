use Rattle.palm_domain.specs.Rows.{initial_of, present_of}
use Rattle.filter_table.proofs.Blocking.{AreGathered}
use Rattle.filter_table.proofs.indexed.IndexedTable.push_blocking.Given as goal

-- the pairs of the values were added that block a row at one of the places so far
abbrev pub invariant-loop-place : goal.invariant-loop-place
invariant-loop-place l =
    AreGathered (initial_of l.store) (present_of l.store) l.self.vars l.self.rows l.pair.var l.pair.value l.var l.place-items l.place-index l.initial.out.items l.out.items
