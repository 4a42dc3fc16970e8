use Rattle.std.proofs.Common.{not}
use Rattle.std.proofs.lemmas.List.Filters.{FiltersInPlace}
use Rattle.palm_explain.specs.declared.entry.Entry.{Entry}
use Rattle.palm_explain.proofs.withdrawing.close_up.Given as goal

-- the log is closed up below the place
abbrev pub invariant-loop-place : goal.invariant-loop-place
invariant-loop-place l = FiltersInPlace (λ (e : Entry). not e.mark) l.fn.log.items l.log.items l.kept l.place
