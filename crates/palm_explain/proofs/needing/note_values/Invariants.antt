use Rattle.std.proofs.Common.{take}
use Rattle.palm_explain.specs.Entries.{pairs_with}
use Rattle.palm_explain.specs.Needed.{HasNoted}
use Rattle.palm_explain.proofs.needing.note_values.Given as goal

-- the numbers of the values so far are noted
abbrev pub invariant-loop-value : goal.invariant-loop-value
invariant-loop-value l = HasNoted l.rows l.fn.noted l.noted (pairs_with l.var (take l.value-index l.values))
