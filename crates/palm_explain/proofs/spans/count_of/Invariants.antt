use Rattle.std.proofs.Common.{◌≡◌, length, take}
use Rattle.palm_explain.specs.Entries.{written}
use Rattle.palm_explain.proofs.spans.count_of.Given as goal

-- the reasons of the spans so far are counted
abbrev pub invariant-loop-span : goal.invariant-loop-span
invariant-loop-span l = l.count ≡ length (written l.rows l.number (take l.span-index l.spans))
