use Rattle.std.proofs.Common.{◌≡◌, ◌++◌, take}
use Rattle.palm_explain.specs.Entries.{written}
use Rattle.palm_explain.proofs.spans.push_spans.Given as goal

-- the reasons of the spans so far are there
abbrev pub invariant-loop-span : goal.invariant-loop-span
invariant-loop-span l = l.out.items ≡ l.fn.out.items ++ written l.rows l.number (take l.span-index l.spans)
