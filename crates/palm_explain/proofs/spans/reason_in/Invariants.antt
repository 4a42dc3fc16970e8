use Rattle.std.proofs.Common.{◌≡◌, ◌+◌, length, take}
use Rattle.palm_explain.specs.Entries.{written}
use Rattle.palm_explain.proofs.spans.reason_in.Given as goal

-- what is sought stands so many reasons behind those of the spans so far
abbrev pub invariant-loop-span : goal.invariant-loop-span
invariant-loop-span l = l.index ≡ length (written l.rows l.number (take l.span-index l.spans)) + l.left
