use Rattle.std.proofs.Common.{◌<◌, ◌≤◌, ◌^◌, ℕ, length, take}
use Rattle.palm_explain.specs.Entries.{written}
use Rattle.palm_explain.proofs.spans.are_countable.Given as goal

-- the spans so far stand for no more
abbrev pub invariant-loop-span : goal.invariant-loop-span
invariant-loop-span l = record {
  most : (n : ℕ) → length (written l.rows n (take l.span-index l.spans)) ≤ l.most;
  fits : l.most < 2 ^ 64;
}
