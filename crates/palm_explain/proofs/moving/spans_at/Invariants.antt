use Rattle.std.proofs.Common.{◌≡◌, ◌≤◌, length, take}
use Rattle.palm_explain.specs.Moving.{spans_at}
use Rattle.palm_explain.proofs.moving.spans_at.Given as goal

-- the spans so far are there, and there is room for all
abbrev pub invariant-loop-span : goal.invariant-loop-span
invariant-loop-span l = record {
  made : l.own.items ≡ spans_at (take l.span-index l.spans) l.value;
  count : length l.own.items ≡ l.span-index;
  room : length l.spans ≤ l.own.capacity;
}
