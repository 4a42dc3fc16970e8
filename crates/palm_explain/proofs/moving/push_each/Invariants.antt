use Rattle.std.proofs.Common.{◌≡◌, ◌+◌, ◌≤◌, length, take, vec_capacity, vec_len}
use Rattle.palm_explain.specs.Moving.{HasEntered}
use Rattle.palm_explain.proofs.moving.push_each.Given as goal

-- the entries of the values so far are there, and there is room for the others
abbrev pub invariant-loop-value : goal.invariant-loop-value
invariant-loop-value l = record {
  entered : HasEntered l.fn.log.items l.var l.by l.spans l.first (take l.value-index l.values) l.log.items;
  number : l.number ≡ l.first + l.value-index;
  room : vec_len l.log + length l.values ≤ vec_capacity l.log + l.value-index;
}
