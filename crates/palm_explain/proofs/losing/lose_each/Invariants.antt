use Rattle.std.proofs.Common.{◌≡◌, ◌≤◌, vec_capacity, vec_len}
use Rattle.palm_explain.specs.Losing.{marked_pairs}
use Rattle.palm_explain.proofs.Marking.{IsMarkedBelow}
use Rattle.palm_explain.proofs.Returning.{IsPutBack}
use Rattle.palm_explain.proofs.losing.lose_each.Given as goal

-- the lost ones below the place have marks, and their pairs are back
abbrev pub invariant-loop-place : goal.invariant-loop-place
invariant-loop-place l = record {
  below : IsMarkedBelow l.fn.rows.items l.cid l.fn.log.items l.fn.start l.log.items l.place;
  back : IsPutBack l.fn.rows.items l.rows.items l.fn.store l.store l.restored.items (marked_pairs l.log.items);
  from : l.fn.start ≤ l.place;
  same : vec_capacity l.restored ≡ vec_capacity l.fn.restored;
  few : vec_len l.restored ≤ l.place;
}
