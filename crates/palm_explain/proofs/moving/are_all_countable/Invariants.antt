use Rattle.std.proofs.Common.{◌≡◌, ◌<◌, ◌^◌, take}
use Rattle.std.specs.List.{sum_by}
use Rattle.palm_explain.specs.Moving.{lost_at}
use Rattle.palm_explain.proofs.moving.are_all_countable.Given as goal

-- the spans so far stand for at most so many reasons
abbrev pub invariant-loop-span : goal.invariant-loop-span
invariant-loop-span l = record {
  most : l.most ≡ sum_by (λ s. lost_at l.rows s.var) (take l.span-index l.spans);
  fits : l.most < 2 ^ 64;
}
