use Rattle.std.proofs.Common.{take}
use Rattle.palm_explain.specs.Losing.{LosesNumbers, marked_pairs}
use Rattle.palm_explain.proofs.withdrawing.forget_each.Given as goal

-- the marked ones below the place have no number any more
abbrev pub invariant-loop-place : goal.invariant-loop-place
invariant-loop-place l = LosesNumbers l.fn.rows.items l.rows.items (marked_pairs (take l.place l.log))
