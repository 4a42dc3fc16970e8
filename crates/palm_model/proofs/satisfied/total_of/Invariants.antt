use Rattle.std.proofs.Common.{◌≡◌, ◌*◌, take}
use Rattle.palm_model.specs.Limits.{IsUpTo}
use Rattle.palm_model.specs.Linear.{total}
use Rattle.palm_model.specs.Trial.{listed}
use Rattle.palm_model.proofs.satisfied.total_of.Given as goal

-- the sum of the terms so far, and how large it can be
abbrev pub invariant-loop-term : goal.invariant-loop-term
invariant-loop-term l = record {
  sum : l.sum ≡ total (listed l.values) (take l.term-index l.term-items);
  small : IsUpTo (l.term-index * 214748364800000) l.sum;
}
