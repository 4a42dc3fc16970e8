use Rattle.std.proofs.Common.{◌≡◌, ◌++◌, ◌-◌, ℤ, Bool, length, take, filter}
use Rattle.std.specs.Fn.{FnReturnsAt}
use Rattle.smallvec.specs.SmallVec.{HasRoomFor}
use Rattle.palm_model.specs.Removed.{pairs_of}
use Rattle.palm_filter.proofs.reasons.push_passing.Given as goal

-- the pairs of those of the values so far that pass were added, and there is room for the others
abbrev pub invariant-loop-value : goal.invariant-loop-value
invariant-loop-value g l = record {
  written : (test : ℤ → Bool)
      → ((v : ℤ) (passed : Bool) → FnReturnsAt g.F.Fn l.passes v passed → passed ≡ test v)
      → l.out.items ≡ l.initial.out.items ++ pairs_of l.var (filter test (take l.value-index l.values));
  room : HasRoomFor l.out (length l.values - l.value-index);
}
