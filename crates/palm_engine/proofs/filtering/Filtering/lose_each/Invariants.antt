use Rattle.std.proofs.Common.{ℤ, Contains, drop, take}
use Rattle.palm_domain.specs.Rows.{IsPresent}
use Rattle.palm_engine.specs.Changed.{HasLostEach}
use Rattle.palm_engine.proofs.filtering.Filtering.lose_each.Given as goal

-- the values so far are gone, and the others are present
abbrev pub invariant-loop-value : goal.invariant-loop-value
invariant-loop-value l = record {
  lost : HasLostEach l.fn.self l.var (take l.value-index l.values) l.self;
  left : (v : ℤ) → Contains (drop l.value-index l.values) v → IsPresent l.self.store l.var v;
}
