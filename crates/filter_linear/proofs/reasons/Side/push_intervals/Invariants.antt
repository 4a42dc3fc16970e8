use Rattle.std.proofs.Common.{◌≡◌, ◌++◌, take}
use Rattle.palm_domain.specs.Rows.{initial_of, present_of}
use Rattle.palm_filter.specs.Rules.{listed_pairs}
use Rattle.filter_linear.specs.Linear.{values_beyond}
use Rattle.palm_reason.proofs.cited.LinearReason.{pairs_by}
use Rattle.filter_linear.proofs.reasons.Side.push_intervals.Given as goal

-- the intervals of the terms so far were added
abbrev pub invariant-loop-term : goal.invariant-loop-term
invariant-loop-term l = listed_pairs (initial_of l.store) l.out.items ≡ listed_pairs (initial_of l.store) l.initial.out.items ++ pairs_by (λ t. values_beyond l.self (initial_of l.store) (present_of l.store) t) (take l.term-index l.term-items) l.pair.var
