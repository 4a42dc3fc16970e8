use Rattle.std.proofs.Common.{◌≡◌, ◌++◌, take, flat_map}
use Rattle.palm_domain.specs.Rows.{initial_of, present_of}
use Rattle.palm_model.specs.Count.{counted_pairs}
use Rattle.palm_model.specs.Removed.{others}
use Rattle.filter_occur.proofs.rule.CountRule.push_others.Given as goal

-- the pairs of the variables so far were added
abbrev pub invariant-loop-var : goal.invariant-loop-var
invariant-loop-var l =
    l.out.items ≡ l.initial.out.items ++ flat_map (counted_pairs (initial_of l.store) (present_of l.store) l.self.value l.self.op) (others (take l.var-index l.var-items) l.except)
