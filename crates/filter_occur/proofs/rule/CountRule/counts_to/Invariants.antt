use Rattle.palm_domain.specs.Rows.{present_of}
use Rattle.filter_occur.specs.Count.{values_where}
use Rattle.filter_occur.proofs.Counting.{AreCounted}
use Rattle.filter_occur.proofs.rule.CountRule.counts_to.Given as goal

-- the variables so far were counted, the high number until it was enough, and each has a value
abbrev pub invariant-loop-var : goal.invariant-loop-var
invariant-loop-var l = AreCounted (values_where (present_of l.store) l.pair.var l.pair.value) l.self.value l.var-items l.enough l.var-index l.low l.high
