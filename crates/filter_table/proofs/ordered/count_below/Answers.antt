use Rattle.std.proofs.Common.{rules, of_calls, int_cmp, is_lt}
use Rattle.std.proofs.lemmas.Fn.{always_returns_same}
use Rattle.palm_base.specs.declared.terms.Pair.{Pair}
use Rattle.filter_table.proofs.Ordering.{pairs_parted, values_parted}
use Rattle.filter_table.proofs.ordered.count_below.Goals as goal

pub returns-clause-parted : goal.returns-clause-parted
returns-clause-parted c y vs is up =
    let v = c.args.value.now in
    values_parted y vs v c.args.pairs.now is c.partition_point.result c.partition_point.ensures.bound
    (c.partition_point.ensures.partitioned (λ (p : Pair). is_lt (int_cmp p.value v)) (always_returns_same _ _ _ (λ a r f k. search (rules, of_calls))) (pairs_parted y vs v c.args.pairs.now is up))
