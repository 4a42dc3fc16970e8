use Rattle.std.proofs.Common.{rules, of_calls}
use Rattle.std.proofs.lemmas.Fn.{always_returns_same}
use Rattle.palm_model.specs.Relation.{is_standing}
use Rattle.filter_compare.proofs.Ends.{low_parted, low_meet}
use Rattle.filter_compare.proofs.demand.Demand.lower.Goals as goal

pub returns : goal.returns
returns c =
    let d = c.args.self.now in
    let vs = c.args.values.now in
    low_meet d vs c.requires.ascend c.partition_point-end.result
    (c.partition_point-end.ensures.partitioned (λ v. is_standing d.op v d.bound) (always_returns_same _ _ _ (λ a r f k. search (rules, of_calls))) (low_parted d vs c.requires.ascend c.requires.low))
