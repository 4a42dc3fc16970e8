use Rattle.std.proofs.Common.{◌-◌, length, drop, not, rules, of_calls, arith, ◌∙◌, take_all}
use Rattle.std.proofs.lemmas.List.{length-drop}
use Rattle.std.proofs.lemmas.Fn.{always_returns_same}
use Rattle.palm_model.specs.Relation.{is_standing}
use Rattle.filter_compare.proofs.Ends.{high_parted, high_meet}
use Rattle.filter_compare.proofs.demand.Demand.higher.Goals as goal

pub returns : goal.returns
returns c =
    let d = c.args.self.now in
    let vs = c.args.values.now in
    let start = c.partition_point-start.result in
    take_all (length vs - start) (drop start vs) (omega (arith, length-drop start vs))
    ∙ high_meet d vs c.requires.ascend start
    (c.partition_point-start.ensures.partitioned (λ v. not (is_standing d.op v d.bound)) (always_returns_same _ _ _ (λ a r f k. search (rules, of_calls))) (high_parted d vs c.requires.ascend c.requires.high))
