use Rattle.std.proofs.Common.{rules, of_calls}
use Rattle.std.proofs.lemmas.Fn.{always_returns_same}
use Rattle.palm_engine.specs.Posted.{is_decision}
use Rattle.palm_engine.proofs.Placing.{parted_decisions}
use Rattle.palm_engine.proofs.actives.decisions_in.Goals as goal

pub returns : goal.returns
returns g c =
    let at = c.partition_point.ensures.partitioned is_decision (always_returns_same _ _ _ (λ a r f k. search (rules, of_calls)))
    (parted_decisions g.F.Filter.meaning c.args.part.now c.requires) in
    record { within = c.partition_point.ensures.bound; before = at.0; after = at.1 }
