use Rattle.std.proofs.Common.{rules, of_calls}
use Rattle.std.proofs.lemmas.Fn.{always_returns_same}
use Rattle.palm_base.specs.Order.{cid_before}
use Rattle.palm_base.proofs.cited.RisingLists.{rising, sorted_keys}
use Rattle.palm_base.proofs.cited.Sorted.{parted}
use Rattle.palm_base.proofs.by_cid.place_by_halves.Goals as goal

pub returns : goal.returns
returns g c =
    let id = g.T.HasCid.id in
    let at = c.partition_point.ensures.partitioned (λ x. cid_before (id x) c.args.cid.now) (always_returns_same _ _ _ (λ a r f k. search (rules, of_calls)))
    (parted id cid_before rising c.args.items.now (sorted_keys id c.args.items.now c.requires) c.args.cid.now) in
    record { within = c.partition_point.ensures.bound; before = at.0; after = at.1 }
