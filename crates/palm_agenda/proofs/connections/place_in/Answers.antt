use Rattle.std.proofs.Common.{of_calls, rules}
use Rattle.std.proofs.lemmas.Fn.{always_returns_same}
use Rattle.palm_base.specs.Order.{cid_before}
use Rattle.palm_base.proofs.cited.RisingLists.{rising}
use Rattle.palm_base.proofs.cited.Sorted.{parted}
use Rattle.palm_agenda.proofs.cited.Connecting.{cid_of, sorted_connected}
use Rattle.palm_agenda.proofs.connections.place_in.Goals as goal

pub returns : goal.returns
returns c =
    let part = c.args.part.now in
    let at = c.partition_point.ensures.partitioned (λ d. cid_before d.cid c.args.cid.now) (always_returns_same _ _ _ (λ a r f k. search (rules, of_calls)))
    (parted cid_of cid_before rising part (sorted_connected part c.requires) c.args.cid.now) in
    record { within = c.partition_point.ensures.bound; before = at.0; after = at.1 }
