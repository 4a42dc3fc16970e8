use Rattle.std.proofs.Common.{rules, of_calls}
use Rattle.std.proofs.lemmas.Fn.{always_returns_same}
use Rattle.palm_base.specs.Order.{cid_before}
use Rattle.palm_agenda.proofs.CidLists.{cid_after, falling, sorted_falling}
use Rattle.palm_base.proofs.cited.Sorted.{parted}
use Rattle.palm_agenda.proofs.cids.place_of.Goals as goal

pub returns : goal.returns
returns c =
    let at = c.partition_point.ensures.partitioned (λ n. cid_before c.args.cid.now n) (always_returns_same _ _ _ (λ a r f k. search (rules, of_calls)))
    (parted (λ n. n) cid_after falling c.args.falling.now (sorted_falling c.args.falling.now c.requires) c.args.cid.now) in
    record { within = c.partition_point.ensures.bound; before = at.0; after = at.1 }
