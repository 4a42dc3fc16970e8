use Rattle.palm_base.proofs.cited.RisingLists.{belongs_there}
use Rattle.palm_base.proofs.by_cid.place_for.Goals as goal

pub returns-else-stands_at : goal.returns-else-stands_at
returns-else-stands_at g c =
    belongs_there g.T.HasCid.id c.args.items.now c.requires c.args.cid.now c.place_from-place.result c.place_from-place.ensures c.if-stands_at.ensures
