use Rattle.palm_base.proofs.cited.RisingLists.{tells_cid}
use Rattle.palm_agenda.proofs.CidLists.{told_cut, told_cut_rises, told_gone}
use Rattle.palm_agenda.proofs.cids.Cids.remove.Goals as goal

pub invariant_of-self : goal.invariant_of-self
invariant_of-self c =
    told_cut_rises c.self.inside.falling.items c.deref.result.now c.deref-2.result.now c.self.invariant c.args.cid.now c.place_of-place.result c.deref.ensures.value c.deref-2.ensures.value c.place_of-place.ensures c.stands_at.result (tells_cid c.deref-2.result.now c.place_of-place.result c.args.cid.now c.stands_at.result c.stands_at.ensures) c.if-stands_at.true c.remove.new.self.items c.remove.ensures.items

pub returns-then-stands_at-clause-cids : goal.returns-then-stands_at-clause-cids
returns-then-stands_at-clause-cids c =
    rw (← c.self.view_is)
    (told_cut c.self.inside.falling.items c.deref.result.now c.deref-2.result.now c.self.invariant c.args.cid.now c.place_of-place.result c.deref.ensures.value c.deref-2.ensures.value c.place_of-place.ensures c.stands_at.result (tells_cid c.deref-2.result.now c.place_of-place.result c.args.cid.now c.stands_at.result c.stands_at.ensures) c.if-stands_at.true c.remove.new.self.items c.remove.ensures.items)

pub returns-else-stands_at-clause-cids : goal.returns-else-stands_at-clause-cids
returns-else-stands_at-clause-cids c =
    rw (← c.self.view_is)
    (told_gone c.self.inside.falling.items c.deref.result.now c.deref-2.result.now c.self.invariant c.args.cid.now c.place_of-place.result c.deref.ensures.value c.deref-2.ensures.value c.place_of-place.ensures c.stands_at.result (tells_cid c.deref-2.result.now c.place_of-place.result c.args.cid.now c.stands_at.result c.stands_at.ensures) c.if-stands_at.false)
