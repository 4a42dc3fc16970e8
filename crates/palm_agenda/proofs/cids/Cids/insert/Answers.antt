use Rattle.std.proofs.Common.{sym}
use Rattle.palm_base.proofs.cited.RisingLists.{tells_cid}
use Rattle.palm_agenda.proofs.CidLists.{put_room, told_absent, told_put, told_put_rises, told_member, with_cid_same}
use Rattle.palm_agenda.proofs.cids.Cids.insert.Goals as goal

pub put_at-requires-clause-room : goal.put_at-requires-clause-room
put_at-requires-clause-room c =
    put_room c.self.inside.falling.items c.args.cid.now c.args.self.now _ (sym c.self.view_is) c.requires
    (told_absent c.self.inside.falling.items c.deref.result.now c.deref-2.result.now c.self.invariant c.args.cid.now c.place_of-place.result c.deref.ensures.value c.deref-2.ensures.value c.place_of-place.ensures c.stands_at.result (tells_cid c.deref-2.result.now c.place_of-place.result c.args.cid.now c.stands_at.result c.stands_at.ensures) c.if-not-stands_at.true)

pub invariant_of-self : goal.invariant_of-self
invariant_of-self c =
    told_put_rises c.self.inside.falling.items c.deref.result.now c.deref-2.result.now c.self.invariant c.args.cid.now c.place_of-place.result c.deref.ensures.value c.deref-2.ensures.value c.place_of-place.ensures c.stands_at.result (tells_cid c.deref-2.result.now c.place_of-place.result c.args.cid.now c.stands_at.result c.stands_at.ensures) c.if-not-stands_at.true c.put_at.new.cids.items c.put_at.ensures.items

pub returns-then-not-stands_at-clause-cids : goal.returns-then-not-stands_at-clause-cids
returns-then-not-stands_at-clause-cids c =
    rw (← c.self.view_is)
    (told_put c.self.inside.falling.items c.deref.result.now c.deref-2.result.now c.self.invariant c.args.cid.now c.place_of-place.result c.deref.ensures.value c.deref-2.ensures.value c.place_of-place.ensures c.stands_at.result (tells_cid c.deref-2.result.now c.place_of-place.result c.args.cid.now c.stands_at.result c.stands_at.ensures) c.if-not-stands_at.true c.put_at.new.cids.items c.put_at.ensures.items)

pub returns-else-not-stands_at-clause-cids : goal.returns-else-not-stands_at-clause-cids
returns-else-not-stands_at-clause-cids c =
    rw (← c.self.view_is)
    (with_cid_same c.args.cid.now _ c.self.invariant
    (told_member c.self.inside.falling.items c.deref.result.now c.deref-2.result.now c.self.invariant c.args.cid.now c.place_of-place.result c.deref.ensures.value c.deref-2.ensures.value c.place_of-place.ensures c.stands_at.result (tells_cid c.deref-2.result.now c.place_of-place.result c.args.cid.now c.stands_at.result c.stands_at.ensures) c.if-not-stands_at.false))
