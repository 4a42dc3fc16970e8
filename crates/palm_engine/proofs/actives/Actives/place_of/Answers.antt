use Rattle.std.proofs.Common.{◌+◌, ◌++◌, Bool, map, ap, arith, subst, sym}
use Rattle.palm_base.specs.declared.terms.Cid.{Cid}
use Rattle.palm_base.specs.Order.{IsPartedAt, Rises, cid_before}
use Rattle.palm_base.proofs.cited.RisingLists.{rising as strict}
use Rattle.palm_base.proofs.cited.Sorted.{parted}
use Rattle.palm_model.specs.Log.{cids_of}
use Rattle.palm_engine.specs.declared.posted.Posted.{Posted}
use Rattle.palm_engine.specs.Posted.{active_of, actives_of}
use Rattle.palm_engine.proofs.Parts.{parted_behind, parted_front, rises_behind, rises_front}
use Rattle.palm_engine.proofs.Placing.{items_rise, owner_placed, sorted}
use Rattle.palm_engine.proofs.actives.Actives.place_of.Given as given
use Rattle.palm_engine.proofs.actives.Actives.place_of.Goals as goal

-- whether the constraint comes before the id
abbrev before : (g : given.Over) → Cid → Posted g.row.F.Denot → Bool
before g cid p = cid_before (active_of g.F.Filter.meaning p).cid cid

pub place_of-place-requires : goal.place_of-place-requires
place_of-place-requires g c =
    subst (λ ps. Rises (map (λ p. (active_of g.F.Filter.meaning p).cid) ps)) (sym c.deref.ensures.value)
    (items_rise (active_of g.F.Filter.meaning) c.self.inside.front.items
    (rises_front (active_of g.F.Filter.meaning) c.self.inside.front.items c.self.inside.users.items (subst (λ ps. Rises (cids_of (actives_of g.F.Filter.meaning ps))) (ap (λ r. r.items) (sym c.self.view_is)) c.requires)))

pub place_of-requires : goal.place_of-requires
place_of-requires g c =
    subst (λ ps. Rises (map (λ p. (active_of g.F.Filter.meaning p).cid) ps)) (sym c.deref-2.ensures.value)
    (items_rise (active_of g.F.Filter.meaning) c.self.inside.users.items
    (rises_behind (active_of g.F.Filter.meaning) c.self.inside.front.items c.self.inside.users.items (subst (λ ps. Rises (cids_of (actives_of g.F.Filter.meaning ps))) (ap (λ r. r.items) (sym c.self.view_is)) c.requires)))

pub returns-then-place-len-clause-parted : goal.returns-then-place-len-clause-parted
returns-then-place-len-clause-parted g c =
    let front = c.self.inside.front.items in
    let users = c.self.inside.users.items in
    let rises = subst (λ ps. Rises (cids_of (actives_of g.F.Filter.meaning ps))) (ap (λ r. r.items) (sym c.self.view_is)) c.requires in
    let test = before g c.args.cid.now in
    subst (λ ps. IsPartedAt test ps c.place_of-place.result) (ap (λ r. r.items) c.self.view_is)
    (parted_front test front users (parted (λ p. (active_of g.F.Filter.meaning p).cid) cid_before strict (front ++ users) (sorted (active_of g.F.Filter.meaning) (front ++ users) rises) c.args.cid.now) c.place_of-place.result
    (subst (λ ps. IsPartedAt test ps c.place_of-place.result) c.deref.ensures.value c.place_of-place.ensures)
    (omega (arith, c.if-place-len.true, c.len.ensures, c.self.inside.front.ok.0)))

pub returns-then-place-len-clause-owner : goal.returns-then-place-len-clause-owner
returns-then-place-len-clause-owner g c =
    owner_placed (active_of g.F.Filter.meaning) c.args.self.now.items c.args.cid.now c.place_of-place.result c.requires (returns-then-place-len-clause-parted g c)

pub returns-clause-parted : goal.returns-clause-parted
returns-clause-parted g c =
    let front = c.self.inside.front.items in
    let users = c.self.inside.users.items in
    let rises = subst (λ ps. Rises (cids_of (actives_of g.F.Filter.meaning ps))) (ap (λ r. r.items) (sym c.self.view_is)) c.requires in
    let test = before g c.args.cid.now in
    subst (λ ps. IsPartedAt test ps (c.place_of-place.result + c.place_of.result)) (ap (λ r. r.items) c.self.view_is)
    (parted_behind test front users (parted (λ p. (active_of g.F.Filter.meaning p).cid) cid_before strict (front ++ users) (sorted (active_of g.F.Filter.meaning) (front ++ users) rises) c.args.cid.now) c.place_of-place.result
    (subst (λ ps. IsPartedAt test ps c.place_of-place.result) c.deref.ensures.value c.place_of-place.ensures) c.place_of.result
    (omega (arith, c.if-place-len.false, c.len.ensures, c.self.inside.front.ok.0))
    (subst (λ ps. IsPartedAt test ps c.place_of.result) c.deref-2.ensures.value c.place_of.ensures))

pub returns-clause-owner : goal.returns-clause-owner
returns-clause-owner g c =
    owner_placed (active_of g.F.Filter.meaning) c.args.self.now.items c.args.cid.now (c.place_of-place.result + c.place_of.result) c.requires (returns-clause-parted g c)
