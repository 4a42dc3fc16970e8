use Rattle.std.proofs.Common.{◌+◌, ◌++◌, ap, arith, subst, sym}
use Rattle.palm_base.specs.Order.{IsPartedAt, Rises}
use Rattle.palm_model.specs.Log.{cids_of}
use Rattle.palm_engine.specs.Posted.{active_of, actives_of, is_decision}
use Rattle.palm_engine.proofs.Parts.{parted_behind, parted_front, rises_behind, rises_front}
use Rattle.palm_engine.proofs.Placing.{parted_decisions}
use Rattle.palm_engine.proofs.actives.Actives.decisions.Goals as goal

pub decisions_in-place-requires : goal.decisions_in-place-requires
decisions_in-place-requires g c =
    subst (λ ps. Rises (cids_of (actives_of g.F.Filter.meaning ps))) (sym c.deref.ensures.value)
    (rises_front (active_of g.F.Filter.meaning) c.self.inside.front.items c.self.inside.users.items (subst (λ ps. Rises (cids_of (actives_of g.F.Filter.meaning ps))) (ap (λ r. r.items) (sym c.self.view_is)) c.requires))

pub decisions_in-requires : goal.decisions_in-requires
decisions_in-requires g c =
    subst (λ ps. Rises (cids_of (actives_of g.F.Filter.meaning ps))) (sym c.deref-2.ensures.value)
    (rises_behind (active_of g.F.Filter.meaning) c.self.inside.front.items c.self.inside.users.items (subst (λ ps. Rises (cids_of (actives_of g.F.Filter.meaning ps))) (ap (λ r. r.items) (sym c.self.view_is)) c.requires))

pub returns-then-place-len : goal.returns-then-place-len
returns-then-place-len g c =
    let front = c.self.inside.front.items in
    let users = c.self.inside.users.items in
    subst (λ ps. IsPartedAt is_decision ps c.decisions_in-place.result) (ap (λ r. r.items) c.self.view_is)
    (parted_front is_decision front users (parted_decisions g.F.Filter.meaning (front ++ users) (subst (λ ps. Rises (cids_of (actives_of g.F.Filter.meaning ps))) (ap (λ r. r.items) (sym c.self.view_is)) c.requires)) c.decisions_in-place.result
    (subst (λ ps. IsPartedAt is_decision ps c.decisions_in-place.result) c.deref.ensures.value c.decisions_in-place.ensures)
    (omega (arith, c.if-place-len.true, c.len.ensures, c.self.inside.front.ok.0)))

pub returns : goal.returns
returns g c =
    let front = c.self.inside.front.items in
    let users = c.self.inside.users.items in
    subst (λ ps. IsPartedAt is_decision ps (c.decisions_in-place.result + c.decisions_in.result)) (ap (λ r. r.items) c.self.view_is)
    (parted_behind is_decision front users (parted_decisions g.F.Filter.meaning (front ++ users) (subst (λ ps. Rises (cids_of (actives_of g.F.Filter.meaning ps))) (ap (λ r. r.items) (sym c.self.view_is)) c.requires)) c.decisions_in-place.result
    (subst (λ ps. IsPartedAt is_decision ps c.decisions_in-place.result) c.deref.ensures.value c.decisions_in-place.ensures) c.decisions_in.result
    (omega (arith, c.if-place-len.false, c.len.ensures, c.self.inside.front.ok.0))
    (subst (λ ps. IsPartedAt is_decision ps c.decisions_in.result) c.deref-2.ensures.value c.decisions_in.ensures))
