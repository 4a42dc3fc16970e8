use Rattle.std.proofs.Common.{inl, inr, sym, ap, subst}
use Rattle.palm_model.specs.Log.{Active}
use Rattle.palm_model.specs.State.{IsJustifier}
use Rattle.palm_explain.specs.CidSets.{IsMember}
use Rattle.palm_engine.specs.Posted.{active_of, actives_of}
use Rattle.palm_engine.proofs.Gathering.{flat_negation, flat_justifier}
use Rattle.palm_engine.proofs.Placing.{placed_same, placed_within}
use Rattle.palm_engine.proofs.cited.Results.{on_ok}
use Rattle.palm_engine.proofs.conflicts.add_flat.Goals as goal

pub at-requires : goal.at-requires
at-requires g c =
    let is = c.requires.active in
    placed_within (active_of g.F.Filter.meaning) c.args.posted.now.items c.place_of.result is.owner (c.place_of.ensures.owner is.owner is.posted is.named)

pub returns-in-Not : goal.returns-in-Not
returns-in-Not g c =
    let is = c.requires.active in
    let active = actives_of g.F.Filter.meaning c.args.posted.now.items in
    let same = placed_same (active_of g.F.Filter.meaning) c.args.posted.now.items c.place_of.result c.at.result.now is.owner c.at.ensures (c.place_of.ensures.owner is.owner is.posted is.named) in
    on_ok c.add_justification.result _ _
    (flat_negation active c.args.cid.now c.in-Not.field-0 is.owner (active_of g.F.Filter.meaning c.at.result.now).justification (IsMember c.args.cids.now) (IsMember c.add_justification.new.cids) c.requires.rising c.in-Not.is is.posted is.named
    (ap (λ (a : Active). a.justification) same))
    c.add_justification.ensures

pub returns-in-Decide : goal.returns-in-Decide
returns-in-Decide g c =
    let active = actives_of g.F.Filter.meaning c.args.posted.now.items in
    let cid = c.args.cid.now in
    let justifier : IsJustifier cid = elim c.in-Decide.is [ inl d ↦ subst IsJustifier (sym d.1) tt | inr u ↦ subst IsJustifier (sym u.1) tt ] in
    on_ok c.add.result _ _ (flat_justifier active cid (IsMember c.args.cids.now) (IsMember c.add.new.self) justifier) c.add.ensures.ok
