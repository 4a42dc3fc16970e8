use Rattle.std.proofs.Common.{◌++◌, List, ap, ◌∙◌, subst}
use Rattle.palm_base.specs.declared.terms.Cid.{Cid}
use Rattle.palm_model.specs.Log.{IsListOf}
use Rattle.palm_explain.specs.CidSets.{CidMembers, HasAppended, IsIdIn, IsMember}
use Rattle.palm_explain.specs.declared.cid_set.Numbered.TheVariants.{Decisions}
use Rattle.palm_explain.proofs.CidSets.{members_listed}
use Rattle.palm_explain.proofs.cid_set.CidSet.list.Goals as goal

pub returns : goal.returns
returns c =
    let ids : CidMembers = record { decisions = c.self.inside.decisions; negations = c.self.inside.negations.items; users = c.self.inside.users } in
    subst (λ (v : CidMembers). IsListOf (IsMember v) c.push_ids-2.new.cids.items) c.self.view_is
    (members_listed ids c.push_ids.new.cids.items c.extend_from_slice.new.self.items c.push_ids-2.new.cids.items c.self.invariant
    (subst (λ (l : List Cid). HasAppended l (IsIdIn Decisions ids.decisions) c.push_ids.new.cids.items) c.in_ok-cids.ensures.items c.in_ok-push_ids.ensures)
    (c.in_ok-extend_from_slice.ensures.items ∙ ap (λ (l : List Cid). c.push_ids.new.cids.items ++ l) c.deref.ensures.value)
    c.in_ok-push_ids-2.ensures)
