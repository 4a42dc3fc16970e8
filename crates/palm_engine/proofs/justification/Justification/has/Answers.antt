use Rattle.std.proofs.Common.{◌↔◌, List, Contains, subst}
use Rattle.palm_base.specs.declared.terms.Cid.{Cid}
use Rattle.palm_explain.specs.CidSets.{IsMember}
use Rattle.palm_engine.proofs.Gathering.{names_told}
use Rattle.palm_engine.proofs.justification.Justification.has.Goals as goal

pub returns : goal.returns
returns c =
    let each = subst (λ (l : List Cid). (d : Cid) → IsMember c.self.inside.set d ↔ Contains l d) c.self.view_is c.self.invariant in
    names_told c.args.self.now c.args.cid.now c.has.result (IsMember c.self.inside.set c.args.cid.now) (each c.args.cid.now) c.has.ensures
