use Rattle.std.proofs.Common.{Contains, sym, subst}
use Rattle.palm_model.specs.Conflict.{InFlat}
use Rattle.palm_model.specs.Log.{IsListOf}
use Rattle.palm_explain.specs.CidSets.{IsMember}
use Rattle.palm_engine.specs.Posted.{actives_of}
use Rattle.palm_engine.proofs.Gathering.{flat_listed}
use Rattle.palm_engine.proofs.conflicts.flat_of.Goals as goal

pub returns : goal.returns
returns g c =
    let active = actives_of g.F.Filter.meaning c.args.posted.now.items in
    subst (IsListOf (InFlat active (Contains c.args.from.now))) (sym c.from_vec.ensures)
    (flat_listed active c.args.from.now (IsMember c.new-cids.result) (IsMember c.add_flat_each.new.cids) c.in_ok-list.list.items c.new-cids.ensures c.in_ok-add_flat_each.ensures c.in_ok-list.ensures)
