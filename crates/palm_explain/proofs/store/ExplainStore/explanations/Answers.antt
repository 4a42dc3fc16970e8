use Rattle.std.proofs.Common.{sym, subst}
use Rattle.palm_model.specs.Log.{IsListOf}
use Rattle.palm_explain.specs.CidSets.{IsMember}
use Rattle.palm_explain.specs.Explanations.{NamesOfSome}
use Rattle.palm_explain.proofs.CidSets.{joined_listed}
use Rattle.palm_explain.proofs.store.ExplainStore.explanations.Goals as goal

pub returns-clause-ok : goal.returns-clause-ok
returns-clause-ok c =
    let named = NamesOfSome c.args.self.now.log c.args.var c.args.values.now in
    subst (IsListOf named) (sym c.from_vec.ensures)
    (joined_listed (IsMember c.new-cids.result) named (IsMember c.add_explanations.new.cids) c.in_ok-list.list.items c.new-cids.ensures c.in_ok-add_explanations.ensures.ok c.in_ok-list.ensures)
