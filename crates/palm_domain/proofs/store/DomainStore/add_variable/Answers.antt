use Rattle.std.proofs.Common.{sym, subst}
use Rattle.palm_domain.specs.Rows.{IsFormed}
use Rattle.palm_domain.proofs.cited.StoreRows.{AreFormed-push, formed_new}
use Rattle.palm_domain.proofs.store.DomainStore.add_variable.Goals as goal

pub invariant_of-self-2 : goal.invariant_of-self-2
invariant_of-self-2 c =
    let formed = subst IsFormed (sym c.in_ok-domain.ensures) (formed_new c.args.values.now c.requires.ascend c.requires.filled c.requires.small) in
    rw c.in_ok-push.ensures.items (AreFormed-push _ _ c.self.invariant (rw (← c.self.view_is) at c.requires.few) formed)
