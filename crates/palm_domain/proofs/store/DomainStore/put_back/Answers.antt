use Rattle.std.proofs.Common.{slice_set, sym, subst, Contains}
use Rattle.palm_domain.proofs.cited.StoreRows.{IsPutBack, exists_from_declared, present-row, put_back, put_back_formed}
use Rattle.palm_domain.proofs.store.DomainStore.put_back.Goals as goal
use Rattle.palm_domain.proofs.store.DomainStore.put_back.Goals.{After-put_back}

pub put_back-requires-clause-removed : goal.put_back-requires-clause-removed
put_back-requires-clause-removed c h =
    let is = rw (c.self.view_is, c.place_of_row.ensures) at c.index_mut-domain.ensures.value in
    c.requires.removed (subst (λ vs. Contains vs c.args.pair.value) (sym (present-row c.args.self.now c.args.pair.var _ (exists_from_declared _ _ _ c.requires.declared) is)) h)

put : (c : After-put_back) → IsPutBack c.args.self.now (slice_set c.self.inside.domains.items c.place_of_row.result c.put_back.new.self) c.args.pair.var c.args.pair.value
put c =
    let is = rw (c.self.view_is, c.place_of_row.ensures) at c.index_mut-domain.ensures.value in
    rw (c.self.view_is, c.place_of_row.ensures) (put_back c.args.self.now c.args.pair.var _ _ c.args.pair.value (exists_from_declared _ _ _ c.requires.declared) is c.put_back.ensures)

pub invariant_of-self : goal.invariant_of-self
invariant_of-self c =
    let is = rw (c.self.view_is, c.place_of_row.ensures) at c.index_mut-domain.ensures.value in
    let formed = rw c.self.view_is at c.self.invariant in
    rw (c.self.view_is, c.place_of_row.ensures) (put_back_formed c.args.self.now c.args.pair.var _ _ c.args.pair.value (exists_from_declared _ _ _ c.requires.declared) is formed c.requires.declared c.requires.removed c.put_back.ensures)

pub returns-clause-initial : goal.returns-clause-initial
returns-clause-initial c = (put (goal.at.returns-clause-initial c).After-put_back).initial

pub returns-clause-present : goal.returns-clause-present
returns-clause-present c = (put (goal.at.returns-clause-present c).After-put_back).present

pub returns-clause-gains : goal.returns-clause-gains
returns-clause-gains c = (put (goal.at.returns-clause-gains c).After-put_back).gains

pub returns-clause-more : goal.returns-clause-more
returns-clause-more c = (put (goal.at.returns-clause-more c).After-put_back).more
