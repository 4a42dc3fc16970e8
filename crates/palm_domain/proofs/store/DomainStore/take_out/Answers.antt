use Rattle.std.proofs.Common.{slice_set}
use Rattle.palm_domain.proofs.cited.StoreRows.{IsTakenOut, exists_from_present, taken_out, taken_out_formed}
use Rattle.palm_domain.proofs.store.DomainStore.take_out.Goals as goal
use Rattle.palm_domain.proofs.store.DomainStore.take_out.Goals.{After-take_out}

taken : (c : After-take_out) → IsTakenOut c.args.self.now (slice_set c.self.inside.domains.items c.place_of_row.result c.take_out.new.self) c.args.pair.var c.args.pair.value
taken c =
    let is = rw (c.self.view_is, c.place_of_row.ensures) at c.index_mut-domain.ensures.value in
    rw (c.self.view_is, c.place_of_row.ensures) (taken_out c.args.self.now c.args.pair.var _ _ c.args.pair.value (exists_from_present _ _ _ c.requires) is c.take_out.ensures)

pub invariant_of-self : goal.invariant_of-self
invariant_of-self c =
    let is = rw (c.self.view_is, c.place_of_row.ensures) at c.index_mut-domain.ensures.value in
    let formed = rw c.self.view_is at c.self.invariant in
    rw (c.self.view_is, c.place_of_row.ensures) (taken_out_formed c.args.self.now c.args.pair.var _ _ c.args.pair.value (exists_from_present _ _ _ c.requires) is formed c.take_out.ensures)

pub returns-clause-initial : goal.returns-clause-initial
returns-clause-initial c = (taken (goal.at.returns-clause-initial c).After-take_out).initial

pub returns-clause-present : goal.returns-clause-present
returns-clause-present c = (taken (goal.at.returns-clause-present c).After-take_out).present

pub returns-clause-loses : goal.returns-clause-loses
returns-clause-loses c = (taken (goal.at.returns-clause-loses c).After-take_out).loses

pub returns-clause-fewer : goal.returns-clause-fewer
returns-clause-fewer c =
    (taken (goal.at.returns-clause-fewer c).After-take_out).fewer (rw c.self.view_is at c.self.invariant) c.requires
