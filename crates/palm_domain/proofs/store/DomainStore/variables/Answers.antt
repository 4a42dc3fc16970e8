use Rattle.palm_domain.proofs.cited.StoreRows.{initial_ascend, initial_filled, initial_small, present_ascend, present_inside}
use Rattle.palm_domain.proofs.store.DomainStore.variables.Goals as goal

pub returns-clause-initial_ascend : goal.returns-clause-initial_ascend
returns-clause-initial_ascend c = initial_ascend _ (rw c.self.view_is at c.self.invariant)

pub returns-clause-initial_filled : goal.returns-clause-initial_filled
returns-clause-initial_filled c = initial_filled _ (rw c.self.view_is at c.self.invariant)

pub returns-clause-initial_small : goal.returns-clause-initial_small
returns-clause-initial_small c = initial_small _ (rw c.self.view_is at c.self.invariant)

pub returns-clause-present_ascend : goal.returns-clause-present_ascend
returns-clause-present_ascend c = present_ascend _ (rw c.self.view_is at c.self.invariant)

pub returns-clause-inside : goal.returns-clause-inside
returns-clause-inside c = present_inside _ (rw c.self.view_is at c.self.invariant)
