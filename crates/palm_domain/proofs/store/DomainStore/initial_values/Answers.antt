use Rattle.std.proofs.Common.{subst, Contains}
use Rattle.palm_domain.proofs.store.DomainStore.initial_values.Goals as goal

pub returns-clause-inside : goal.returns-clause-inside
returns-clause-inside c v h =
    rw c.initial.ensures.values (c.initial.ensures.formed.inside v (subst (λ vs. Contains vs v) c.domain.ensures.present h))
