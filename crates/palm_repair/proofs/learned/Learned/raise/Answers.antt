use Rattle.std.proofs.Common.{◌<◌, length, Contains, sym, subst}
use Rattle.palm_repair.specs.Learned.{LearnedView}
use Rattle.palm_repair.proofs.learned.Learned.raise.Goals as goal

pub raise_each-requires-clause-within : goal.raise_each-requires-clause-within
raise_each-requires-clause-within c = λ x m. subst (λ (v : LearnedView). x < length v.weights) (sym c.self.view_is) (c.requires.within x m)

pub raise_each-requires-clause-small : goal.raise_each-requires-clause-small
raise_each-requires-clause-small c = λ w m. c.requires.small w (subst (λ (v : LearnedView). Contains v.weights w) c.self.view_is m)
