use Rattle.std.proofs.Common.{arith, subst}
use Rattle.palm_domain.specs.Rows.{Row, IsLeastOf, StandsIn}
use Rattle.palm_domain.proofs.RowMarks.{first_within, least_is}
use Rattle.palm_domain.proofs.Standing.{read_stands}
use Rattle.palm_domain.proofs.domain.Domain.first_placed.Goals as goal

pub index-requires : goal.index-requires
index-requires c =
    omega (arith, first_within _ _ _ _ _ c.self.invariant.0 (rw (← c.self.view_is) at c.requires), c.from-place.ensures, c.self.inside.initial.ok.0)

pub returns-clause-least : goal.returns-clause-least
returns-clause-least c =
    let least = least_is _ _ _ _ _ c.self.invariant.0 c.index.result.now (rw (← c.self.view_is) at c.requires) (rw c.from-place.ensures at c.index.ensures) in
    subst (λ (r : Row). IsLeastOf r.present c.index.result.now) c.self.view_is least

pub returns-clause-placed : goal.returns-clause-placed
returns-clause-placed c =
    let within = first_within _ _ _ _ _ c.self.invariant.0 (rw (← c.self.view_is) at c.requires) in
    let stands = read_stands c.self.inside.initial.items c.from-place.result c.index.result.now (rw c.from-place.ensures within) c.index.ensures in
    subst (λ (r : Row). StandsIn r.initial (record { place = c.from-place.result; value = c.index.result.now })) c.self.view_is stands
