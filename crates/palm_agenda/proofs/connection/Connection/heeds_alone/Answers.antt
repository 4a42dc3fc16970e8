use Rattle.std.proofs.Common.{◌≡◌, All, List, arith, inl, subst}
use Rattle.palm_filter.specs.declared.heed.Heed.{Heed}
use Rattle.palm_filter.specs.declared.heed.Heed.TheVariants.{Alone}
use Rattle.palm_agenda.specs.Agenda.{HeedsAlone}
use Rattle.palm_agenda.proofs.Alone.{alone_at}
use Rattle.palm_agenda.proofs.connection.Connection.heeds_alone.Goals as goal

pub returns-then-places-len : goal.returns-then-places-len
returns-then-places-len c alone =
    subst HeedsAlone c.self.view_is
    (λ x m. inl (alone_at c.self.inside.scope c.self.inside.heeds.items x (omega (arith, c.if-places-len.true, c.len-places.ensures, c.len.ensures, c.self.inside.heeds.ok.0))
    (subst (λ (heeds : List Heed). All (λ heed. heed ≡ Alone) heeds) c.deref.ensures.value (c.are_alone.ensures alone)) m))
