use Rattle.std.proofs.Common.{◌≡◌, arith, subst}
use Rattle.palm_agenda.specs.Flags.{FlagRow, count_raised}
use Rattle.palm_agenda.proofs.Flagged.{lowered_on, none_raised}
use Rattle.palm_agenda.proofs.flags.Flags.first.Goals as goal

pub returns-then-place-len-clause-first : goal.returns-then-place-len-clause-first
returns-then-place-len-clause-first c =
    subst (λ (f : FlagRow). count_raised f.flags ≡ 0) c.self.view_is
    (none_raised c.self.inside.flags.items c.raised_from-place.result (omega arith)
    (lowered_on c.self.inside.flags.items c.deref.result.now c.self.inside.lowest c.raised_from-place.result c.deref.ensures.value c.self.invariant.below c.raised_from-place.ensures.between))
