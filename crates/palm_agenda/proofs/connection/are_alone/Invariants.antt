use Rattle.std.proofs.Common.{◌≡◌, All, take}
use Rattle.palm_filter.specs.declared.heed.Heed.TheVariants.{Alone}
use Rattle.palm_agenda.proofs.connection.are_alone.Given as goal

-- the losses so far are heeded so
abbrev pub invariant-loop-heed : goal.invariant-loop-heed
invariant-loop-heed l = All (λ heed. heed ≡ Alone) (take l.heed-index l.heeds)
