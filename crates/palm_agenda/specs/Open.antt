-- Which losses of a variable may mark something more, after one that woke the constraints over it.
use Rattle.std.specs.Prelude.{◌≡◌, not, false, ◌&&◌, ◌||◌, ⊤, Bool}
use Rattle.palm_filter.specs.declared.heed.Heed.{Heed}
use Rattle.palm_agenda.specs.declared.connection.Places.{Places}
use Rattle.palm_agenda.specs.declared.connection.Places.TheVariants.{Own, Others}
use Rattle.palm_agenda.specs.declared.loss.Loss.{Loss}
use Rattle.palm_agenda.specs.declared.mark.Mark.{Mark}
use Rattle.palm_agenda.specs.declared.open.Open.{Open}
use Rattle.palm_agenda.specs.Losses.{mark_after}

-- whether the loss may
abbrev pub is_open : Open → Loss → Bool
is_open still loss = still.each || (still.least && not loss.below) || (still.greatest && not loss.above) || (still.alone && not loss.several)

-- where a loss marked these places of a constraint that heeds losses so, one that may not marks nothing more
abbrev pub Covers : Open → Places → Heed → Type 0
Covers still (Own low high) heed = ⊤
Covers still (Others loss) heed = (l : Loss) (mark : Mark) → is_open still l ≡ false → mark_after heed l (mark_after heed loss mark) ≡ mark_after heed loss mark
