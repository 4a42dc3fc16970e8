-- What a waking has heard of the constraints so far.
use Rattle.std.specs.Prelude.{◌≡◌}
use Rattle.palm_filter.specs.declared.heed.Heed.{Heed}
use Rattle.palm_agenda.specs.declared.connection.Places.{Places}
use Rattle.palm_agenda.specs.declared.heard.Heard.{Heard}
use Rattle.palm_agenda.specs.declared.mark.Change.{Change}
use Rattle.palm_agenda.specs.declared.mark.Mark.{Mark}
use Rattle.palm_agenda.specs.Marks.{changed}
use Rattle.palm_agenda.specs.Open.{Covers}
use Rattle.palm_agenda.specs.Places.{mark_at}

-- the change is what becomes of the marks of these places, where losses are heeded so
abbrev pub ChangesAt : Change → Places → Heed → Type 0
ChangesAt change places heed = (mark : Mark) → changed change mark ≡ mark_at places heed mark

-- the change and what is noted are right where losses are heeded so
pub record HasHeard (heard : Heard) (places : Places) (heed : Heed) : Type 0 where
  pub changes : ChangesAt heard.change places heed
  pub covers : Covers heard.still places heed

-- they are right where losses are heeded as they were last
abbrev pub IsHearing : Heard → Places → Type 0
IsHearing heard places = HasHeard heard places heard.heed
