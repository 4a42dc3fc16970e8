-- Which places of a scope are marked, seen from a variable, and how.
use Rattle.std.specs.Prelude.{ℕ, Bool, not, nat_eq}
use Rattle.palm_filter.specs.declared.heed.Heed.{Heed}
use Rattle.palm_agenda.specs.declared.connection.Places.{Places}
use Rattle.palm_agenda.specs.declared.connection.Places.TheVariants.{Own, Others}
use Rattle.palm_agenda.specs.declared.mark.Mark.{Mark}
use Rattle.palm_agenda.specs.Losses.{mark_after}
use Rattle.palm_agenda.specs.Marks.{widened}
use Rattle.palm_agenda.specs.Agenda.{Connected, mark_own, mark_others}

-- whether a place with this variable is one of them
abbrev pub is_place : Places → ℕ → ℕ → Bool
is_place (Own low high) x y = nat_eq y x
is_place (Others loss) x y = not (nat_eq y x)

-- what becomes of the mark of one of them, where losses are heeded so
abbrev pub mark_at : Places → Heed → Mark → Mark
mark_at (Own low high) heed mark = widened low high mark
mark_at (Others loss) heed mark = mark_after heed loss mark

-- the constraint with marks at these places, where it is over the variable
abbrev pub mark_places : Places → ℕ → Connected → Connected
mark_places (Own low high) x d = mark_own x low high d
mark_places (Others loss) x d = mark_others x loss d
