-- Which values of a variable may lack support in a constraint.
use Rattle.std.specs.Prelude.{ℤ, ◌≤ℤ◌, ⊤}
use Rattle.std.specs.Int.{int_min, int_max}
use Rattle.palm_agenda.specs.declared.mark.Mark.{Mark}
use Rattle.palm_agenda.specs.declared.mark.Mark.TheVariants.{Clear, Between, Whole}
use Rattle.palm_agenda.specs.declared.mark.Change.{Change}
use Rattle.palm_agenda.specs.declared.mark.Change.TheVariants.{Keeps, Widens, Fills}

-- the value may lack support
abbrev pub MayLack : Mark → ℤ → Type 0
MayLack Clear v = ⊥
MayLack (Between low high) v = (low ≤ℤ v) × (v ≤ℤ high)
MayLack Whole v = ⊤

-- the mark, and the values from the one to the other besides
abbrev pub widened : ℤ → ℤ → Mark → Mark
widened low high Clear = Between low high
widened low high (Between from to) = Between (int_min from low) (int_max to high)
widened low high Whole = Whole

-- the mark after the change
abbrev pub changed : Change → Mark → Mark
changed Keeps mark = mark
changed (Widens low high) mark = widened low high mark
changed Fills mark = Whole
