-- Which losses of a variable matter to the other variables of a constraint, and what becomes of their marks.
use Rattle.std.specs.Prelude.{ℕ, ℤ, pos, ◌+ℤ◌, ◌-ℤ◌, if◌then◌else◌, Bool, true, not, ◌||◌, List, [], ◌∷◌, nat_eq, int_lt}
use Rattle.palm_filter.specs.declared.heed.Heed.{Heed}
use Rattle.palm_filter.specs.declared.heed.Heed.TheVariants.{Each, Least, Greatest, Ends, Alone, Shifted}
use Rattle.palm_agenda.specs.declared.loss.Loss.{Loss}
use Rattle.palm_agenda.specs.declared.mark.Mark.{Mark}
use Rattle.palm_agenda.specs.declared.mark.Mark.TheVariants.{Whole}
use Rattle.palm_agenda.specs.Marks.{widened}

-- whether the loss may take support from a value of another variable, where it is heeded so
abbrev pub matters : Heed → Loss → Bool
matters Each loss = true
matters Least loss = not loss.below
matters Greatest loss = not loss.above
matters Ends loss = not loss.below || not loss.above
matters Alone loss = not loss.several
matters (Shifted by) loss = true

-- the mark, and the value that is more by this number besides; where the number is none of a value, all are marked
abbrev pub shifted : ℤ → ℤ → Mark → Mark
shifted by v mark =
    if int_lt (v +ℤ by) (pos 0 -ℤ pos 2147483648) || int_lt (pos 2147483647) (v +ℤ by) then Whole else widened (v +ℤ by) (v +ℤ by) mark

-- what the loss makes of the mark of another variable's place
abbrev pub mark_after : Heed → Loss → Mark → Mark
mark_after Each loss mark = Whole
mark_after Least loss mark = if matters Least loss then Whole else mark
mark_after Greatest loss mark = if matters Greatest loss then Whole else mark
mark_after Ends loss mark = if matters Ends loss then Whole else mark
mark_after Alone loss mark = if matters Alone loss then Whole else mark
mark_after (Shifted by) loss mark = shifted by loss.value mark

-- how a variable's losses are heeded: as its first place says, and each where it has none
abbrev pub heed_of : ℕ → List ℕ → List Heed → Heed
heed_of x [] heeds = Each
heed_of x (y ∷ scope) [] = Each
heed_of x (y ∷ scope) (heed ∷ heeds) = if nat_eq y x then heed else heed_of x scope heeds
