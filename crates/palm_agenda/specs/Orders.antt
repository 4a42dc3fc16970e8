-- What the stock orders answer.
use Rattle.std.specs.Prelude.{ℕ, zero, suc, ◌+◌, ◌-◌, ◌%◌, if◌then◌else◌, nat_eq}
use Rattle.palm_base.specs.declared.limits.TheConstants.{LAST_COUNT}

-- the last index of a list of so many, and 0 where it is empty
abbrev pub last_index : ℕ → ℕ
last_index count = count - 1

-- the turn, counted round a list of so many, and 0 where it is empty
abbrev pub turned_index : ℕ → ℕ → ℕ
turned_index turn zero = 0
turned_index turn (suc n) = turn % suc n

-- the turn after a revision: 0 comes after the last one
abbrev pub next_turn : ℕ → ℕ
next_turn turn = if nat_eq turn LAST_COUNT then 0 else turn + 1
