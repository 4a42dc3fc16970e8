use Rattle.std.proofs.Common.{◌≡◌, length}
use Rattle.filter_table.specs.Beside.{AreBeside}
use Rattle.filter_table.proofs.beside.words_of.Given as goal

-- the rows so far have their bits
abbrev pub invariant-loop-place : goal.invariant-loop-place
invariant-loop-place l = AreBeside l.own l.other l.place (record { own_least = l.own_least; other_least = l.other_least; words = l.words }) × (length l.words ≡ 64)
