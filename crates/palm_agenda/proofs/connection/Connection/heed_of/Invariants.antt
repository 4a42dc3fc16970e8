use Rattle.std.proofs.Common.{◌≡◌, drop}
use Rattle.palm_agenda.specs.Losses.{heed_of}
use Rattle.palm_agenda.proofs.connection.Connection.heed_of.Given as goal

-- none of the places so far is of the variable
abbrev pub invariant-loop-place : goal.invariant-loop-place
invariant-loop-place l = heed_of l.var (drop l.place l.self-inside.scope) (drop l.place l.self-inside.heeds.items) ≡ heed_of l.var l.self-inside.scope l.self-inside.heeds.items
