use Rattle.std.proofs.Common.{◌≡◌, ◌-◌, ◌≤◌, length, take, vec_capacity}
use Rattle.palm_agenda.specs.Agenda.{connected_cids}
use Rattle.palm_agenda.specs.Flags.{flagged}
use Rattle.palm_agenda.proofs.agenda.show.Given as goal

-- the ids at the raised flags so far are written
abbrev pub invariant-loop-place : goal.invariant-loop-place
invariant-loop-place l = record {
  cids : l.shown.items ≡ flagged (take l.place (connected_cids l.connections)) (take l.place l.flags);
  room : vec_capacity l.initial.shown ≤ vec_capacity l.shown;
}

abbrev pub decreases-loop-place : goal.decreases-loop-place
decreases-loop-place l = l.raised - length l.shown.items
