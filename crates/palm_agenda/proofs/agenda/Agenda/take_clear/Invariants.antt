use Rattle.std.proofs.Common.{◌-◌, ◌≤◌}
use Rattle.palm_agenda.specs.Agenda.{TakesClear}
use Rattle.palm_agenda.proofs.agenda.Agenda.take_clear.Given as goal

-- so many are taken
abbrev pub invariant-loop-taken : goal.invariant-loop-taken
invariant-loop-taken l = record {
  within : l.taken ≤ l.most;
  takes : TakesClear l.initial.self l.self l.taken l.taken;
}

abbrev pub decreases-loop-taken : goal.decreases-loop-taken
decreases-loop-taken l = l.most - l.taken
