use Rattle.palm_agenda.specs.Agenda.{IsStanding}
use Rattle.tests_engine.proofs.TwoConnected.{taken_user}
use Rattle.tests_engine.proofs.agendas.marks_of_lost.Given as goal

abbrev pub invariant-loop-loss : goal.invariant-loop-loss
invariant-loop-loss l = IsStanding l.agenda.connected taken_user
