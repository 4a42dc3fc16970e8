use Rattle.std.proofs.Common.{sym, subst}
use Rattle.palm_agenda.specs.Agenda.{IsStanding, mark_others}
use Rattle.tests_engine.proofs.TwoConnected.{keeps_others, standing_after, taken_user}
use Rattle.tests_engine.proofs.agendas.marks_of_lost.Goals as goal

pub loop-loss-preserved : goal.loop-loss-preserved
loop-loss-preserved c =
    standing_after (mark_others 0 c.loss-item.result) (keeps_others 0 c.loss-item.result) c.loop-loss.agenda.connected c.wake.new.self.connected c.wake.ensures.connected taken_user c.loop-loss.invariant

pub marks-requires : goal.marks-requires
marks-requires c = subst (IsStanding c.loop-loss.agenda.connected) (sym c.taken_user.ensures) c.loop-loss.invariant
