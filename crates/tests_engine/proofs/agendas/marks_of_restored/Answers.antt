use Rattle.std.proofs.Common.{pos, sym, subst}
use Rattle.palm_agenda.specs.Agenda.{IsStanding, mark_own}
use Rattle.tests_engine.proofs.TwoConnected.{keeps_own, standing_after, taken_user}
use Rattle.tests_engine.proofs.agendas.marks_of_restored.Goals as goal

pub marks-requires : goal.marks-requires
marks-requires c =
    let after = c.wake_restored.new.self.connected in
    subst (IsStanding after) (sym c.taken_user.ensures)
    (standing_after (mark_own 0 (pos 2) (pos 4)) (keeps_own 0 (pos 2) (pos 4)) c.args.agenda.now.connected after c.wake_restored.ensures.connected taken_user c.requires)
