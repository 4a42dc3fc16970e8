use Rattle.std.proofs.Common.{◌∙◌, sym, subst}
use Rattle.palm_agenda.specs.Agenda.{IsStanding, mark_others}
use Rattle.palm_agenda.proofs.cited.Connecting.{standing_connected}
use Rattle.tests_engine.proofs.TwoConnected.{keeps_others, standing_after, taken_decision, woken_twice}
use Rattle.tests_engine.proofs.agendas.hand_out_as_answered.Goals as goal

pub wake_taken-requires : goal.wake_taken-requires
wake_taken-requires g c =
    let woken = standing_after (mark_others 0 c.loss.result) (keeps_others 0 c.loss.result) c.args.agenda.now.connected c.wake.new.self.connected c.wake.ensures.connected taken_decision c.requires in
    subst (IsStanding c.wake.new.self.connected) (sym c.taken_decision.ensures) woken

pub returns : goal.returns
returns g c = woken_twice _ _ _ _ _ _ _ c.wake.ensures.connected (c.take-first.ensures.connected ∙ c.wake_taken.ensures.connected) c.wake-2.ensures.connected c.take-second.ensures.connected
    (standing_connected c.args.agenda.now.connected taken_decision c.requires)
