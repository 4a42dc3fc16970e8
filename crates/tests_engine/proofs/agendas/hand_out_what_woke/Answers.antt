use Rattle.std.proofs.Common.{◌∙◌}
use Rattle.tests_engine.proofs.TwoConnected.{two_decision}
use Rattle.tests_engine.proofs.agendas.hand_out_what_woke.Goals as goal

pub hand_out_as_answered-requires : goal.hand_out_as_answered-requires
hand_out_as_answered-requires g c =
    let two = c.in_ok-connect_two.ensures in
    two_decision _ two.0 two.1 (c.hand_out_by_name.ensures ∙ two.2)
