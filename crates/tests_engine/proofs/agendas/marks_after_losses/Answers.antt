use Rattle.tests_engine.proofs.TwoConnected.{two_places, two_user}
use Rattle.tests_engine.proofs.agendas.marks_after_losses.Goals as goal

pub unmark_user-requires-clause-standing : goal.unmark_user-requires-clause-standing
unmark_user-requires-clause-standing c =
    let two = c.in_ok-connect_two.ensures in
    two_user _ two.0 two.1 two.2

pub unmark_user-requires-clause-places : goal.unmark_user-requires-clause-places
unmark_user-requires-clause-places c =
    let two = c.in_ok-connect_two.ensures in
    two_places _ two.0 two.1 two.2
