use Rattle.std.proofs.Common.{sym, subst}
use Rattle.palm_session.specs.Serving.{DeskView}
use Rattle.palm_session.specs.State.{IsHeld}
use Rattle.palm_session.proofs.Standing.{stands_active}
use Rattle.palm_session.proofs.desk.Desk.retract.Goals as goal

pub withdraw_active-requires-clause-active : goal.withdraw_active-requires-clause-active
withdraw_active-requires-clause-active g c =
    let held = subst (λ (d : DeskView g.row.G.Denot g.row.O.Denot). IsHeld d.state) (sym c.self.view_is) c.requires.held in
    stands_active _ held _ _ c.constraint-entry.ensures.at
