use Rattle.std.proofs.Common.{true, sym, subst}
use Rattle.std.proofs.lemmas.Option.{slice_get_within}
use Rattle.palm_session.specs.Requests.{StandsAt}
use Rattle.palm_session.specs.Serving.{DeskView}
use Rattle.palm_session.specs.State.{IsHeld}
use Rattle.palm_session.proofs.Standing.{stands_as, stands_active}
use Rattle.palm_session.proofs.desk.Desk.relax.Goals as goal

pub withdraw-requires : goal.withdraw-requires
withdraw-requires g c =
    let held = subst (λ (d : DeskView g.row.G.Denot g.row.O.Denot). IsHeld d.state) (sym c.self.view_is) c.requires.held in
    let stands = subst (λ (d : DeskView g.row.G.Denot g.row.O.Denot). StandsAt d.state c.args.place true) (sym c.self.view_is) c.requires.active in
    let at = c.constraint.ensures.at in
    stands_active _ held _ _ at (stands_as _ _ _ _ stands at)

pub set_active-requires : goal.set_active-requires
set_active-requires g c = slice_get_within _ _ _ c.constraint.ensures.at
