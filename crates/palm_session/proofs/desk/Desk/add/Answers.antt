use Rattle.std.proofs.Common.{◌≡◌, ◌∙◌, ◌<◌, All, ℕ, ap, length, refl, sym, subst}
use Rattle.std.proofs.lemmas.List.{length-map}
use Rattle.palm_model.specs.Constraint.{IsWellFormed, scope}
use Rattle.palm_session.specs.Serving.{DeskView}
use Rattle.palm_session.specs.State.{IsHeld}
use Rattle.palm_session.proofs.Standing.{next_inactive}
use Rattle.palm_session.proofs.desk.Desk.add.Goals as goal

pub post-requires-clause-inactive : goal.post-requires-clause-inactive
post-requires-clause-inactive g c = next_inactive _ (subst (λ (d : DeskView g.row.G.Denot g.row.O.Denot). IsHeld d.state) (sym c.self.view_is) c.requires.held)

pub from_con-requires : goal.from_con-requires
from_con-requires g c = (length c.args.self.now.state.book.variables, c.requires.can.formed)

pub post-requires-clause-declared : goal.post-requires-clause-declared
post-requires-clause-declared g c =
    let held = subst (λ (d : DeskView g.row.G.Denot g.row.O.Denot). IsHeld d.state) (sym c.self.view_is) c.requires.held in
    let formed = subst (λ (d : DeskView g.row.G.Denot g.row.O.Denot). IsWellFormed (length d.state.book.variables) c.args.con) (sym c.self.view_is) c.requires.can.formed in
    let long : length c.self.inside.engine.state.initial ≡ length c.self.inside.book.variables = ap length held.initial ∙ length-map _ _ in
    rw c.in_ok-from_con.ensures (subst (λ (n : ℕ). All (λ x. x < n) (scope c.args.con)) (sym long) formed.declared)

pub add_constraint-requires-clause-formed : goal.add_constraint-requires-clause-formed
add_constraint-requires-clause-formed g c =
    subst (λ (d : DeskView g.row.G.Denot g.row.O.Denot). IsWellFormed (length d.state.book.variables) c.args.con) (sym c.self.view_is) c.requires.can.formed

pub returns-clause-ok : goal.returns-clause-ok
returns-clause-ok g c =
    rw (sym c.self.view_is)
    (c.post.new.self.state, rw c.in_ok-from_con.ensures at c.in_ok-post.ensures.ok, rw c.in_ok-add_constraint.ensures.ok refl)
