use Rattle.std.proofs.Common.{◌≡◌, ◌∙◌, ◌<◌, All, ℕ, ap, false, length, refl, sym, subst}
use Rattle.std.proofs.lemmas.List.{length-map}
use Rattle.std.proofs.lemmas.Option.{same_Some, slice_get_within}
use Rattle.palm_model.specs.Constraint.{scope}
use Rattle.palm_session.specs.Requests.{StandsAt}
use Rattle.palm_session.specs.Serving.{DeskView}
use Rattle.palm_session.specs.State.{IsHeld}
use Rattle.palm_session.proofs.Standing.{stands_as, stands_inactive}
use Rattle.palm_session.proofs.desk.Desk.enforce.Goals as goal

pub post-requires-clause-inactive : goal.post-requires-clause-inactive
post-requires-clause-inactive g c =
    let held = subst (λ (d : DeskView g.row.G.Denot g.row.O.Denot). IsHeld d.state) (sym c.self.view_is) c.requires.held in
    let stands = subst (λ (d : DeskView g.row.G.Denot g.row.O.Denot). StandsAt d.state c.args.place false) (sym c.self.view_is) c.requires.relaxed in
    let at = c.constraint-entry.ensures.at in
    stands_inactive _ held _ _ at (stands_as _ _ _ _ stands at)

pub set_active-requires : goal.set_active-requires
set_active-requires g c = slice_get_within _ _ _ c.constraint-entry.ensures.at

pub constraint-entry-requires : goal.constraint-entry-requires
constraint-entry-requires g c =
    let stands = subst (λ (d : DeskView g.row.G.Denot g.row.O.Denot). StandsAt d.state c.args.place false) (sym c.self.view_is) c.requires.relaxed in
    slice_get_within _ _ _ stands.at

pub from_con-requires : goal.from_con-requires
from_con-requires g c = (length c.self.inside.book.variables, c.constraint-entry.ensures.formed)

pub post-requires-clause-declared : goal.post-requires-clause-declared
post-requires-clause-declared g c =
    let held = subst (λ (d : DeskView g.row.G.Denot g.row.O.Denot). IsHeld d.state) (sym c.self.view_is) c.requires.held in
    let long : length c.self.inside.engine.state.initial ≡ length c.self.inside.book.variables = ap length held.initial ∙ length-map _ _ in
    rw c.in_ok-kind.ensures (subst (λ (n : ℕ). All (λ x. x < n) (scope c.constraint-entry.result.now.con)) (sym long) c.constraint-entry.ensures.formed.declared)

pub returns-clause-enforces : goal.returns-clause-enforces
returns-clause-enforces g c =
    rw (sym c.self.view_is)
    (λ d at. rw (same_Some _ _ (sym at ∙ c.constraint-entry.ensures.at)) (c.post.new.self.state, rw c.in_ok-kind.ensures at c.in_ok-post.ensures.ok, rw c.set_active.ensures refl))
