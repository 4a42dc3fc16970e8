use Rattle.std.proofs.Common.{◌∙◌, arith, subst, sym}
use Rattle.palm_agenda.specs.Agenda.{Waiting, IsConnected}
use Rattle.palm_agenda.proofs.cited.Keeping.{disconnected_after, pending_without, place_within, removed_is, scope_within}
use Rattle.palm_agenda.proofs.Alone.{heedful_without}
use Rattle.palm_agenda.proofs.agenda.Agenda.disconnect.Goals as goal

pub remove-requires : goal.remove-requires
remove-requires c =
    let within = place_within c.self.inside.connections c.self.invariant.0.formed.rising c.args.cid c.place_of-place.result
    c.place_of-place.ensures
    (subst (λ (w : Waiting). IsConnected w.connected c.args.cid) (sym c.self.view_is) c.requires) in
    let same = c.self.invariant.0.flag_each in
    omega arith

pub remove_over-requires : goal.remove_over-requires
remove_over-requires c =
    scope_within c.self.inside.connections c.self.inside.over.items c.self.inside.pending.flags _ c.args.cid c.place_of-place.result c.remove-connection.result c.self.invariant.0
    c.place_of-place.ensures
    (subst (λ (w : Waiting). IsConnected w.connected c.args.cid) (sym c.self.view_is) c.requires) c.remove-connection.ensures.removed c.scope.result.now c.scope.ensures

pub invariant_of-self : goal.invariant_of-self
invariant_of-self c = (
  disconnected_after c.self.inside.connections c.self.inside.over.items c.self.inside.pending.flags _ c.args.cid c.place_of-place.result c.remove-connection.result c.self.invariant.0
      c.place_of-place.ensures
      (subst (λ (w : Waiting). IsConnected w.connected c.args.cid) (sym c.self.view_is) c.requires) c.remove-connection.ensures.removed
      c.remove-connection.new.self c.remove_over.new.over.items c.remove.new.self.flags c.scope.result.now c.remove-connection.ensures.left c.scope.ensures c.remove_over.ensures c.remove.ensures,
  tt,
  tt,
  heedful_without c.args.cid c.self.inside.heedful.items c.self.inside.connections c.remove-connection.new.self
      (c.remove-connection.ensures.left ∙ removed_is c.self.inside.connections c.self.inside.over.items c.self.inside.pending.flags _ c.args.cid c.place_of-place.result c.remove-connection.result c.self.invariant.0
      c.place_of-place.ensures
      (subst (λ (w : Waiting). IsConnected w.connected c.args.cid) (sym c.self.view_is) c.requires) c.remove-connection.ensures.removed) c.self.invariant.3,
)

pub returns-clause-connected : goal.returns-clause-connected
returns-clause-connected c =
    rw (c.remove-connection.ensures.left, ← c.self.view_is)
    (removed_is c.self.inside.connections c.self.inside.over.items c.self.inside.pending.flags _ c.args.cid c.place_of-place.result c.remove-connection.result c.self.invariant.0
    c.place_of-place.ensures
    (subst (λ (w : Waiting). IsConnected w.connected c.args.cid) (sym c.self.view_is) c.requires) c.remove-connection.ensures.removed)

pub returns-clause-pending : goal.returns-clause-pending
returns-clause-pending c =
    rw (← c.self.view_is)
    (pending_without c.self.inside.connections c.self.inside.over.items c.self.inside.pending.flags _ c.args.cid c.place_of-place.result c.remove-connection.result c.self.invariant.0
    c.place_of-place.ensures
    (subst (λ (w : Waiting). IsConnected w.connected c.args.cid) (sym c.self.view_is) c.requires) c.remove-connection.ensures.removed
    c.remove-connection.new.self c.remove.new.self.flags c.remove-connection.ensures.left c.remove.ensures)
