use Rattle.std.proofs.Common.{◌≡◌, ◌↔◌, ◌⊎◌, map, Contains}
use Rattle.palm_base.specs.declared.terms.Cid.{Cid}
use Rattle.palm_agenda.specs.Agenda.{IsOver, connected_cids, mark_others}
use Rattle.palm_agenda.specs.Flags.{flagged}
use Rattle.palm_agenda.proofs.Woken.{woken_already}
use Rattle.palm_agenda.proofs.agenda.Agenda.wake.Goals as goal

already : (c : goal.Then-is_noted) → (c.self.inside.connections ≡ map (mark_others c.args.var c.args.loss) c.self.inside.connections)
    × ((d : Cid) → Contains (flagged (connected_cids c.self.inside.connections) c.self.inside.pending.flags) d
    ↔ (Contains (flagged (connected_cids c.self.inside.connections) c.self.inside.pending.flags) d ⊎ IsOver c.self.inside.connections c.args.var d))
already c =
    woken_already c.self.inside.woken c.args.var c.args.loss c.self.inside.connections (flagged (connected_cids c.self.inside.connections) c.self.inside.pending.flags) c.self.invariant.2
    (c.is_noted.ensures c.if-is_noted.true)

pub returns-then-is_noted-clause-connected : goal.returns-then-is_noted-clause-connected
returns-then-is_noted-clause-connected c = rw (← c.self.view_is) ((already c).0)

pub returns-then-is_noted-clause-pending : goal.returns-then-is_noted-clause-pending
returns-then-is_noted-clause-pending c = rw (← c.self.view_is) ((already c).1)

pub returns-then-is_noted-clause-formed : goal.returns-then-is_noted-clause-formed
returns-then-is_noted-clause-formed c = rw (← c.self.view_is) c.self.invariant.0.formed
