use Rattle.std.proofs.Common.{◌∙◌, ap, reverse}
use Rattle.palm_agenda.specs.Agenda.{connected_cids}
use Rattle.palm_agenda.specs.Flags.{flagged}
use Rattle.palm_agenda.specs.Cids.{cids_at}
use Rattle.palm_agenda.specs.declared.connection.Places.TheVariants.{Own}
use Rattle.palm_agenda.proofs.cited.Keeping.{cids_are_over, keeps_places, woken_after, woken_connected, woken_pending}
use Rattle.palm_agenda.specs.Places.{mark_places}
use Rattle.palm_agenda.proofs.Alone.{heedful_kept}
use Rattle.palm_agenda.proofs.agenda.Agenda.wake_restored.Goals as goal

pub wake_each-requires-clause-over : goal.wake_each-requires-clause-over
wake_each-requires-clause-over c k m =
    (cids_are_over c.args.var c.cids_over-cids.result.now c.self.inside.connections c.self.inside.over.items c.self.inside.pending.flags _ c.self.invariant.0
    (c.cids_over-cids.ensures ∙ ap (λ rows. reverse (cids_at rows c.args.var)) c.deref.ensures.value) k).0 m

pub invariant_of-self : goal.invariant_of-self
invariant_of-self c = (
  woken_after (Own c.args.low c.args.high) c.args.var c.cids_over-cids.result.now c.self.inside.connections c.self.inside.over.items c.self.inside.pending.flags c.wake_each.new.pending.flags _ c.self.invariant.0
      c.wake_each.ensures.flags c.wake_each.new.connections c.wake_each.ensures.marks,
  tt,
  tt,
  heedful_kept (mark_places (Own c.args.low c.args.high) c.args.var) (keeps_places (Own c.args.low c.args.high) c.args.var) c.self.inside.heedful.items c.self.inside.connections c.wake_each.new.connections
      (woken_connected (Own c.args.low c.args.high) c.args.var c.cids_over-cids.result.now c.self.inside.connections c.self.inside.over.items c.self.inside.pending.flags _ c.self.invariant.0
      (c.cids_over-cids.ensures ∙ ap (λ rows. reverse (cids_at rows c.args.var)) c.deref.ensures.value) c.wake_each.new.connections c.wake_each.ensures.marks) c.self.invariant.3,
)

pub returns-clause-connected : goal.returns-clause-connected
returns-clause-connected c =
    rw (← c.self.view_is)
    (woken_connected (Own c.args.low c.args.high) c.args.var c.cids_over-cids.result.now c.self.inside.connections c.self.inside.over.items c.self.inside.pending.flags _ c.self.invariant.0
    (c.cids_over-cids.ensures ∙ ap (λ rows. reverse (cids_at rows c.args.var)) c.deref.ensures.value) c.wake_each.new.connections c.wake_each.ensures.marks)

pub returns-clause-pending : goal.returns-clause-pending
returns-clause-pending c =
    rw (← c.self.view_is)
    (woken_pending c.args.var c.cids_over-cids.result.now c.self.inside.connections c.self.inside.over.items c.self.inside.pending.flags _ c.self.invariant.0
    (c.cids_over-cids.ensures ∙ ap (λ rows. reverse (cids_at rows c.args.var)) c.deref.ensures.value)
    (flagged (connected_cids c.self.inside.connections) c.self.inside.pending.flags) (flagged (connected_cids c.wake_each.new.connections) c.wake_each.new.pending.flags) c.wake_each.ensures.pending)

pub returns-clause-formed : goal.returns-clause-formed
returns-clause-formed c = (invariant_of-self c).0.formed
