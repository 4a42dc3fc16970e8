use Rattle.std.proofs.Common.{refl}
use Rattle.palm_engine.proofs.Restoring.{woken_none, woken_more, woken_all, waits_none, waits_more, waits_all}
use Rattle.palm_engine.proofs.filtering.wake_restored.Goals as goal

pub loop-entry-init : goal.loop-entry-init
loop-entry-init c = record {
  formed = c.requires;
  connected = woken_none c.args.agenda.now.connected _ refl;
  pending = waits_none c.args.agenda.now.connected _ c.args.agenda.now.pending refl;
}

pub loop-entry-preserved : goal.loop-entry-preserved
loop-entry-preserved c =
    let entries = c.args.entries.now in
    let i = c.loop-entry.entry-index in
    let before = c.args.agenda.now in
    let middle = c.loop-entry.agenda in
    let after = c.wake_restored.new.self in
    record {
      formed = c.wake_restored.ensures.formed;
      connected = woken_more entries i c.entry-item.result before.connected middle.connected after.connected c.loop-entry-test.true c.entry-item.is c.loop-entry.invariant.connected c.wake_restored.ensures.connected;
      pending = waits_more entries i c.entry-item.result before.connected middle.connected before.pending middle.pending after.pending c.loop-entry-test.true c.entry-item.is c.loop-entry.invariant.connected c.loop-entry.invariant.pending c.wake_restored.ensures.pending;
    }

pub returns-clause-connected : goal.returns-clause-connected
returns-clause-connected c = woken_all c.args.entries.now c.loop-entry.entry-index c.args.agenda.now.connected c.loop-entry.agenda.connected c.loop-entry-test.false c.loop-entry.invariant.connected

pub returns-clause-pending : goal.returns-clause-pending
returns-clause-pending c = waits_all c.args.entries.now c.loop-entry.entry-index c.args.agenda.now.connected c.args.agenda.now.pending c.loop-entry.agenda.pending c.loop-entry-test.false c.loop-entry.invariant.pending
