use Rattle.std.proofs.Common.{◌∙◌, arith, length-set, ap, length, sym, true}
use Rattle.palm_agenda.specs.Agenda.{IsConnected, connected_cids}
use Rattle.palm_agenda.specs.Flags.{flagged}
use Rattle.palm_agenda.proofs.cited.Keeping.{place_within, put_all_set, put_set, raised_at}
use Rattle.palm_agenda.proofs.agenda.raise_each.Goals as goal
use Rattle.palm_agenda.proofs.agenda.raise_each.Goals.{After-cid-item}

there : (c : After-cid-item) → IsConnected c.args.connections.now c.cid-item.result
there c = c.requires.there c.cid-item.result (c.loop-cid.cid-index, c.loop-cid-test.true, sym c.cid-item.is)

pub place_near-place-requires : goal.place_near-place-requires
place_near-place-requires c = record { rising = c.requires.rising; run = c.run-run.ensures; there = there (goal.at.place_near-place-requires c).After-cid-item }

pub raise-requires : goal.raise-requires
raise-requires c =
    let within = place_within c.args.connections.now c.requires.rising c.cid-item.result c.place_near-place.result c.place_near-place.ensures (there (goal.at.raise-requires c).After-cid-item) in
    omega (arith, within, c.requires.flags, c.loop-cid.invariant.flags)

pub loop-cid-preserved : goal.loop-cid-preserved
loop-cid-preserved c = record {
  pending =
      put_set (flagged (connected_cids c.args.connections.now) c.args.pending.now.flags) (flagged (connected_cids c.args.connections.now) c.loop-cid.pending.flags)
      (flagged (connected_cids c.args.connections.now) c.raise.new.self.flags) c.args.cids.now c.loop-cid.cid-index c.cid-item.result c.loop-cid-test.true c.cid-item.is
      c.loop-cid.invariant.pending
      (raised_at c.args.connections.now c.requires.rising c.cid-item.result c.place_near-place.result c.place_near-place.ensures
      c.loop-cid.pending.flags c.raise.new.self.flags (c.loop-cid.invariant.flags ∙ c.requires.flags) (there (goal.at.loop-cid-preserved c).After-cid-item) c.raise.ensures);
  flags = ap length c.raise.ensures ∙ length-set c.loop-cid.pending.flags c.place_near-place.result true ∙ c.loop-cid.invariant.flags;
}

pub returns : goal.returns
returns c = record {
  pending = put_all_set (flagged (connected_cids c.args.connections.now) c.args.pending.now.flags) (flagged (connected_cids c.args.connections.now) c.loop-cid.pending.flags)
      c.args.cids.now c.loop-cid.cid-index c.loop-cid-test.false c.loop-cid.invariant.pending;
  flags = c.loop-cid.invariant.flags;
}
