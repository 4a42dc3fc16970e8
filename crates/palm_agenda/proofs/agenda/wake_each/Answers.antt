use Rattle.std.proofs.Common.{sym, ap, ◌∙◌, length, map, refl, take, subst, Contains}
use Rattle.std.proofs.lemmas.List.{length-map, take_all}
use Rattle.palm_base.proofs.cited.Members.{member_nil}
use Rattle.palm_agenda.specs.Agenda.{changed_among, changed_at, connected_cids}
use Rattle.palm_agenda.specs.Flags.{flagged}
use Rattle.palm_agenda.specs.Losses.{heed_of}
use Rattle.palm_agenda.specs.Open.{Covers}
use Rattle.palm_agenda.specs.Places.{mark_places}
use Rattle.palm_agenda.proofs.cited.Keeping.{changed_none, heeds_more, keeps_among, keeps_places, marked_more, none_put, over_changed, put_all_set, put_set, rises_changed}
use Rattle.palm_agenda.proofs.Opening.{covers_more}
use Rattle.palm_agenda.proofs.Runs.{run_kept}
use Rattle.palm_agenda.proofs.agenda.wake_each.Goals as goal

pub loop-cid-init : goal.loop-cid-init
loop-cid-init c = record {
  marks = changed_none (mark_places c.args.places.now c.args.var.now) c.args.connections.now;
  pending = none_put (flagged (connected_cids c.args.connections.now) c.args.pending.now.flags);
  covers = λ d listed among. absurd (member_nil d.cid among);
  hearing = c.new-heard.ensures;
  flags = refl;
}

pub wake_named-requires-clause-rising : goal.wake_named-requires-clause-rising
wake_named-requires-clause-rising c =
    rises_changed (changed_among (take c.loop-cid.cid-index c.args.cids.now) (mark_places c.args.places.now c.args.var.now))
    (keeps_among (take c.loop-cid.cid-index c.args.cids.now) (mark_places c.args.places.now c.args.var.now) (keeps_places c.args.places.now c.args.var.now))
    c.args.connections.now c.loop-cid.connections c.loop-cid.invariant.marks c.requires.rising

pub wake_named-requires-clause-flags : goal.wake_named-requires-clause-flags
wake_named-requires-clause-flags c =
    c.loop-cid.invariant.flags ∙ c.requires.flags
    ∙ sym (length-map c.args.connections.now (changed_among (take c.loop-cid.cid-index c.args.cids.now) (mark_places c.args.places.now c.args.var.now)))
    ∙ ap length (sym c.loop-cid.invariant.marks)

pub wake_named-requires-clause-run : goal.wake_named-requires-clause-run
wake_named-requires-clause-run c =
    run_kept (changed_among (take c.loop-cid.cid-index c.args.cids.now) (mark_places c.args.places.now c.args.var.now))
    (keeps_among (take c.loop-cid.cid-index c.args.cids.now) (mark_places c.args.places.now c.args.var.now) (keeps_places c.args.places.now c.args.var.now))
    c.args.connections.now c.loop-cid.connections c.loop-cid.invariant.marks c.run-run.result c.run-run.ensures

pub wake_named-requires-clause-over : goal.wake_named-requires-clause-over
wake_named-requires-clause-over c =
    over_changed (changed_among (take c.loop-cid.cid-index c.args.cids.now) (mark_places c.args.places.now c.args.var.now))
    (keeps_among (take c.loop-cid.cid-index c.args.cids.now) (mark_places c.args.places.now c.args.var.now) (keeps_places c.args.places.now c.args.var.now))
    c.args.connections.now c.loop-cid.connections c.args.var.now c.cid-item.result c.loop-cid.invariant.marks
    (c.requires.over c.cid-item.result (c.loop-cid.cid-index, c.loop-cid-test.true, sym c.cid-item.is))

pub loop-cid-preserved : goal.loop-cid-preserved
loop-cid-preserved c = record {
  marks =
      c.wake_named.ensures.marks ∙ ap (map (changed_at c.cid-item.result (mark_places c.args.places.now c.args.var.now))) c.loop-cid.invariant.marks
      ∙ marked_more c.args.places.now c.args.var.now c.args.cids.now c.loop-cid.cid-index c.cid-item.result c.args.connections.now c.loop-cid-test.true c.cid-item.is;
  pending =
      put_set (flagged (connected_cids c.args.connections.now) c.args.pending.now.flags) (flagged (connected_cids c.loop-cid.connections) c.loop-cid.pending.flags)
      (flagged (connected_cids c.wake_named.new.connections) c.wake_named.new.pending.flags) c.args.cids.now c.loop-cid.cid-index c.cid-item.result c.loop-cid-test.true c.cid-item.is
      c.loop-cid.invariant.pending c.wake_named.ensures.pending;
  covers = heeds_more (changed_among (take c.loop-cid.cid-index c.args.cids.now) (mark_places c.args.places.now c.args.var.now))
      (keeps_among (take c.loop-cid.cid-index c.args.cids.now) (mark_places c.args.places.now c.args.var.now) (keeps_places c.args.places.now c.args.var.now))
      c.args.var.now c.args.connections.now c.loop-cid.connections c.loop-cid.invariant.marks c.args.cids.now c.loop-cid.cid-index c.cid-item.result c.loop-cid-test.true c.cid-item.is
      (Covers c.wake_named.new.heard.still c.args.places.now)
      (λ d listed among. covers_more c.loop-cid.heard.still c.wake_named.new.heard.still c.wake_named.ensures.more c.args.places.now (heed_of c.args.var.now d.scope d.heeds) (c.loop-cid.invariant.covers d listed among))
      c.wake_named.ensures.covers;
  hearing = c.wake_named.ensures.hearing;
  flags = c.wake_named.ensures.flags ∙ c.loop-cid.invariant.flags;
}

pub returns-clause-pending : goal.returns-clause-pending
returns-clause-pending c =
    put_all_set (flagged (connected_cids c.args.connections.now) c.args.pending.now.flags) (flagged (connected_cids c.loop-cid.connections) c.loop-cid.pending.flags)
    c.args.cids.now c.loop-cid.cid-index c.loop-cid-test.false c.loop-cid.invariant.pending

pub returns-clause-covers : goal.returns-clause-covers
returns-clause-covers c d listed among =
    c.loop-cid.invariant.covers d listed (subst (λ cids. Contains cids d.cid) (sym (take_all c.loop-cid.cid-index c.args.cids.now c.loop-cid-test.false)) among)
