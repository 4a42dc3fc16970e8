use Rattle.std.proofs.Common.{◌∙◌, ◌<◌, ◌-◌, arith, length, sym}
use Rattle.std.proofs.lemmas.List.{length-map}
use Rattle.palm_agenda.specs.Agenda.{connected_cids}
use Rattle.palm_agenda.proofs.cited.Connecting.{cid_of}
use Rattle.palm_agenda.proofs.cited.Keeping.{shown_already}
use Rattle.palm_agenda.proofs.Flagged.{few_raised, none_ahead, none_shown, one_ahead, one_more_shown}
use Rattle.palm_agenda.proofs.agenda.show.Goals as goal

pub returns-then-is_shown-clause-cids : goal.returns-then-is_shown-clause-cids
returns-then-is_shown-clause-cids c = shown_already c.args.is_shown c.args.shown.now.items _ c.requires.already c.if-is_shown.true

pub loop-place-init : goal.loop-place-init
loop-place-init c = record {
  cids = c.clear.ensures.items ∙ none_shown (connected_cids c.args.connections.now) c.args.flags.now c.args.lowest c.requires.below;
  room = omega arith;
}

pub cid_at-requires : goal.cid_at-requires
cid_at-requires c =
    let fewer : length c.loop-place.shown.items < c.args.raised = omega (arith, c.loop-place-test.true, c.len.ensures) in
    let within = one_ahead (connected_cids c.args.connections.now) c.loop-place.shown.items c.args.flags.now c.loop-place.place c.args.raised (c.requires.flags ∙ sym (length-map c.args.connections.now cid_of))
    c.loop-place.invariant.cids c.requires.many c.raised_from-place.result fewer c.raised_from-place.ensures.between in
    omega (arith, within, c.requires.flags)

pub show_one-requires : goal.show_one-requires
show_one-requires c =
    omega (arith, c.loop-place-test.true, c.len.ensures, c.requires.many, few_raised c.args.flags.now, c.requires.flags, c.requires.room, c.clear.ensures.capacity, c.loop-place.invariant.room)

pub overflow_add-place : goal.overflow_add-place
overflow_add-place c =
    let fewer : length c.loop-place.shown.items < c.args.raised = omega (arith, c.loop-place-test.true, c.len.ensures) in
    let within = one_ahead (connected_cids c.args.connections.now) c.loop-place.shown.items c.args.flags.now c.loop-place.place c.args.raised (c.requires.flags ∙ sym (length-map c.args.connections.now cid_of))
    c.loop-place.invariant.cids c.requires.many c.raised_from-place.result fewer c.raised_from-place.ensures.between in
    let bound = c.type_inv.flags in
    omega arith

pub loop-place-preserved : goal.loop-place-preserved
loop-place-preserved c =
    let fewer : length c.loop-place.shown.items < c.args.raised = omega (arith, c.loop-place-test.true, c.len.ensures) in
    let same = c.requires.flags ∙ sym (length-map c.args.connections.now cid_of) in
    let within = one_ahead (connected_cids c.args.connections.now) c.loop-place.shown.items c.args.flags.now c.loop-place.place c.args.raised same
    c.loop-place.invariant.cids c.requires.many c.raised_from-place.result fewer c.raised_from-place.ensures.between in
    record {
      cids =
          c.show_one.ensures.cids
          ∙ one_more_shown (connected_cids c.args.connections.now) c.loop-place.shown.items c.args.flags.now c.loop-place.place c.args.raised same c.loop-place.invariant.cids c.requires.many
          c.raised_from-place.result (c.raised_from-place.result - c.loop-place.place) c.cid_at.result (omega (arith, c.raised_from-place.ensures.from)) within c.raised_from-place.ensures.between
          (c.raised_from-place.ensures.raised within) c.cid_at.ensures;
      room = omega (arith, c.loop-place.invariant.room, c.show_one.ensures.room);
    }

pub returns-clause-cids : goal.returns-clause-cids
returns-clause-cids c =
    none_ahead (connected_cids c.args.connections.now) c.loop-place.shown.items c.args.flags.now c.loop-place.place c.args.raised (c.requires.flags ∙ sym (length-map c.args.connections.now cid_of))
    c.loop-place.invariant.cids c.requires.many (omega (arith, c.loop-place-test.false, c.len.ensures))
