use Rattle.std.proofs.Common.{◌≡◌, ◌∙◌, ◌⊎◌, ◌↔◌, Contains, ap, arith, false, get_or, map, reverse, sym, vec_capacity}
use Rattle.palm_base.specs.declared.terms.Cid.{Cid}
use Rattle.palm_agenda.specs.Agenda.{IsOver, connected_cids, mark_others}
use Rattle.palm_agenda.specs.Flags.{flagged}
use Rattle.palm_agenda.specs.Cids.{cids_at}
use Rattle.palm_agenda.specs.declared.connection.Places.TheVariants.{Others}
use Rattle.palm_agenda.proofs.Alone.{heedful_kept, several_marks, several_noted}
use Rattle.palm_agenda.proofs.cited.Connecting.{over_connected}
use Rattle.palm_agenda.proofs.cited.Keeping.{cids_are_over, keeps_places, pending_after, woken_after, woken_connected, woken_pending}
use Rattle.palm_agenda.proofs.Woken.{woken_noted}
use Rattle.palm_agenda.proofs.agenda.Agenda.wake_others.Goals as goal
use Rattle.palm_agenda.proofs.agenda.Agenda.wake_others.Goals.{After-cids_over-cids, After-raise_each, After-wake_each-still}

-- the ids that are walked over
over : (c : After-cids_over-cids) → (k : Cid) → Contains c.cids_over-cids.result.now k ↔ IsOver c.self.inside.connections c.args.var k
over c =
    cids_are_over c.args.var c.cids_over-cids.result.now c.self.inside.connections c.self.inside.over.items c.self.inside.pending.flags _ c.self.invariant.0
    (c.cids_over-cids.ensures ∙ ap (λ rows. reverse (cids_at rows c.args.var)) c.deref.ensures.value)

pub wake_each-still-requires-clause-over : goal.wake_each-still-requires-clause-over
wake_each-still-requires-clause-over c k m = (over (goal.at.wake_each-still-requires-clause-over c).After-cids_over-cids k).0 m

-- ---- where no constraint over the variable heeds the loss

pub raise_each-requires-clause-there : goal.raise_each-requires-clause-there
raise_each-requires-clause-there c k m =
    over_connected c.self.inside.connections c.args.var k ((over (goal.at.raise_each-requires-clause-there c).After-cids_over-cids k).0 m)

rests : (c : After-raise_each) → get_or c.self.inside.heedful.items c.args.var false ≡ false
rests c = ap (λ flags. get_or flags c.args.var false) (sym c.deref-then-loss.ensures.value) ∙ sym c.is_heedful.ensures ∙ c.if-not-is_heedful.true

raised : (c : After-raise_each) (k : Cid) → Contains (flagged (connected_cids c.self.inside.connections) c.raise_each.new.pending.flags) k
    ↔ (Contains (flagged (connected_cids c.self.inside.connections) c.self.inside.pending.flags) k ⊎ IsOver c.self.inside.connections c.args.var k)
raised c =
    woken_pending c.args.var c.cids_over-cids.result.now c.self.inside.connections c.self.inside.over.items c.self.inside.pending.flags _ c.self.invariant.0
    (c.cids_over-cids.ensures ∙ ap (λ rows. reverse (cids_at rows c.args.var)) c.deref.ensures.value)
    (flagged (connected_cids c.self.inside.connections) c.self.inside.pending.flags) (flagged (connected_cids c.self.inside.connections) c.raise_each.new.pending.flags) c.raise_each.ensures.pending

pub invariant_of-self : goal.invariant_of-self
invariant_of-self c =
    let at = (goal.at.invariant_of-self c).After-raise_each in (
      pending_after c.self.inside.connections c.self.inside.over.items c.self.inside.pending.flags c.raise_each.new.pending.flags _ _ c.self.invariant.0 c.raise_each.ensures.flags (omega arith),
      tt,
      several_noted c.self.inside.heedful.items c.self.inside.connections c.self.invariant.3 c.args.var (rests at) c.of_alone-still.result
          (flagged (connected_cids c.self.inside.connections) c.self.inside.pending.flags) (flagged (connected_cids c.self.inside.connections) c.raise_each.new.pending.flags) c.of_alone-still.ensures (raised at),
      c.self.invariant.3,
    )

pub returns-then-not-is_heedful : goal.returns-then-not-is_heedful
returns-then-not-is_heedful c =
    let at = (goal.at.returns-then-not-is_heedful c).After-raise_each in
    record {
      connected = rw (← c.self.view_is) (sym (several_marks c.self.inside.heedful.items c.self.inside.connections c.self.invariant.3 c.args.var (rests at) c.args.loss c.if-loss.true));
      pending = rw (← c.self.view_is) (raised at);
      formed = (pending_after c.self.inside.connections c.self.inside.over.items c.self.inside.pending.flags c.raise_each.new.pending.flags _ (vec_capacity c.self.inside.shown) c.self.invariant.0 c.raise_each.ensures.flags (omega arith)).formed;
    }

-- ---- and where one may

marked : (c : After-wake_each-still) → c.wake_each-still.new.connections ≡ map (mark_others c.args.var c.args.loss) c.self.inside.connections
marked c =
    woken_connected (Others c.args.loss) c.args.var c.cids_over-cids.result.now c.self.inside.connections c.self.inside.over.items c.self.inside.pending.flags _ c.self.invariant.0
    (c.cids_over-cids.ensures ∙ ap (λ rows. reverse (cids_at rows c.args.var)) c.deref.ensures.value) c.wake_each-still.new.connections c.wake_each-still.ensures.marks

woken : (c : After-wake_each-still) (k : Cid) → Contains (flagged (connected_cids c.wake_each-still.new.connections) c.wake_each-still.new.pending.flags) k
    ↔ (Contains (flagged (connected_cids c.self.inside.connections) c.self.inside.pending.flags) k ⊎ IsOver c.self.inside.connections c.args.var k)
woken c =
    woken_pending c.args.var c.cids_over-cids.result.now c.self.inside.connections c.self.inside.over.items c.self.inside.pending.flags _ c.self.invariant.0
    (c.cids_over-cids.ensures ∙ ap (λ rows. reverse (cids_at rows c.args.var)) c.deref.ensures.value)
    (flagged (connected_cids c.self.inside.connections) c.self.inside.pending.flags) (flagged (connected_cids c.wake_each-still.new.connections) c.wake_each-still.new.pending.flags) c.wake_each-still.ensures.pending

pub invariant_of-self-2 : goal.invariant_of-self-2
invariant_of-self-2 c =
    let at = (goal.at.invariant_of-self-2 c).After-wake_each-still in (
      woken_after (Others c.args.loss) c.args.var c.cids_over-cids.result.now c.self.inside.connections c.self.inside.over.items c.self.inside.pending.flags c.wake_each-still.new.pending.flags _ c.self.invariant.0
          c.wake_each-still.ensures.flags c.wake_each-still.new.connections c.wake_each-still.ensures.marks,
      tt,
      woken_noted c.wake_each-still.result c.args.var c.args.loss c.cids_over-cids.result.now c.self.inside.connections c.wake_each-still.new.connections
          (flagged (connected_cids c.self.inside.connections) c.self.inside.pending.flags) (flagged (connected_cids c.wake_each-still.new.connections) c.wake_each-still.new.pending.flags)
          (marked at) (woken at) (over (goal.at.invariant_of-self-2 c).After-cids_over-cids) c.wake_each-still.ensures.covers,
      heedful_kept (mark_others c.args.var c.args.loss) (keeps_places (Others c.args.loss) c.args.var) c.self.inside.heedful.items c.self.inside.connections c.wake_each-still.new.connections (marked at) c.self.invariant.3,
    )

pub returns : goal.returns
returns c =
    let at = (goal.at.returns c).After-wake_each-still in
    record {
      connected = rw (← c.self.view_is) (marked at);
      pending = rw (← c.self.view_is) (woken at);
      formed = (invariant_of-self-2 c).0.formed;
    }
