use Rattle.std.proofs.Common.{◌∙◌, ◌<◌, ◌∷◌, ◌++◌, [], pos, ◌+ℤ◌, refl, sym, ap, subst}
use Rattle.palm_domain.specs.Rows.{present_values}
use Rattle.palm_engine.specs.Advancing.{HasGathered, placed_value}
use Rattle.palm_engine.proofs.Bounds.{fewer_left, left_from}
use Rattle.palm_engine.proofs.InTurn.{gathered_first, gathered_more, turn_member}
use Rattle.palm_engine.proofs.PlacedWalks.{next_value}
use Rattle.palm_engine.proofs.runs.gather.Goals as goal

pub loop-next-init : goal.loop-next-init
loop-next-init c =
    let here = present_values c.args.store.now c.args.var in
    let v = c.args.first.value in
    record {
      gathered = gathered_first here v (placed_value c.next_placed-next.result) c.args.until.now _ (c.in_ok-push.ensures.items ∙ ap (λ vs. vs ++ v ∷ []) c.clear.ensures.items) (next_value c.next_placed-next.result here (v +ℤ pos 1) c.next_placed-next.ensures.next);
      placed = c.next_placed-next.ensures.placed;
      known = refl;
      spans = refl;
    }

pub loop-next-preserved : goal.loop-next-preserved
loop-next-preserved c =
    let here = present_values c.args.store.now c.args.var in
    let w = c.in-Some.placed.value in
    let so_far = subst (λ n. HasGathered here c.args.first.value (placed_value n) c.args.until.now c.loop-next.room) c.in-Some.is c.loop-next.invariant.gathered in
    record {
      gathered = gathered_more here c.args.first.value w (placed_value c.next_placed-next-in-Some.result) c.args.until.now c.loop-next.room _ so_far c.in_ok-push-2.ensures.items refl
          (rw c.if-not-is_before.false at c.is_before.ensures) (c.covers.ensures c.if-not-covers.false) (next_value c.next_placed-next-in-Some.result here (w +ℤ pos 1) c.next_placed-next-in-Some.ensures.next);
      placed = c.next_placed-next-in-Some.ensures.placed;
      known = c.loop-next.invariant.known;
      spans = c.loop-next.invariant.spans;
    }

pub loop-next-smaller : goal.loop-next-smaller
loop-next-smaller c =
    let here = present_values c.args.store.now c.args.var in
    let w = c.in-Some.placed.value in
    let so_far = subst (λ n. HasGathered here c.args.first.value (placed_value n) c.args.until.now c.loop-next.room) c.in-Some.is c.loop-next.invariant.gathered in
    subst (λ n. left_from (placed_value c.next_placed-next-in-Some.result) here < left_from (placed_value n) here) (sym c.in-Some.is)
    (fewer_left here w (placed_value c.next_placed-next-in-Some.result) here (turn_member here c.args.first.value so_far.rest w so_far.turn) (next_value c.next_placed-next-in-Some.result here (w +ℤ pos 1) c.next_placed-next-in-Some.ensures.next))
