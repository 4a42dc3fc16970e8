use Rattle.std.proofs.Common.{◌≡◌, ◌||◌}
use Rattle.palm_model.proofs.cited.Narrowing.{narrowed_part, or_then, or_else}
use Rattle.palm_model.proofs.greatest.sweep.Goals as goal
use Rattle.palm_model.proofs.greatest.sweep.Goals.{then-lost, else-lost}

pub loop-part-preserved : goal.loop-part-preserved
loop-part-preserved c =
    let now = c.in_ok-now.now in
    let e : c.if-lost.lost ≡ (c.loop-part.lost || now) = elim c.if-lost.branch [
      | then-lost w ↦ or_then c.if-lost.lost c.loop-part.lost now w.if-lost.true w.lost-is
      | else-lost w ↦ or_else c.if-lost.lost c.loop-part.lost now w.if-lost.false w.lost-is
    ] in
    narrowed_part c.args.parts.now c.loop-part.part-index c.part-item.result c.args.domains.now c.loop-part.domains c.narrow.new.domains
    c.if-lost.lost c.loop-part.lost now c.loop-part-test.true c.part-item.is e c.loop-part.invariant c.in_ok-now.ensures
