use Rattle.std.proofs.Common.{◌≡◌, ◌||◌, take, ◌∙◌}
use Rattle.palm_model.specs.Closure.{IsClosedFor}
use Rattle.palm_model.specs.Trial.{EachSupported}
use Rattle.palm_model.proofs.cited.Narrowing.{narrowed_for, narrowed_variable, scope_supported, or_then, or_else}
use Rattle.palm_model.proofs.greatest.narrow.Goals as goal
use Rattle.palm_model.proofs.greatest.narrow.Goals.{then-lost, else-lost}

pub loop-var-preserved : goal.loop-var-preserved
loop-var-preserved c =
    let now = c.in_ok-now.now in
    let e : c.if-lost.lost ≡ (c.loop-var.lost || now) = elim c.if-lost.branch [
      | then-lost w ↦ or_then c.if-lost.lost c.loop-var.lost now w.if-lost.true w.lost-is
      | else-lost w ↦ or_else c.if-lost.lost c.loop-var.lost now w.if-lost.false w.lost-is
    ] in
    narrowed_variable c.args.part.now c.as_slice-var-items.result.now c.loop-var.var-index c.var-item.result c.args.domains.now c.loop-var.domains c.narrow_variable.new.domains
    c.if-lost.lost c.loop-var.lost now c.loop-var-test.true c.var-item.is e c.loop-var.invariant c.in_ok-now.ensures

pub returns : goal.returns
returns c =
    let p = c.args.part.now in
    let xs = c.as_slice-var-items.result.now in
    let i = c.loop-var.var-index in
    narrowed_for (IsClosedFor p) (IsClosedFor p) (EachSupported p (take i xs)) (IsClosedFor p) c.args.domains.now c.loop-var.domains c.loop-var.lost
    (λ f h. h) (scope_supported p xs i (c.as_slice-var-items.ensures ∙ c.in_ok-scope.ensures) c.loop-var-test.false) c.loop-var.invariant
