use Rattle.std.proofs.Common.{◌<◌, length, sym, ◌∙◌, subst}
use Rattle.palm_model.proofs.cited.Narrowing.{lost_value}
use Rattle.palm_model.proofs.greatest.narrow_variable.Goals as goal

pub loop-index-preserved : goal.loop-index-preserved
loop-index-preserved c =
    let within : c.loop-index.index < length c.values_of-in-loop-index.result.now = subst (λ vs. c.loop-index.index < length vs) (c.values_of.ensures ∙ sym c.values_of-in-loop-index.ensures) c.loop-index-test.true in
    lost_value c.args.part.now c.args.var.now c.args.scope.now c.args.domains.now c.loop-index.domains c.remove_value.new.domains c.loop-index.index c.index-values_of-index.result c.values_of-in-loop-index.result.now c.loop-index.lost
    c.requires.scope c.requires.over c.values_of-in-loop-index.ensures within c.index-values_of-index.is c.if-is_supported.ensures c.in_ok-remove_value.ensures c.loop-index.invariant
