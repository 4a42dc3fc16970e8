use Rattle.palm_base.proofs.cited.Telling.{tells_both, tells_true, tells_false}
use Rattle.palm_model.specs.Support.{HasSupport}
use Rattle.palm_model.proofs.Tries.{support_tried, no_support_tried}
use Rattle.palm_model.proofs.support.is_supported.Goals as goal

pub returns : goal.returns
returns c =
    tells_both (HasSupport c.args.domains.now c.args.part.now c.args.var.now c.args.value.now) c.is_completed.result
    (λ h. support_tried c.args.domains.now c.args.part.now c.args.var.now c.args.value.now c.args.scope.now c.args.values.now c.assign.new.values
    c.requires.scope c.requires.domains c.requires.present c.assign.ensures.set (tells_true _ c.is_completed.result c.is_completed.ensures.completed h))
    (λ h. no_support_tried c.args.domains.now c.args.part.now c.args.var.now c.args.value.now c.args.scope.now c.args.values.now c.assign.new.values
    c.requires.scope c.requires.domains c.requires.present c.assign.ensures.set (tells_false _ c.is_completed.result c.is_completed.ensures.completed h))
