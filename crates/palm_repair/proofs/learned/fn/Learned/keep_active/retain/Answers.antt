use Rattle.std.proofs.Common.{ap, ◌∙◌}
use Rattle.palm_base.specs.declared.terms.Cid.TheVariants.{Not}
use Rattle.palm_model.specs.Log.{cids_of, is_named}
use Rattle.palm_repair.specs.Posting.{Origin}
use Rattle.palm_repair.proofs.Taking.{named_tells}
use Rattle.palm_repair.proofs.learned.fn.Learned.keep_active.retain.Goals as goal

pub returns : goal.returns
returns c = λ c'.
    let active = c'.captures.engine.now.state.active in
    named_tells active (Not c'.origin.inside.pair) c'.is_active.result c'.is_active.ensures ∙ ap (λ (o : Origin). is_named (cids_of active) (Not o.pair)) c'.origin.view_is
