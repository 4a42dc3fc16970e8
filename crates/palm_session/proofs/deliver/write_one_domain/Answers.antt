use Rattle.std.proofs.Common.{◌∙◌, ap, sym, subst}
use Rattle.palm_model.specs.Domains.{AllAscend}
use Rattle.palm_model.specs.State.{present}
use Rattle.palm_session.proofs.Standing.{present_ascends}
use Rattle.palm_session.proofs.deliver.write_one_domain.Goals as goal

pub write_domain-requires-clause-ascend : goal.write_domain-requires-clause-ascend
write_domain-requires-clause-ascend g c =
    subst AllAscend (sym (c.store.ensures.present ∙ ap present c.engine.ensures.state)) (present_ascends c.args.desk.now.state c.requires.held)
