use Rattle.palm_base.proofs.cited.Telling.{tells_true, tells_false}
use Rattle.palm_domain.specs.Rows.{present_of}
use Rattle.filter_linear.proofs.LinearSupport.{met_answers, unmet_answers}
use Rattle.filter_linear.proofs.linear.LinearFilterFilter.supported.Goals as goal

pub returns-clause-supported : goal.returns-clause-supported
returns-clause-supported c t =
    met_answers (present_of c.args.store.now) c.self.inside.rule c.args.pair.var c.args.pair.value c.args.self.now c.self.view_is c.requires.formed.distinct c.requires.present
    (tells_true _ c.is_met.result c.is_met.ensures t)

pub returns-clause-lacking : goal.returns-clause-lacking
returns-clause-lacking c t =
    unmet_answers (present_of c.args.store.now) c.self.inside.rule c.args.pair.var c.args.pair.value c.args.self.now c.self.view_is c.requires.over
    (tells_false _ c.is_met.result c.is_met.ensures t)
