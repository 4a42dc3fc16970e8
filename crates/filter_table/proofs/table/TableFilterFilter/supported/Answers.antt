use Rattle.palm_domain.specs.Rows.{present_of}
use Rattle.filter_table.proofs.Supporting.{answers_supported, answers_lacking}
use Rattle.filter_table.proofs.table.TableFilterFilter.supported.Goals as goal

pub returns-clause-supported : goal.returns-clause-supported
returns-clause-supported c t =
    answers_supported c.self.inside.table c.self.invariant.0 c.args.self.now c.self.view_is c.args.pair.var c.args.pair.value (present_of c.args.store.now) c.is_given.result c.is_given.ensures t

pub returns-clause-lacking : goal.returns-clause-lacking
returns-clause-lacking c t =
    answers_lacking c.self.inside.table c.self.invariant.0 c.args.self.now c.self.view_is c.args.pair.var c.args.pair.value (present_of c.args.store.now) c.is_given.result c.is_given.ensures c.requires.over t
