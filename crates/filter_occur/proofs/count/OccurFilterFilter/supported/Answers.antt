use Rattle.std.proofs.Common.{length}
use Rattle.palm_base.proofs.cited.Telling.{tells_true, tells_false}
use Rattle.palm_domain.specs.Rows.{present_of}
use Rattle.filter_occur.proofs.CountSupport.{vars_declared, target_declared, answers_supported, answers_lacking}
use Rattle.filter_occur.proofs.count.OccurFilterFilter.supported.Goals as goal

pub is_reachable-requires-clause-declared : goal.is_reachable-requires-clause-declared
is_reachable-requires-clause-declared c = vars_declared c.self.inside.rule c.args.self.now (length c.args.store.now) c.self.view_is c.requires.formed

pub is_reachable-requires-clause-target : goal.is_reachable-requires-clause-target
is_reachable-requires-clause-target c = target_declared c.self.inside.rule c.args.self.now (length c.args.store.now) c.self.view_is c.requires.formed

pub returns-clause-supported : goal.returns-clause-supported
returns-clause-supported c t =
    answers_supported c.self.inside.rule c.args.self.now (length c.args.store.now) c.self.view_is c.requires.formed
    (present_of c.args.store.now) c.args.pair.var c.args.pair.value c.variables.ensures.present_ascend c.requires.over c.requires.present (tells_true _ c.is_reachable.result c.is_reachable.ensures t)

pub returns-clause-lacking : goal.returns-clause-lacking
returns-clause-lacking c t =
    answers_lacking c.self.inside.rule c.args.self.now (length c.args.store.now) c.self.view_is c.requires.formed
    (present_of c.args.store.now) c.args.pair.var c.args.pair.value c.requires.over (tells_false _ c.is_reachable.result c.is_reachable.ensures t)
