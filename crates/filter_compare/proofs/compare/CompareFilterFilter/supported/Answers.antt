use Rattle.std.proofs.Common.{length, ap, sym, ◌∙◌}
use Rattle.palm_base.proofs.cited.Telling.{tells_true, tells_false}
use Rattle.palm_domain.specs.Rows.{present_of}
use Rattle.filter_compare.specs.Comparison.{comparison_of}
use Rattle.filter_compare.proofs.Comparisons.{asks_declared, answers_supported, answers_lacking, const_answers_supported, const_answers_lacking}
use Rattle.filter_compare.proofs.compare.CompareFilterFilter.supported.Goals as goal

pub is_met-requires : goal.is_met-requires
is_met-requires c =
    asks_declared c.in-Variables.comparison c.args.pair.var c.args.pair.value (length c.args.store.now) c.args.self.now c.demand.result
    (ap comparison_of (sym c.in-Variables.is) ∙ c.self.view_is) c.requires.formed c.demand.ensures

pub returns-in-Variables-clause-supported : goal.returns-in-Variables-clause-supported
returns-in-Variables-clause-supported c t =
    answers_supported c.in-Variables.comparison c.args.pair.var c.args.pair.value (length c.args.store.now) c.args.self.now c.demand.result
    (ap comparison_of (sym c.in-Variables.is) ∙ c.self.view_is) c.requires.formed c.demand.ensures
    (present_of c.args.store.now) c.requires.over c.requires.present (tells_true _ c.is_met.result c.is_met.ensures t)

pub returns-in-Variables-clause-lacking : goal.returns-in-Variables-clause-lacking
returns-in-Variables-clause-lacking c t =
    answers_lacking c.in-Variables.comparison c.args.pair.var c.args.pair.value (length c.args.store.now) c.args.self.now c.demand.result
    (ap comparison_of (sym c.in-Variables.is) ∙ c.self.view_is) c.requires.formed c.demand.ensures
    (present_of c.args.store.now) c.requires.over (tells_false _ c.is_met.result c.is_met.ensures t)

pub returns-in-Constant-clause-supported : goal.returns-in-Constant-clause-supported
returns-in-Constant-clause-supported c t =
    const_answers_supported c.in-Constant.demand c.args.pair.var c.args.pair.value c.args.self.now (ap comparison_of (sym c.in-Constant.is) ∙ c.self.view_is)
    (present_of c.args.store.now) c.requires.over c.requires.present (tells_true _ c.is_met_by.result c.is_met_by.ensures.stands t)

pub returns-in-Constant-clause-lacking : goal.returns-in-Constant-clause-lacking
returns-in-Constant-clause-lacking c t =
    const_answers_lacking c.in-Constant.demand c.args.pair.var c.args.pair.value c.args.self.now (ap comparison_of (sym c.in-Constant.is) ∙ c.self.view_is)
    (present_of c.args.store.now) c.requires.over (tells_false _ c.is_met_by.result c.is_met_by.ensures.stands t)
