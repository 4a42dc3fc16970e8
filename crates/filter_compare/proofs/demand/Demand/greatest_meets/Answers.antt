use Rattle.palm_base.proofs.cited.Telling.{tells_both, tells_true, tells_false}
use Rattle.palm_model.specs.Domains.{values_of}
use Rattle.palm_domain.specs.Rows.{present_of}
use Rattle.filter_compare.specs.Comparison.{IsMet}
use Rattle.filter_compare.proofs.Comparisons.{met_by, unmet_above}
use Rattle.filter_compare.proofs.demand.Demand.greatest_meets.Goals as goal

pub returns-then-count-gt0 : goal.returns-then-count-gt0
returns-then-count-gt0 c =
    let vs = values_of (present_of c.args.store.now) c.args.self.now.var in
    let d = c.args.self.now in
    tells_both (IsMet vs d) c.is_met_by.result
    (λ e. met_by vs d c.greatest.result c.greatest.ensures.member (tells_true _ c.is_met_by.result c.is_met_by.ensures.stands e))
    (λ e. unmet_above vs d c.greatest.result c.requires.high c.greatest.ensures (tells_false _ c.is_met_by.result c.is_met_by.ensures.stands e))
