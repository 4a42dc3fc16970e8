use Rattle.std.proofs.Common.{◌≡◌, length, ap, sym, ◌∙◌}
use Rattle.palm_domain.specs.Rows.{initial_of, present_of}
use Rattle.palm_model.specs.Domains.{values_of}
use Rattle.palm_model.specs.Removed.{pairs_of}
use Rattle.palm_model.specs.Reason.{reason, IsReason}
use Rattle.palm_filter.proofs.cited.Written.{written_right}
use Rattle.filter_compare.specs.Comparison.{comparison_of, meeting_values}
use Rattle.palm_filter.proofs.cited.Righted.{written_is_right}
use Rattle.filter_compare.proofs.Comparisons.{gives_reason, const_gives_reason}
use Rattle.filter_compare.proofs.compare.CompareFilterFilter.reason.Goals as goal

pub returns-in-Variables-clause-ok : goal.returns-in-Variables-clause-ok
returns-in-Variables-clause-ok c =
    let initial = initial_of c.args.store.now in
    let present = present_of c.args.store.now in
    let out = c.whole_or_none.new.out.items in
    let q = c.demand.result in
    written_right (λ ps. ps ≡ reason initial present c.args.self.now c.args.pair.var c.args.pair.value) c.push_declared-written.result c.whole_or_none.result
    c.clear.new.self.items c.push_declared-written.new.out.items c.whole_or_none.new.out.items (pairs_of q.var (meeting_values (values_of initial q.var) q))
    c.clear.ensures.items c.whole_or_none.ensures.answer c.push_declared-written.ensures c.whole_or_none.ensures.ok
    (λ e. gives_reason c.in-Variables.comparison c.args.pair.var c.args.pair.value (length c.args.store.now) c.args.self.now q
    (ap comparison_of (sym c.in-Variables.is) ∙ c.self.view_is) c.requires.formed c.demand.ensures initial present out e)

pub returns-in-Variables-clause-right : goal.returns-in-Variables-clause-right
returns-in-Variables-clause-right c =
    let initial = initial_of c.args.store.now in
    let present = present_of c.args.store.now in
    let out = c.whole_or_none.new.out.items in
    let q = c.demand.result in
    written_right (IsReason initial present c.args.self.now c.args.pair.var c.args.pair.value) c.push_declared-written.result c.whole_or_none.result
    c.clear.new.self.items c.push_declared-written.new.out.items c.whole_or_none.new.out.items (pairs_of q.var (meeting_values (values_of initial q.var) q))
    c.clear.ensures.items c.whole_or_none.ensures.answer c.push_declared-written.ensures c.whole_or_none.ensures.ok
    (λ e. written_is_right c.args.store.now c.variables.ensures.initial_ascend c.variables.ensures.present_ascend c.variables.ensures.inside
    c.args.self.now c.args.pair.var c.args.pair.value c.requires.formed c.requires.present c.requires.unsupported c.requires.filled out
    (gives_reason c.in-Variables.comparison c.args.pair.var c.args.pair.value (length c.args.store.now) c.args.self.now q
    (ap comparison_of (sym c.in-Variables.is) ∙ c.self.view_is) c.requires.formed c.demand.ensures initial present out e))

pub returns-in-Constant-clause-right : goal.returns-in-Constant-clause-right
returns-in-Constant-clause-right c =
    written_is_right c.args.store.now c.variables.ensures.initial_ascend c.variables.ensures.present_ascend c.variables.ensures.inside
    c.args.self.now c.args.pair.var c.args.pair.value c.requires.formed c.requires.present c.requires.unsupported c.requires.filled c.clear.new.self.items
    (const_gives_reason c.in-Constant.field-0 c.args.pair.var c.args.pair.value c.args.self.now (ap comparison_of (sym c.in-Constant.is) ∙ c.self.view_is)
    (initial_of c.args.store.now) (present_of c.args.store.now) c.clear.new.self.items c.clear.ensures.items)
