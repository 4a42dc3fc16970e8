use Rattle.std.proofs.Common.{length}
use Rattle.palm_domain.specs.Rows.{initial_of, present_of}
use Rattle.palm_model.specs.Reason.{IsReason}
use Rattle.palm_model.specs.Element.{element_reason}
use Rattle.palm_filter.proofs.cited.Written.{written_right}
use Rattle.palm_filter.proofs.cited.Righted.{written_is_right}
use Rattle.filter_element.proofs.Elements.{gives_reason}
use Rattle.filter_element.proofs.element.ElementFilterFilter.reason.Goals as goal

pub returns-clause-right : goal.returns-clause-right
returns-clause-right c =
    let e = c.self.inside.rule in
    let initial = initial_of c.args.store.now in
    let present = present_of c.args.store.now in
    written_right (IsReason initial present c.args.self.now c.args.pair.var c.args.pair.value) c.push_reason-written.result c.whole_or_none.result
    c.clear.new.self.items c.push_reason-written.new.out.items c.whole_or_none.new.out.items
    (element_reason initial e.outcome e.index e.entries c.args.pair.var c.args.pair.value)
    c.clear.ensures.items c.whole_or_none.ensures.answer c.push_reason-written.ensures c.whole_or_none.ensures.ok
    (λ f. written_is_right c.args.store.now c.variables.ensures.initial_ascend c.variables.ensures.present_ascend c.variables.ensures.inside
    c.args.self.now c.args.pair.var c.args.pair.value c.requires.formed c.requires.present c.requires.unsupported c.requires.filled c.whole_or_none.new.out.items
    (gives_reason e c.args.self.now (length c.args.store.now) c.self.view_is c.requires.formed initial present c.args.pair.var c.args.pair.value c.whole_or_none.new.out.items f))
