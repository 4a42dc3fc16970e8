use Rattle.std.proofs.Common.{◌≡◌, ◌++◌, length, ap, ◌∙◌}
use Rattle.palm_domain.specs.Rows.{initial_of, present_of}
use Rattle.palm_model.specs.Reason.{IsReason}
use Rattle.palm_model.specs.Differ.{differ_reason}
use Rattle.palm_filter.proofs.cited.Written.{whole_ok}
use Rattle.palm_filter.proofs.cited.Righted.{written_is_right}
use Rattle.filter_differ.proofs.Differing.{gives_reason}
use Rattle.filter_differ.proofs.differ.DifferFilterFilter.reason.Goals as goal

pub returns-clause-right : goal.returns-clause-right
returns-clause-right c =
    let vars = c.self.inside.vars in
    let initial = initial_of c.args.store.now in
    let present = present_of c.args.store.now in
    let why = differ_reason initial present c.as_slice.result.now c.args.pair.var c.args.pair.value in
    let written = c.push_reason-written.new.out.items in
    let out = c.whole_or_none.new.out.items in
    whole_ok (written ≡ c.clear.new.self.items ++ why) (out ≡ written) (IsReason initial present c.args.self.now c.args.pair.var c.args.pair.value out)
    c.push_reason-written.result c.whole_or_none.result c.whole_or_none.ensures.answer c.push_reason-written.ensures c.whole_or_none.ensures.ok
    (λ e f. written_is_right c.args.store.now c.variables.ensures.initial_ascend c.variables.ensures.present_ascend c.variables.ensures.inside
    c.args.self.now c.args.pair.var c.args.pair.value c.requires.formed c.requires.present c.requires.unsupported c.requires.filled c.whole_or_none.new.out.items
    (gives_reason vars c.args.self.now c.self.view_is (length c.args.store.now) c.requires.formed c.args.pair.var c.args.pair.value initial present out
    (f ∙ e ∙ ap (λ ps. ps ++ why) c.clear.ensures.items ∙ ap (λ xs. differ_reason initial present xs c.args.pair.var c.args.pair.value) c.as_slice.ensures)))
