use Rattle.std.proofs.Common.{◌≡◌, ◌++◌, ap, ◌∙◌}
use Rattle.palm_domain.specs.Rows.{initial_of, present_of}
use Rattle.palm_model.specs.Reason.{IsReason}
use Rattle.palm_model.specs.Table.{table_reason}
use Rattle.palm_filter.proofs.cited.Written.{whole_ok}
use Rattle.palm_filter.proofs.cited.Righted.{written_is_right}
use Rattle.filter_table.proofs.Supporting.{gives_reason}
use Rattle.filter_table.proofs.table.TableFilterFilter.reason.Goals as goal

pub returns-clause-right : goal.returns-clause-right
returns-clause-right c =
    let t = c.self.inside.table in
    let initial = initial_of c.args.store.now in
    let present = present_of c.args.store.now in
    let why = table_reason initial present t.vars t.rows c.args.pair.var c.args.pair.value in
    let written = c.push_reason-written.new.out.items in
    let out = c.whole_or_none.new.out.items in
    whole_ok (written ≡ c.clear.new.self.items ++ why) (out ≡ written) (IsReason initial present c.args.self.now c.args.pair.var c.args.pair.value out)
    c.push_reason-written.result c.whole_or_none.result c.whole_or_none.ensures.answer c.push_reason-written.ensures c.whole_or_none.ensures.ok
    (λ e f. written_is_right c.args.store.now c.variables.ensures.initial_ascend c.variables.ensures.present_ascend c.variables.ensures.inside
    c.args.self.now c.args.pair.var c.args.pair.value c.requires.formed c.requires.present c.requires.unsupported c.requires.filled c.whole_or_none.new.out.items
    (gives_reason t c.self.invariant.0 c.args.self.now c.self.view_is c.args.pair.var c.args.pair.value initial present out (f ∙ e ∙ ap (λ ps. ps ++ why) c.clear.ensures.items)))
