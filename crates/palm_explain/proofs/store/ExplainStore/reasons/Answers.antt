use Rattle.std.proofs.Common.{◌∙◌, ◌++◌, sym, ap, arith}
use Rattle.std.proofs.lemmas.Result.{on_ok_weaker}
use Rattle.palm_explain.specs.Entries.{written}
use Rattle.palm_explain.specs.Explanations.{Explanations, reasons_of}
use Rattle.palm_explain.proofs.Stores.{entry_read, log_length, reasons_read}
use Rattle.palm_explain.proofs.store.ExplainStore.reasons.Goals as goal

pub returns-else-is_err-clause-ok : goal.returns-else-is_err-clause-ok
returns-else-is_err-clause-ok c =
    let rows = c.self.inside.rows.items in
    let entries = c.self.inside.log.items in
    let e = c.index-entry.result.now in
    let within = rw (← c.self.view_is) at c.requires in
    let long = log_length rows entries in
    let at = entry_read entries c.args.place e (omega (arith, within, long)) c.index-entry.ensures in
    on_ok_weaker c.push_spans-pushed.result
    (λ is.
    is ∙ ap (λ ps. ps ++ written c.deref.result.now e.number c.as_slice.result.now) c.clear.ensures.items ∙ ap (written c.deref.result.now e.number) c.as_slice.ensures
    ∙ ap (λ rs. written rs e.number e.spans.items) c.deref.ensures.value ∙ sym (reasons_read rows entries c.args.place e at) ∙ ap (λ (v : Explanations). reasons_of v.log c.args.place) c.self.view_is)
    c.push_spans-pushed.ensures
