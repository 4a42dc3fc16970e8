use Rattle.std.proofs.Common.{◌≡◌, ◌∙◌, ◌^◌, ◌<◌, length, sym, ap, subst, arith}
use Rattle.palm_base.proofs.cited.Members.{member_get}
use Rattle.palm_explain.specs.Entries.{written}
use Rattle.palm_explain.specs.Explanations.{Explanations, reasons_of}
use Rattle.palm_explain.proofs.Stores.{entry_read, log_length, reasons_read}
use Rattle.palm_explain.proofs.store.ExplainStore.reasons_at.Goals as goal

pub count_of-requires-clause-fits : goal.count_of-requires-clause-fits
count_of-requires-clause-fits c =
    let rows = c.self.inside.rows.items in
    let entries = c.self.inside.log.items in
    let e = c.index-entry.result.now in
    let within = rw (← c.self.view_is) at c.requires in
    let long = log_length rows entries in
    let at = entry_read entries c.args.place e (omega (arith, within, long)) c.index-entry.ensures in
    let fits = c.self.invariant.entered.countable e (member_get entries c.args.place e at) in
    subst (λ ss. length (written c.deref.result.now e.number ss) < 2 ^ 64) (sym c.as_slice.ensures) (subst (λ rs. length (written rs e.number e.spans.items) < 2 ^ 64) (sym c.deref.ensures.value) fits)

pub returns : goal.returns
returns c =
    let rows = c.self.inside.rows.items in
    let entries = c.self.inside.log.items in
    let e = c.index-entry.result.now in
    let within = rw (← c.self.view_is) at c.requires in
    let long = log_length rows entries in
    let at = entry_read entries c.args.place e (omega (arith, within, long)) c.index-entry.ensures in
    let own : c.count_of.result ≡ length (written rows e.number e.spans.items) =
    c.count_of.ensures ∙ ap (λ ss. length (written c.deref.result.now e.number ss)) c.as_slice.ensures ∙ ap (λ rs. length (written rs e.number e.spans.items)) c.deref.ensures.value in
    subst (λ (v : Explanations). c.count_of.result ≡ length (reasons_of v.log c.args.place)) c.self.view_is (own ∙ ap length (sym (reasons_read rows entries c.args.place e at)))
