use Rattle.std.proofs.Common.{◌≡◌, ◌∙◌, length, slice_get, Some, ap, subst, arith}
use Rattle.std.proofs.lemmas.Bool.{some_since}
use Rattle.std.proofs.lemmas.Option.{MatchOption-at_some}
use Rattle.palm_explain.specs.Entries.{written}
use Rattle.palm_explain.specs.Explanations.{Explanations, reasons_of}
use Rattle.palm_explain.proofs.Stores.{entry_read, log_length, reasons_read}
use Rattle.palm_explain.proofs.store.ExplainStore.reason_at.Goals as goal

pub unwrap-requires : goal.unwrap-requires
unwrap-requires c =
    let rows = c.self.inside.rows.items in
    let entries = c.self.inside.log.items in
    let e = c.index-entry.result.now in
    let within = rw (← c.self.view_is) at c.requires.place in
    let long = log_length rows entries in
    let at = entry_read entries c.args.place e (omega (arith, within, long)) c.index-entry.ensures in
    let below = rw (← c.self.view_is) at c.requires.index in
    let all = ap length (reasons_read rows entries c.args.place e at) in
    let same = ap (λ ss. length (written c.deref.result.now e.number ss)) c.as_slice.ensures ∙ ap (λ rs. length (written rs e.number e.spans.items)) c.deref.ensures.value in
    some_since c.reason_in.result _ _ c.reason_in.ensures (λ le. omega (arith, below, all, same, le))

pub returns : goal.returns
returns c =
    let rows = c.self.inside.rows.items in
    let entries = c.self.inside.log.items in
    let e = c.index-entry.result.now in
    let within = rw (← c.self.view_is) at c.requires.place in
    let long = log_length rows entries in
    let at = entry_read entries c.args.place e (omega (arith, within, long)) c.index-entry.ensures in
    let own = MatchOption-at_some _ _ c.unwrap.result c.unwrap.ensures c.reason_in.ensures in
    let got : slice_get (written rows e.number e.spans.items) c.args.index ≡ Some c.unwrap.result =
    subst (λ ss. slice_get (written rows e.number ss) c.args.index ≡ Some c.unwrap.result) c.as_slice.ensures (subst (λ rs. slice_get (written rs e.number c.as_slice.result.now) c.args.index ≡ Some c.unwrap.result) c.deref.ensures.value own) in
    subst (λ (v : Explanations). slice_get (reasons_of v.log c.args.place) c.args.index ≡ Some c.unwrap.result) c.self.view_is
    (ap (λ rs. slice_get rs c.args.index) (reasons_read rows entries c.args.place e at) ∙ got)
