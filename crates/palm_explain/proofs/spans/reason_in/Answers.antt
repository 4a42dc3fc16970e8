use Rattle.std.proofs.Common.{◌∙◌, Some, slice_get, sym, ap}
use Rattle.std.proofs.lemmas.Option.{slice_get-get_or}
use Rattle.palm_explain.specs.Entries.{written}
use Rattle.palm_explain.proofs.RowSpans.{written_at}
use Rattle.palm_explain.proofs.spans.reason_in.Goals as goal

pub returns-in-Ok : goal.returns-in-Ok
returns-in-Ok c =
    let rows = c.args.rows.now in
    let spans = c.args.spans.now in
    let i = c.loop-span.span-index in
    let s = c.span-item.result in
    ap (slice_get (written rows c.args.number spans)) c.loop-span.invariant
    ∙ written_at rows c.args.number spans i s c.loop-span.left c.in-Ok.reason (slice_get-get_or spans i s c.loop-span-test.true ∙ ap Some (sym c.span-item.is)) c.in-Ok.ensures.ok
