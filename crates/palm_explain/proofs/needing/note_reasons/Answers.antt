use Rattle.std.proofs.Common.{◌≡◌, ◌∙◌, ◌<◌, length, get_or, take, sym, ap, subst}
use Rattle.palm_explain.specs.Entries.{span_pairs, written}
use Rattle.palm_explain.specs.Needed.{HasNoted}
use Rattle.palm_explain.proofs.NeededPlaces.{noted_both, written_more}
use Rattle.palm_explain.proofs.needing.note_reasons.Goals as goal

pub loop-span-preserved : goal.loop-span-preserved
loop-span-preserved c =
    let rows = c.args.rows.now in
    let n = c.args.entry.now.number in
    let spans = c.args.entry.now.spans.items in
    let i = c.loop-span.span-index in
    let s = c.span-item.result in
    let same = c.as_slice-span-items.ensures in
    let lt : i < length spans = subst (λ ss. i < length ss) same c.loop-span-test.true in
    let is : s ≡ get_or spans i s = c.span-item.is ∙ ap (λ ss. get_or ss i s) same in
    let one = subst (λ t. HasNoted rows c.loop-span.noted c.note_span.new.noted (span_pairs rows n t)) is c.in_ok-note_span.ensures.noted in (
      subst (HasNoted rows c.args.noted.now c.note_span.new.noted) (sym (written_more rows n spans i s lt))
          (noted_both rows c.args.noted.now c.loop-span.noted c.note_span.new.noted (written rows n (take i spans)) (span_pairs rows n (get_or spans i s)) c.loop-span.invariant.0 one),
      c.in_ok-note_span.ensures.known,
    )

pub note_span-requires-clause-known : goal.note_span-requires-clause-known
note_span-requires-clause-known c = c.loop-span.invariant.1
