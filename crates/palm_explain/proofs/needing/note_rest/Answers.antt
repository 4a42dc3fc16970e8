use Rattle.std.proofs.Common.{inl, inr, sym, subst, arith}
use Rattle.palm_explain.specs.Needed.{IsNotedSpan}
use Rattle.palm_explain.proofs.NotedSpans.{all_noted, rest_noted, widened_noted}
use Rattle.palm_explain.proofs.needing.note_rest.Goals as goal

pub returns-then-not-meets-clause-known : goal.returns-then-not-meets-clause-known
returns-then-not-meets-clause-known c =
    let rows = c.args.rows.now in
    let s = c.args.span.now in
    let noted = c.note_between.new.noted in
    let new = c.in_ok-note_between.ensures in
    elim c.wider.ensures [
      | inl own ↦ subst (λ t. IsNotedSpan rows s.var t c.args.number noted) (sym own) (λ v k low high is lt. new.stay k (c.requires.known v k low high is lt))
      | inr other ↦
          subst (λ t. IsNotedSpan rows s.var t c.args.number noted) (sym other)
          (all_noted rows s c.args.number c.args.noted.now noted (let fits = c.ranges.number.fits in omega (arith, fits)) new)
    ]

widened : (c : goal.After-widened) → IsNotedSpan c.args.rows.now c.args.span.now.var c.widened.result c.args.number c.note_between-3.new.noted
widened c =
    let wide = c.widened.ensures in
    widened_noted c.args.rows.now c.args.span.now c.args.number c.args.known c.widened.result c.below.result c.behind.result c.below.ensures c.behind.ensures c.args.noted.now c.note_between-2.new.noted c.note_between-3.new.noted
    c.in_ok-note_between-2.ensures c.in_ok-note_between-3.ensures (let fits = c.ranges.number.fits in omega (arith, fits)) c.requires.known wide.low.1 wide.high.1

pub returns-clause-noted : goal.returns-clause-noted
returns-clause-noted c =
    let wide = c.widened.ensures in
    let meets = c.meets.ensures c.if-not-meets.false in
    rest_noted c.args.rows.now c.args.span.now c.args.number c.args.known c.widened.result c.below.result c.behind.result c.below.ensures c.behind.ensures c.args.noted.now c.note_between-2.new.noted c.note_between-3.new.noted
    c.in_ok-note_between-2.ensures c.in_ok-note_between-3.ensures meets.0 meets.1 (widened c) wide.low.0 wide.high.0

pub returns-clause-known : goal.returns-clause-known
returns-clause-known c = widened c
