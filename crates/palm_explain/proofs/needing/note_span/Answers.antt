use Rattle.std.proofs.Common.{List, Some, slice_get, subst, ◌≡◌, ◌⊎◌}
use Rattle.palm_explain.specs.Needed.{AreBothEmpty}
use Rattle.palm_explain.specs.declared.noted.NotedSpans.{NotedSpans}
use Rattle.palm_explain.proofs.NotedSpans.{both_held, span_stays, spans_found, spans_set, turned_noted}
use Rattle.palm_explain.proofs.needing.note_span.Goals as goal

pub returns-then-has_all-clause-noted : goal.returns-then-has_all-clause-noted
returns-then-has_all-clause-noted c =
    let x = c.args.span.now.var in
    let s : NotedSpans = c.noted_of-own.result in
    let found = subst (λ (ss : List NotedSpans). (slice_get ss x ≡ Some s) ⊎ AreBothEmpty s) c.deref.ensures.value c.noted_of-own.ensures in
    both_held c.args.rows.now c.args.span.now c.args.number s c.args.noted.now (spans_found c.args.rows.now c.args.known.now.items x s c.args.number c.args.noted.now c.requires.known found)
    (c.has_all.ensures c.if-has_all.true)

pub note_rest-requires-clause-known : goal.note_rest-requires-clause-known
note_rest-requires-clause-known c =
    let x = c.args.span.now.var in
    let s : NotedSpans = c.noted_of-own.result in
    let found = subst (λ (ss : List NotedSpans). (slice_get ss x ≡ Some s) ⊎ AreBothEmpty s) c.deref.ensures.value c.noted_of-own.ensures in
    (turned_noted c.args.rows.now x s c.turned-spans.result c.args.number c.args.noted.now (spans_found c.args.rows.now c.args.known.now.items x s c.args.number c.args.noted.now c.requires.known found) c.turned-spans.ensures).0

pub returns-clause-known : goal.returns-clause-known
returns-clause-known c =
    let rows = c.args.rows.now in
    let x = c.args.span.now.var in
    let n = c.args.number in
    let old = c.args.noted.now in
    let new = c.note_rest.new.noted in
    let more = c.in_ok-first.ensures in
    let s : NotedSpans = c.noted_of-own.result in
    let found = subst (λ (ss : List NotedSpans). (slice_get ss x ≡ Some s) ⊎ AreBothEmpty s) c.deref.ensures.value c.noted_of-own.ensures in
    let both = turned_noted rows x s c.turned-spans.result n old (spans_found rows c.args.known.now.items x s n old c.requires.known found) c.turned-spans.ensures in
    let spans : NotedSpans = record { first = c.in_ok-first.first; second = c.turned-spans.result.second } in
    spans_set rows c.args.known.now.items c.set_noted.new.spans.items x spans n old new c.requires.known more.noted.stay (more.known, span_stays rows x c.turned-spans.result.second n old new more.noted.stay both.1)
    c.set_noted.ensures.own c.set_noted.ensures.others
