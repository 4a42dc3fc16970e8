use Rattle.std.proofs.Common.{take, Contains}
use Rattle.palm_base.specs.declared.terms.Pair.{Pair}
use Rattle.palm_explain.specs.declared.spans.Span.{Span}
use Rattle.palm_explain.specs.Entries.{span_pairs}
use Rattle.palm_explain.specs.Losing.{marked_pairs}
use Rattle.palm_explain.proofs.naming.is_named.Given as goal

-- no reason of the spans so far has a mark
abbrev pub invariant-loop-span : goal.invariant-loop-span
invariant-loop-span l = (s : Span) (p : Pair) → Contains (take l.span-index l.span-items) s → Contains (span_pairs l.rows l.entry.number s) p → Contains (marked_pairs l.log) p → ⊥
