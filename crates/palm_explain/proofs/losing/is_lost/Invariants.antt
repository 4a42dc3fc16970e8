use Rattle.std.proofs.Common.{List, take, Contains}
use Rattle.palm_base.specs.declared.terms.Pair.{Pair}
use Rattle.palm_explain.specs.declared.spans.Span.{Span}
use Rattle.palm_explain.specs.Losing.{AreToldBefore, HasLost}
use Rattle.palm_explain.proofs.losing.is_lost.Given as goal

-- no reason of the spans so far is lost
abbrev pub invariant-loop-span : goal.invariant-loop-span
invariant-loop-span l = (pairs : List Pair) → AreToldBefore l.rows l.restored l.store l.entry.number pairs → (s : Span) → Contains (take l.span-index l.span-items) s → HasLost l.rows l.entry.number pairs s → ⊥
