use Rattle.std.proofs.Common.{List, ℤ, take, Contains}
use Rattle.palm_base.specs.declared.terms.Pair.{Pair}
use Rattle.palm_domain.specs.Rows.{initial_of}
use Rattle.palm_explain.specs.Explanations.{AreSpanned}
use Rattle.palm_explain.specs.Moving.{spans_at}
use Rattle.palm_filter.specs.Rules.{listed_pairs}
use Rattle.palm_model.specs.Domains.{Has}
use Rattle.palm_engine.specs.Reasons.{AreNear}
use Rattle.palm_engine.proofs.reasons.list_spans.Given as goal

-- the spans so far stand for the intervals so far
abbrev pub invariant-loop-interval : goal.invariant-loop-interval
invariant-loop-interval l = record {
  told : (v : ℤ) (pairs : List Pair) → ((p : Pair) → Contains pairs p → Has (initial_of l.store) p.var p.value) → ((p : Pair) → Contains (listed_pairs (initial_of l.store) l.intervals) p → Contains pairs p)
      → AreSpanned pairs (spans_at l.out.items v) (listed_pairs (initial_of l.store) (take l.interval-index l.intervals));
  near : AreNear l.out.items;
}
