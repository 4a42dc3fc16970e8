use Rattle.std.proofs.Common.{IfSome, None}
use Rattle.palm_domain.specs.Rows.{IsPlaced, initial_of}
use Rattle.palm_model.specs.Domains.{values_of}
use Rattle.palm_engine.specs.Advancing.{TakenFrom, placed_value}
use Rattle.palm_engine.specs.Posted.{active_of}
use Rattle.palm_engine.proofs.Bounds.{left_from}
use Rattle.palm_engine.proofs.runs.take_out_from.Given as goal

-- those before the next one are gone
abbrev pub invariant-loop-next : goal.invariant-loop-next
invariant-loop-next g l = record {
  taken : TakenFrom (active_of g.F.Filter.meaning l.constraint) l.var None (placed_value l.fn.from) (placed_value l.next) l.fn.filtering l.filtering;
  placed : IfSome l.next (IsPlaced l.filtering.store l.var);
}

abbrev pub decreases-loop-next : goal.decreases-loop-next
decreases-loop-next g l = left_from (placed_value l.next) (values_of (initial_of l.fn.filtering.store) l.var)
