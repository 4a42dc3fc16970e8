use Rattle.std.proofs.Common.{◌≡◌, IfSome}
use Rattle.palm_domain.specs.Rows.{IsPlaced, present_values}
use Rattle.palm_engine.specs.Advancing.{HasGathered, placed_value}
use Rattle.palm_engine.proofs.Bounds.{left_from}
use Rattle.palm_engine.proofs.runs.gather.Given as goal

-- so far they are gathered up to before the next one
abbrev pub invariant-loop-next : goal.invariant-loop-next
invariant-loop-next l = record {
  gathered : HasGathered (present_values l.store l.var) l.fn.first.value (placed_value l.next) l.until l.room;
  placed : IfSome l.next (IsPlaced l.store l.var);
  known : l.room.known ≡ l.fn.room.known;
  spans : l.room.spans.items ≡ l.fn.room.spans.items;
}

abbrev pub decreases-loop-next : goal.decreases-loop-next
decreases-loop-next l = left_from (placed_value l.next) (present_values l.store l.var)
