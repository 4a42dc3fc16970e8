use Rattle.std.proofs.Common.{List, IfSome}
use Rattle.palm_domain.specs.Rows.{IsPlaced, initial_of}
use Rattle.palm_model.specs.Domains.{values_of}
use Rattle.palm_model.specs.Log.{Active}
use Rattle.palm_engine.specs.Advancing.{placed_value}
use Rattle.palm_engine.specs.Posted.{active_of}
use Rattle.palm_engine.specs.Revising.{IsRevising}
use Rattle.palm_engine.proofs.Others.{WalkedOthers}
use Rattle.palm_engine.proofs.Bounds.{left_from}
use Rattle.palm_engine.proofs.alike.take_others_out.Given as goal

abbrev pub invariant-loop-next : goal.invariant-loop-next
invariant-loop-next g l = ((active : List Active) → IsRevising l.fn.filtering active (active_of g.F.Filter.meaning l.constraint)
    → WalkedOthers active (active_of g.F.Filter.meaning l.constraint) l.var l.but (placed_value l.next) l.fn.filtering l.filtering l.fn.steps l.steps)
    × IfSome l.next (λ p. IsPlaced l.filtering.store l.var p)

abbrev pub decreases-loop-next : goal.decreases-loop-next
decreases-loop-next g l = left_from (placed_value l.next) (values_of (initial_of l.fn.filtering.store) l.var)
