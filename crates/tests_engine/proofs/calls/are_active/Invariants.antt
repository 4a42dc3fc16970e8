use Rattle.std.specs.List.{AllWithin}
use Rattle.palm_model.specs.Log.{IsActive}
use Rattle.tests_engine.proofs.calls.are_active.Given as goal

-- the names so far are those of active constraints
abbrev pub invariant-loop-cid : goal.invariant-loop-cid
invariant-loop-cid g l = AllWithin (IsActive l.engine.state.active) l.names 0 l.cid-index
