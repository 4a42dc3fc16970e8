use Rattle.std.proofs.Common.{take}
use Rattle.palm_engine.specs.Engine.{KeepsCounts}
use Rattle.palm_model.specs.State.{IsValid}
use Rattle.palm_repair.proofs.Taking.{IsTaking}
use Rattle.palm_repair.proofs.learned.withdraw_forced.Given as goal

abbrev pub invariant-loop-origin : goal.invariant-loop-origin
invariant-loop-origin g l = IsTaking l.number (take l.origin-index l.origins) l.fn.engine.state l.engine.state × KeepsCounts l.fn.engine l.engine × IsValid l.engine.state
