use Rattle.std.proofs.Common.{◌-◌, length}
use Rattle.palm_engine.specs.Posted.{actives_of}
use Rattle.palm_engine.proofs.cited.Withdrawing.{IsWalked}
use Rattle.palm_engine.proofs.posting.take_out_resting.Given as goal

abbrev pub invariant-loop-posted : goal.invariant-loop-posted
invariant-loop-posted g l = IsWalked l.initial.filtering (actives_of g.F.Filter.meaning l.initial.posted.items) l.cid l.filtering (actives_of g.F.Filter.meaning l.posted.items) l.place

abbrev pub decreases-loop-posted : goal.decreases-loop-posted
decreases-loop-posted g l = length l.posted.items - l.place
