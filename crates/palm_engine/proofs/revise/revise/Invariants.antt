use Rattle.std.proofs.Common.{List}
use Rattle.palm_model.specs.Log.{Active}
use Rattle.palm_engine.specs.Posted.{active_of}
use Rattle.palm_engine.specs.Revising.{IsRevising}
use Rattle.palm_engine.proofs.Places.{WalkedPlaces}
use Rattle.palm_engine.proofs.revise.revise.Given as goal

abbrev pub invariant-loop-place : goal.invariant-loop-place
invariant-loop-place g l = (active : List Active) → IsRevising l.fn.filtering active (active_of g.F.Filter.meaning l.constraint)
    → WalkedPlaces active (active_of g.F.Filter.meaning l.constraint) l.place l.fn.filtering l.filtering l.fn.steps l.steps
