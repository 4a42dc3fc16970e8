use Rattle.std.proofs.Common.{take}
use Rattle.palm_explain.proofs.PlaceSets.{HasAdded}
use Rattle.palm_explain.proofs.places.Places.add_all.Given as goal

-- the places of the words so far are there
abbrev pub invariant-loop-word : goal.invariant-loop-word
invariant-loop-word l = HasAdded l.fn.self (take l.word-index l.word-items) l.self
