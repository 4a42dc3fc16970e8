use Rattle.std.proofs.Common.{◌≡◌, take, flat_map}
use Rattle.palm_model.specs.Part.{parts}
use Rattle.palm_model.proofs.parts.all_parts.Given as goal

-- the parts of the constraints so far
abbrev pub invariant-loop-con : goal.invariant-loop-con
invariant-loop-con l = l.list ≡ flat_map parts (take l.con-index l.con-items)
