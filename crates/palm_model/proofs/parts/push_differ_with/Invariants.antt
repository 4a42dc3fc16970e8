use Rattle.std.proofs.Common.{◌≡◌, ◌++◌, map, take}
use Rattle.palm_model.specs.declared.part.Part.TheVariants.{Differ as DifferPart}
use Rattle.palm_model.proofs.parts.push_differ_with.Given as goal

-- the pairs with the variables so far
abbrev pub invariant-loop-other : goal.invariant-loop-other
invariant-loop-other l = l.list ≡ l.initial.list ++ map (DifferPart l.first) (take l.other-index l.others)
