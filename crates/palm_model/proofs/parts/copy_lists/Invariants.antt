use Rattle.std.proofs.Common.{◌≡◌, take}
use Rattle.palm_model.proofs.parts.copy_lists.Given as goal

-- the lists so far
abbrev pub invariant-loop-list : goal.invariant-loop-list
invariant-loop-list l = l.copy.items ≡ take l.list-index l.lists
