use Rattle.std.proofs.Common.{◌≡◌, map, take}
use Rattle.palm_read.proofs.reader.repeats.name_texts.Given as goal

abbrev pub invariant-loop-name : goal.invariant-loop-name
invariant-loop-name l = map (λ t. t.now) l.texts.items ≡ take l.name-index l.names
