use Rattle.std.proofs.Common.{◌≡◌, map, take}
use Rattle.palm_read.proofs.reader.repeats.term_names.Given as goal

abbrev pub invariant-loop-term : goal.invariant-loop-term
invariant-loop-term l = map (λ t. t.now) l.texts.items ≡ map (λ t. t.name) (take l.term-index l.terms)
