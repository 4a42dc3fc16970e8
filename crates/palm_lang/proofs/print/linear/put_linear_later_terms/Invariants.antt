use Rattle.std.proofs.Common.{◌≡◌, ◌++◌, flat_map, take}
use Rattle.palm_read.specs.Linear.{linear_later_words}
use Rattle.palm_read.specs.Words.{after_spaces}
use Rattle.palm_lang.proofs.print.linear.put_linear_later_terms.Given as goal

abbrev pub invariant-loop-term : goal.invariant-loop-term
invariant-loop-term l = l.out.items ≡ l.fn.out.items ++ flat_map (λ t. after_spaces (linear_later_words t.factor t.name)) (take l.term-index l.terms)
