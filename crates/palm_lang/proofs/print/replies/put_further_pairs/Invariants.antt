use Rattle.std.proofs.Common.{◌≡◌, ◌++◌, codes, flat_map, take}
use Rattle.palm_lang.specs.Reply.{pair_text}
use Rattle.palm_lang.proofs.print.replies.put_further_pairs.Given as goal

abbrev pub invariant-loop-pair : goal.invariant-loop-pair
invariant-loop-pair l = l.out.items ≡ l.fn.out.items ++ flat_map (λ p. codes ", " ++ pair_text l.book.variables p) (take l.pair-index l.pairs)
