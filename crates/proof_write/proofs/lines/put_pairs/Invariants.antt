use Rattle.std.proofs.Common.{◌≡◌, ◌++◌, take, map}
use Rattle.palm_read.specs.Words.{after_spaces}
use Rattle.proof_run.specs.Lemma.{held_decisions, pair_word}
use Rattle.proof_write.proofs.lines.put_pairs.Given as goal

abbrev pub invariant-loop-pair : goal.invariant-loop-pair
invariant-loop-pair l = l.out.items ≡ l.initial.out.items ++ after_spaces (map (pair_word l.book.variables) (held_decisions (take l.pair-index l.decisions) l.held))
