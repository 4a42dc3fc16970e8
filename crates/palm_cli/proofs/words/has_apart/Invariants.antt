use Rattle.std.proofs.Common.{string_bytes, take, All}
use Rattle.palm_cli.specs.Words.{IsApart}
use Rattle.palm_cli.proofs.words.has_apart.Given as goal

abbrev pub invariant-loop-word : goal.invariant-loop-word
invariant-loop-word l = All (λ s. IsApart (string_bytes s) → ⊥) (take l.word-index l.words)
