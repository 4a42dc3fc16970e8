use Rattle.std.proofs.Common.{List, Global, String, string_bytes, All, arith, subst}
use Rattle.std.proofs.lemmas.List.{take_all}
use Rattle.palm_cli.specs.Words.{IsApart}
use Rattle.palm_cli.proofs.WordLemmas.{none_apart}
use Rattle.palm_cli.proofs.words.has_apart.Goals as goal

pub returns : goal.returns
returns c =
    let all = take_all c.loop-word.word-index c.args.words.now (omega (arith, c.loop-word-test.false, c.loop-word.auto.word-index-end)) in
    none_apart c.args.words.now (subst (λ (xs : List (String Global)). All (λ s. IsApart (string_bytes s) → ⊥) xs) all c.loop-word.invariant)
