use Rattle.std.proofs.Common.{◌≡◌, ◌++◌, ◌+◌, ◌-◌, string_bytes, flat_map}
use Rattle.palm_lang.specs.Reply.{ended}
use Rattle.palm_session.specs.Objects.{numbered, numbered_from}
use Rattle.palm_cli.specs.Generator.{pair_lines}
use Rattle.palm_cli.proofs.queens.push_pairs.Given as goal

abbrev pub invariant-loop-first : goal.invariant-loop-first
invariant-loop-first l =
    string_bytes l.text ≡ string_bytes l.initial.text
    ++ flat_map (λ i. flat_map ended (flat_map (pair_lines i) (numbered_from (i + 1) (l.fn.size - i)))) (numbered (l.first - 1))
