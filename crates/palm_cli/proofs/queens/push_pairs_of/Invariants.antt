use Rattle.std.proofs.Common.{◌≡◌, ◌++◌, ◌+◌, ◌-◌, string_bytes, flat_map}
use Rattle.palm_lang.specs.Reply.{ended}
use Rattle.palm_session.specs.Objects.{numbered_from}
use Rattle.palm_cli.specs.Generator.{pair_lines}
use Rattle.palm_cli.proofs.queens.push_pairs_of.Given as goal

abbrev pub invariant-loop-second : goal.invariant-loop-second
invariant-loop-second l =
    string_bytes l.text ≡ string_bytes l.initial.text
    ++ flat_map (λ j. flat_map ended (pair_lines l.fn.first j)) (numbered_from (l.fn.first + 1) (l.second - (l.fn.first + 1)))
