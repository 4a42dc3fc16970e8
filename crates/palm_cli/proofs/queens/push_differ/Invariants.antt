use Rattle.std.proofs.Common.{◌≡◌, ◌++◌, ◌-◌, string_bytes, flat_map, codes}
use Rattle.palm_session.specs.Objects.{numbered}
use Rattle.palm_cli.specs.Generator.{queen_name}
use Rattle.palm_cli.proofs.queens.push_differ.Given as goal

abbrev pub invariant-loop-queen : goal.invariant-loop-queen
invariant-loop-queen l =
    string_bytes l.text ≡ string_bytes l.initial.text ++ flat_map (λ i. codes " " ++ queen_name i) (numbered (l.queen-counter - 1))
