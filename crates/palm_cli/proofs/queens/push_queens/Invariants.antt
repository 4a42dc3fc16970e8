use Rattle.std.proofs.Common.{◌≡◌, ◌++◌, ◌-◌, string_bytes, flat_map}
use Rattle.palm_lang.specs.Reply.{ended}
use Rattle.palm_session.specs.Objects.{numbered}
use Rattle.palm_cli.specs.Generator.{queen_line}
use Rattle.palm_cli.proofs.queens.push_queens.Given as goal

abbrev pub invariant-loop-queen : goal.invariant-loop-queen
invariant-loop-queen l =
    string_bytes l.text ≡ string_bytes l.initial.text ++ flat_map (λ i. ended (queen_line l.fn.size i)) (numbered (l.queen-counter - 1))
