use Rattle.std.proofs.Common.{◌≡◌, ◌++◌, map, take}
use Rattle.palm_read.specs.Words.{after_spaces}
use Rattle.palm_cli.proofs.verdicts.push_constraints.Given as goal

abbrev pub invariant-loop-place : goal.invariant-loop-place
invariant-loop-place l = l.out.items ≡ l.fn.out.items ++ after_spaces (map (λ c. c.name) (take l.place l.book.constraints))
