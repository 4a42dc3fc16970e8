use Rattle.std.proofs.Common.{◌≡◌, ◌++◌, take, map, decimal}
use Rattle.palm_read.specs.Words.{after_spaces}
use Rattle.palm_cert.proofs.lines.put_numbers.Given as goal

abbrev pub invariant-loop-number : goal.invariant-loop-number
invariant-loop-number l = l.out.items ≡ l.initial.out.items ++ after_spaces (map decimal (take l.number-index l.numbers))
