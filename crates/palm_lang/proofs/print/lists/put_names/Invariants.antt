use Rattle.std.proofs.Common.{◌≡◌, ◌++◌, take}
use Rattle.palm_read.specs.Words.{after_spaces}
use Rattle.palm_lang.proofs.print.lists.put_names.Given as goal

abbrev pub invariant-loop-name : goal.invariant-loop-name
invariant-loop-name l = l.out.items ≡ l.fn.out.items ++ after_spaces (take l.name-index l.names)
