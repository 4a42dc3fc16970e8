use Rattle.std.proofs.Common.{◌≡◌, ◌++◌, map, take}
use Rattle.palm_book.specs.Book.{name_of}
use Rattle.palm_read.specs.Words.{after_spaces}
use Rattle.palm_lang.proofs.print.lists.put_vars.Given as goal

abbrev pub invariant-loop-var : goal.invariant-loop-var
invariant-loop-var l = l.out.items ≡ l.fn.out.items ++ after_spaces (map (name_of l.book.variables) (take l.var-index l.vars))
