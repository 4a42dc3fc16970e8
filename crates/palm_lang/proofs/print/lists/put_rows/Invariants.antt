use Rattle.std.proofs.Common.{◌≡◌, ◌++◌, map, take}
use Rattle.palm_read.specs.Words.{after_spaces, row_text}
use Rattle.palm_lang.proofs.print.lists.put_rows.Given as goal

abbrev pub invariant-loop-row : goal.invariant-loop-row
invariant-loop-row l = l.out.items ≡ l.fn.out.items ++ after_spaces (map row_text (take l.row-index l.rows))
