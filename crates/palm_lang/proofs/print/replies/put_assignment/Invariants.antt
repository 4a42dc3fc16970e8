use Rattle.std.proofs.Common.{◌≡◌, ◌++◌, map, take, zip}
use Rattle.palm_lang.specs.Reply.{assigned_text}
use Rattle.palm_read.specs.Words.{after_spaces}
use Rattle.palm_lang.proofs.print.replies.put_assignment.Given as goal

abbrev pub invariant-loop-var : goal.invariant-loop-var
invariant-loop-var l = l.out.items ≡ l.fn.out.items ++ after_spaces (map assigned_text (take l.var (zip l.book.variables l.values)))
