use Rattle.std.proofs.Common.{◌≡◌, ◌++◌, map, take}
use Rattle.palm_book.specs.Book.{user_name}
use Rattle.palm_read.specs.Words.{after_spaces}
use Rattle.palm_lang.proofs.print.replies.put_users.Given as goal

abbrev pub invariant-loop-user : goal.invariant-loop-user
invariant-loop-user l = l.out.items ≡ l.fn.out.items ++ after_spaces (map (user_name l.book.constraints) (take l.user-index l.users))
