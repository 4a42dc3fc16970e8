use Rattle.std.proofs.Common.{rules, ◌++◌, codes}
use Rattle.palm_book.specs.Book.{user_name}
use Rattle.palm_lang.proofs.PrintLemmas.{Puts-failed, mapped_more}
use Rattle.palm_lang.proofs.print.replies.put_users.Goals as goal

pub returns-in_err-put_user : goal.returns-in_err-put_user
returns-in_err-put_user c =
    Puts-failed c.args.out.now.items c.loop-user.out.items c.put_user.new.out.items _ _ c.from_residual.result c.from_residual.ensures.0 c.loop-user.invariant c.in_err-put_user.ensures

pub loop-user-preserved : goal.loop-user-preserved
loop-user-preserved c =
    mapped_more (λ w. codes " " ++ w) (user_name c.args.book.now.constraints) _ _ _ c.args.users.now c.loop-user.user-index c.user-item.result (search rules) (search rules) c.loop-user.invariant c.in_ok-put_user.ensures
