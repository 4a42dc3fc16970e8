use Rattle.palm_lang.proofs.PrintLemmas.{Keeps-more, Puts-kept}
use Rattle.palm_lang.proofs.print.replies.put_names.Goals as goal

pub returns-in_err-put_users : goal.returns-in_err-put_users
returns-in_err-put_users c =
    Puts-kept c.args.out.now.items _ _ c.from_residual-in_err-put_users.result c.from_residual-in_err-put_users.ensures.0 (Keeps-more _ _ _ _ c.in_ok-put_text.ensures c.in_err-put_users.ensures)
