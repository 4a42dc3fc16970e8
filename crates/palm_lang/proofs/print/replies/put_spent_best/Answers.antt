use Rattle.palm_lang.proofs.PrintLemmas.{Keeps-more, Puts-kept}
use Rattle.palm_lang.proofs.print.replies.put_spent_best.Goals as goal

pub returns-in_err-put_int : goal.returns-in_err-put_int
returns-in_err-put_int c =
    Puts-kept c.args.out.now.items _ _ c.from_residual-in_err-put_int.result c.from_residual-in_err-put_int.ensures.0 (Keeps-more _ _ _ _ c.in_ok-put_text.ensures c.in_err-put_int.ensures)

pub returns-in_err-put_text-2 : goal.returns-in_err-put_text-2
returns-in_err-put_text-2 c =
    Puts-kept c.args.out.now.items _ _ c.from_residual-in_err-put_text-2.result c.from_residual-in_err-put_text-2.ensures.0 (Keeps-more _ _ _ _ c.in_ok-put_text.ensures (Keeps-more _ _ _ _ c.in_ok-put_int.ensures c.in_err-put_text-2.ensures))
