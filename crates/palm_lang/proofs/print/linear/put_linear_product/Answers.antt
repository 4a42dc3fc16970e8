use Rattle.palm_lang.proofs.PrintLemmas.{Keeps-more, Puts-kept}
use Rattle.palm_lang.proofs.print.linear.put_linear_product.Goals as goal

pub returns-in_err-put_text : goal.returns-in_err-put_text
returns-in_err-put_text c =
    Puts-kept c.args.out.now.items _ _ c.from_residual-in_err-put_text.result c.from_residual-in_err-put_text.ensures.0 (Keeps-more _ _ _ _ c.in_ok-put_int.ensures c.in_err-put_text.ensures)
