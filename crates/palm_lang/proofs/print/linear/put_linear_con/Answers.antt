use Rattle.palm_lang.proofs.PrintLemmas.{Keeps-more, Puts-kept}
use Rattle.palm_lang.proofs.print.linear.put_linear_con.Goals as goal

pub returns-in_err-put_linear_con_terms : goal.returns-in_err-put_linear_con_terms
returns-in_err-put_linear_con_terms c =
    Puts-kept c.args.out.now.items _ _ c.from_residual-in_err-put_linear_con_terms.result c.from_residual-in_err-put_linear_con_terms.ensures.0 (Keeps-more _ _ _ _ c.in_ok-put_text.ensures c.in_err-put_linear_con_terms.ensures)
