use Rattle.palm_lang.proofs.PrintLemmas.{Keeps-more, Puts-kept}
use Rattle.palm_lang.proofs.print.lists.put_row.Goals as goal

pub returns-in_err-put_values : goal.returns-in_err-put_values
returns-in_err-put_values c =
    Puts-kept c.args.out.now.items _ _ c.from_residual-in_err-put_values.result c.from_residual-in_err-put_values.ensures.0 (Keeps-more _ _ _ _ c.in_ok-put_text.ensures c.in_err-put_values.ensures)
