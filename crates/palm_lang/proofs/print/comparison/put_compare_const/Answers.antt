use Rattle.palm_lang.proofs.PrintLemmas.{Keeps-more, Puts-kept}
use Rattle.palm_lang.proofs.print.comparison.put_compare_const.Goals as goal

pub returns-in_err-put_spaced_op : goal.returns-in_err-put_spaced_op
returns-in_err-put_spaced_op c =
    Puts-kept c.args.out.now.items _ _ c.from_residual-in_err-put_spaced_op.result c.from_residual-in_err-put_spaced_op.ensures.0 (Keeps-more _ _ _ _ c.in_ok-put_name.ensures c.in_err-put_spaced_op.ensures)
