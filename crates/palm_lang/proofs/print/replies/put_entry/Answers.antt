use Rattle.palm_lang.proofs.PrintLemmas.{Keeps-more, Puts-kept}
use Rattle.palm_lang.proofs.print.replies.put_entry.Goals as goal

pub returns-in_err-put_text : goal.returns-in_err-put_text
returns-in_err-put_text c =
    Puts-kept c.args.out.now.items _ _ c.from_residual-in_err-put_text.result c.from_residual-in_err-put_text.ensures.0 (Keeps-more _ _ _ _ c.in_ok-put_int.ensures c.in_err-put_text.ensures)

pub returns-in_err-put_spaced_name : goal.returns-in_err-put_spaced_name
returns-in_err-put_spaced_name c =
    Puts-kept c.args.out.now.items _ _ c.from_residual-in_err-put_spaced_name.result c.from_residual-in_err-put_spaced_name.ensures.0 (Keeps-more _ _ _ _ c.in_ok-put_int.ensures (Keeps-more _ _ _ _ c.in_ok-put_text.ensures c.in_err-put_spaced_name.ensures))

pub returns-in_err-put_text-2 : goal.returns-in_err-put_text-2
returns-in_err-put_text-2 c =
    Puts-kept c.args.out.now.items _ _ c.from_residual-in_err-put_text-2.result c.from_residual-in_err-put_text-2.ensures.0 (Keeps-more _ _ _ _ c.in_ok-put_int.ensures (Keeps-more _ _ _ _ c.in_ok-put_text.ensures (Keeps-more _ _ _ _ c.in_ok-put_spaced_name.ensures c.in_err-put_text-2.ensures)))

pub returns-in_err-put_con : goal.returns-in_err-put_con
returns-in_err-put_con c =
    Puts-kept c.args.out.now.items _ _ c.from_residual-in_err-put_con.result c.from_residual-in_err-put_con.ensures.0 (Keeps-more _ _ _ _ c.in_ok-put_int.ensures (Keeps-more _ _ _ _ c.in_ok-put_text.ensures (Keeps-more _ _ _ _ c.in_ok-put_spaced_name.ensures (Keeps-more _ _ _ _ c.in_ok-put_text-2.ensures c.in_err-put_con.ensures))))
