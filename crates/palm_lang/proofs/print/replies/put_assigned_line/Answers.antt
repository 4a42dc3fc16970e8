use Rattle.palm_lang.proofs.PrintLemmas.{Keeps-more, Puts-kept}
use Rattle.palm_lang.proofs.print.replies.put_assigned_line.Goals as goal

pub returns-in_err-put_assignment : goal.returns-in_err-put_assignment
returns-in_err-put_assignment c =
    Puts-kept c.args.out.now.items _ _ c.from_residual-in_err-put_assignment.result c.from_residual-in_err-put_assignment.ensures.0 (Keeps-more _ _ _ _ c.in_ok-put_text.ensures c.in_err-put_assignment.ensures)
