use Rattle.std.proofs.Common.{rules, ◌++◌, codes}
use Rattle.palm_read.specs.Words.{row_text}
use Rattle.palm_lang.proofs.PrintLemmas.{Puts-failed, mapped_more}
use Rattle.palm_lang.proofs.print.lists.put_rows.Goals as goal

pub returns-in_err-put_spaced_row : goal.returns-in_err-put_spaced_row
returns-in_err-put_spaced_row c =
    Puts-failed c.args.out.now.items c.loop-row.out.items c.put_spaced_row.new.out.items _ _ c.from_residual.result c.from_residual.ensures.0 c.loop-row.invariant c.in_err-put_spaced_row.ensures

pub loop-row-preserved : goal.loop-row-preserved
loop-row-preserved c =
    mapped_more (λ w. codes " " ++ w) (row_text) _ _ _ c.args.rows.now c.loop-row.row-index c.row-item.result (search rules) (search rules) c.loop-row.invariant c.in_ok-put_spaced_row.ensures
