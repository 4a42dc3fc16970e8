use Rattle.std.proofs.Common.{refl}
use Rattle.palm_lang.proofs.PrintLemmas.{Keeps-more, Puts-kept, Puts-more}
use Rattle.palm_lang.proofs.print.comparison.put_compare_var.Goals as goal

pub returns-in_err-put_spaced_op : goal.returns-in_err-put_spaced_op
returns-in_err-put_spaced_op c =
    Puts-kept c.args.out.now.items _ _ c.from_residual-in_err-put_spaced_op.result c.from_residual-in_err-put_spaced_op.ensures.0 (Keeps-more _ _ _ _ c.in_ok-put_name.ensures c.in_err-put_spaced_op.ensures)

pub returns-in_err-put_spaced_name : goal.returns-in_err-put_spaced_name
returns-in_err-put_spaced_name c =
    Puts-kept c.args.out.now.items _ _ c.from_residual-in_err-put_spaced_name.result c.from_residual-in_err-put_spaced_name.ensures.0 (Keeps-more _ _ _ _ c.in_ok-put_name.ensures (Keeps-more _ _ _ _ c.in_ok-put_spaced_op.ensures c.in_err-put_spaced_name.ensures))

pub returns : goal.returns
returns c =
    Puts-more c.args.out.now.items c.put_name.new.out.items c.put_offset.new.out.items _ _ _ c.put_offset.result c.in_ok-put_name.ensures refl
    (Puts-more c.put_name.new.out.items c.put_spaced_op.new.out.items c.put_offset.new.out.items _ _ _ c.put_offset.result c.in_ok-put_spaced_op.ensures refl
    (Puts-more c.put_spaced_op.new.out.items c.put_spaced_name.new.out.items c.put_offset.new.out.items _ _ _ c.put_offset.result c.in_ok-put_spaced_name.ensures refl c.put_offset.ensures))
