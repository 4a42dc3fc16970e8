use Rattle.std.proofs.Common.{refl}
use Rattle.palm_lang.proofs.PrintLemmas.{Keeps-more, Puts-kept, Puts-more, both_put}
use Rattle.palm_lang.proofs.print.replies.put_domain.Goals as goal

pub returns-in_err-put_text : goal.returns-in_err-put_text
returns-in_err-put_text c =
    Puts-kept c.args.out.now.items _ _ c.from_residual-in_err-put_text.result c.from_residual-in_err-put_text.ensures.0 (Keeps-more _ _ _ _ c.in_ok-put_name.ensures c.in_err-put_text.ensures)

pub returns-in_err-put_spaced_values : goal.returns-in_err-put_spaced_values
returns-in_err-put_spaced_values c =
    Puts-kept c.args.out.now.items _ _ c.from_residual-in_err-put_spaced_values.result c.from_residual-in_err-put_spaced_values.ensures.0 (Keeps-more _ _ _ _ c.in_ok-put_name.ensures (Keeps-more _ _ _ _ c.in_ok-put_text.ensures c.in_err-put_spaced_values.ensures))

pub returns : goal.returns
returns c =
    let before = c.args.out.now.items in
    let name = both_put before c.put_name.new.out.items c.put_text.new.out.items _ _ c.in_ok-put_name.ensures c.in_ok-put_text.ensures in
    let with_values = both_put before c.put_text.new.out.items c.put_spaced_values.new.out.items _ _ name c.in_ok-put_spaced_values.ensures in
    Puts-more before c.put_spaced_values.new.out.items c.put_text-2.new.out.items _ _ _ c.put_text-2.result with_values refl c.put_text-2.ensures
