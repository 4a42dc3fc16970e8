use Rattle.std.proofs.Common.{◌++◌, ◌∙◌, ap, refl}
use Rattle.palm_lang.proofs.PrintLemmas.{Keeps-more, Puts-kept, Puts-more, both_put}
use Rattle.palm_lang.proofs.print.replies.put_removal.Goals as goal

pub returns-in_err-put_text : goal.returns-in_err-put_text
returns-in_err-put_text c =
    Puts-kept c.args.out.now.items _ _ c.from_residual-in_err-put_text.result c.from_residual-in_err-put_text.ensures.0 (Keeps-more _ _ _ _ c.in_ok-put_pair.ensures c.in_err-put_text.ensures)

pub returns-in_err-put_name : goal.returns-in_err-put_name
returns-in_err-put_name c =
    Puts-kept c.args.out.now.items _ _ c.from_residual-in_err-put_name.result c.from_residual-in_err-put_name.ensures.0 (Keeps-more _ _ _ _ c.in_ok-put_pair.ensures (Keeps-more _ _ _ _ c.in_ok-put_text.ensures c.in_err-put_name.ensures))

pub returns-in_err-put_reasons : goal.returns-in_err-put_reasons
returns-in_err-put_reasons c =
    Puts-kept c.args.out.now.items _ _ c.from_residual-in_err-put_reasons.result c.from_residual-in_err-put_reasons.ensures.0 (Keeps-more _ _ _ _ c.in_ok-put_pair.ensures (Keeps-more _ _ _ _ c.in_ok-put_text.ensures (Keeps-more _ _ _ _ c.in_ok-put_name.ensures c.in_err-put_reasons.ensures)))

pub returns : goal.returns
returns c =
    let before = c.args.out.now.items in
    let name = c.in_ok-put_name.ensures ∙ ap (λ name. c.put_text.new.out.items ++ name) c.constraint_name.ensures in
    let pair_by = both_put before c.put_pair.new.out.items c.put_text.new.out.items _ _ c.in_ok-put_pair.ensures c.in_ok-put_text.ensures in
    let pair_by_name = both_put before c.put_text.new.out.items c.put_name.new.out.items _ _ pair_by name in
    let with_reasons = both_put before c.put_name.new.out.items c.put_reasons.new.out.items _ _ pair_by_name c.in_ok-put_reasons.ensures in
    Puts-more before c.put_reasons.new.out.items c.put_text-2.new.out.items _ _ _ c.put_text-2.result with_reasons refl c.put_text-2.ensures
