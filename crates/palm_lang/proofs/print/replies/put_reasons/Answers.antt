use Rattle.std.proofs.Common.{refl}
use Rattle.palm_lang.proofs.PrintLemmas.{Keeps-more, Puts-kept, Puts-more, reasons_more}
use Rattle.palm_lang.proofs.print.replies.put_reasons.Goals as goal

pub returns-in_err-put_pair-in-len1-up : goal.returns-in_err-put_pair-in-len1-up
returns-in_err-put_pair-in-len1-up c =
    Puts-kept c.args.out.now.items _ _ c.from_residual-in_err-put_pair-in-len1-up.result c.from_residual-in_err-put_pair-in-len1-up.ensures.0 (Keeps-more _ _ _ _ c.in_ok-put_text-in-len1-up.ensures c.in_err-put_pair-in-len1-up.ensures)

pub returns-in_ok-put_pair-in-len1-up : goal.returns-in_ok-put_pair-in-len1-up
returns-in_ok-put_pair-in-len1-up c =
    Puts-more c.args.out.now.items c.put_text.new.out.items c.put_further_pairs.new.out.items _ _ _ c.put_further_pairs.result c.in_ok-put_text-in-len1-up.ensures (reasons_more c.args.book.now.variables c.args.reasons.now c.first-item.result c.in-len1-up.len_at_least c.first-item.is)
    (Puts-more c.put_text.new.out.items c.put_pair.new.out.items c.put_further_pairs.new.out.items _ _ _ c.put_further_pairs.result c.in_ok-put_pair-in-len1-up.ensures refl c.put_further_pairs.ensures)
