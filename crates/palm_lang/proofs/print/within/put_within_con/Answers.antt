use Rattle.std.proofs.Common.{◌++◌, codes, ap, refl}
use Rattle.std.proofs.lemmas.List.{append-nil}
use Rattle.palm_read.specs.Interval.{values_text}
use Rattle.palm_lang.proofs.PrintLemmas.{Keeps-more, Puts-kept, Puts-more}
use Rattle.palm_lang.proofs.print.within.put_within_con.Goals as goal

pub returns-in_err-put_text : goal.returns-in_err-put_text
returns-in_err-put_text c =
    Puts-kept c.args.out.now.items _ _ c.from_residual-in_err-put_text.result c.from_residual-in_err-put_text.ensures.0 (Keeps-more _ _ _ _ c.in_ok-put_name.ensures c.in_err-put_text.ensures)

pub returns : goal.returns
returns c =
    Puts-more c.args.out.now.items c.put_name.new.out.items c.put_values.new.out.items _ _ _ c.put_values.result c.in_ok-put_name.ensures refl
    (Puts-more c.put_name.new.out.items c.put_text.new.out.items c.put_values.new.out.items _ _ _ c.put_values.result c.in_ok-put_text.ensures (ap (λ t. codes " in " ++ t) (append-nil (values_text c.args.values.now))) c.put_values.ensures)
