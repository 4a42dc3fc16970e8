use Rattle.std.proofs.Common.{◌++◌, [], append_assoc, codes, ap, refl}
use Rattle.std.proofs.lemmas.List.{append-nil}
use Rattle.palm_read.specs.Interval.{values_text}
use Rattle.palm_lang.proofs.PrintLemmas.{Keeps-more, Puts-kept, Puts-more}
use Rattle.palm_lang.proofs.print.replies.put_var.Goals as goal

pub returns-in_err-put_spaced_name : goal.returns-in_err-put_spaced_name
returns-in_err-put_spaced_name c =
    Puts-kept c.args.out.now.items _ _ c.from_residual-in_err-put_spaced_name.result c.from_residual-in_err-put_spaced_name.ensures.0 (Keeps-more _ _ _ _ c.in_ok-put_text.ensures c.in_err-put_spaced_name.ensures)

pub returns-in_err-put_text-2 : goal.returns-in_err-put_text-2
returns-in_err-put_text-2 c =
    Puts-kept c.args.out.now.items _ _ c.from_residual-in_err-put_text-2.result c.from_residual-in_err-put_text-2.ensures.0 (Keeps-more _ _ _ _ c.in_ok-put_text.ensures (Keeps-more _ _ _ _ c.in_ok-put_spaced_name.ensures c.in_err-put_text-2.ensures))

pub returns-in_err-put_values : goal.returns-in_err-put_values
returns-in_err-put_values c =
    Puts-kept c.args.out.now.items _ _ c.from_residual-in_err-put_values.result c.from_residual-in_err-put_values.ensures.0 (Keeps-more _ _ _ _ c.in_ok-put_text.ensures (Keeps-more _ _ _ _ c.in_ok-put_spaced_name.ensures (Keeps-more _ _ _ _ c.in_ok-put_text-2.ensures c.in_err-put_values.ensures)))

pub returns : goal.returns
returns c =
    let values = values_text c.args.values.now in
    Puts-more c.args.out.now.items c.put_text.new.out.items c.put_text-3.new.out.items _ _ _ c.put_text-3.result c.in_ok-put_text.ensures refl
    (Puts-more c.put_text.new.out.items c.put_spaced_name.new.out.items c.put_text-3.new.out.items _ _ _ c.put_text-3.result c.in_ok-put_spaced_name.ensures (append_assoc (codes " " ++ c.args.name.now) (codes " " ++ (values ++ [])) (codes "\n"))
    (Puts-more c.put_spaced_name.new.out.items c.put_text-2.new.out.items c.put_text-3.new.out.items _ _ _ c.put_text-3.result c.in_ok-put_text-2.ensures refl
    (Puts-more c.put_text-2.new.out.items c.put_values.new.out.items c.put_text-3.new.out.items _ _ _ c.put_text-3.result c.in_ok-put_values.ensures (ap (λ t. t ++ codes "\n") (append-nil values)) c.put_text-3.ensures)))
