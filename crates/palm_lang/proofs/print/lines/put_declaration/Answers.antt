use Rattle.std.proofs.Common.{◌++◌, codes, ap, refl}
use Rattle.std.proofs.lemmas.List.{append-nil}
use Rattle.palm_read.specs.Domain.{domain_text}
use Rattle.palm_lang.proofs.PrintLemmas.{Keeps-more, Puts-kept, Puts-more}
use Rattle.palm_lang.proofs.print.lines.put_declaration.Goals as goal

pub returns-in_err-put_spaced_name : goal.returns-in_err-put_spaced_name
returns-in_err-put_spaced_name c =
    Puts-kept c.args.out.now.items _ _ c.from_residual-in_err-put_spaced_name.result c.from_residual-in_err-put_spaced_name.ensures.0 (Keeps-more _ _ _ _ c.in_ok-put_text.ensures c.in_err-put_spaced_name.ensures)

pub returns-in_err-put_text-2 : goal.returns-in_err-put_text-2
returns-in_err-put_text-2 c =
    Puts-kept c.args.out.now.items _ _ c.from_residual-in_err-put_text-2.result c.from_residual-in_err-put_text-2.ensures.0 (Keeps-more _ _ _ _ c.in_ok-put_text.ensures (Keeps-more _ _ _ _ c.in_ok-put_spaced_name.ensures c.in_err-put_text-2.ensures))

pub returns : goal.returns
returns c =
    Puts-more c.args.out.now.items c.put_text.new.out.items c.put_domain.new.out.items _ _ _ c.put_domain.result c.in_ok-put_text.ensures refl
    (Puts-more c.put_text.new.out.items c.put_spaced_name.new.out.items c.put_domain.new.out.items _ _ _ c.put_domain.result c.in_ok-put_spaced_name.ensures refl
    (Puts-more c.put_spaced_name.new.out.items c.put_text-2.new.out.items c.put_domain.new.out.items _ _ _ c.put_domain.result c.in_ok-put_text-2.ensures (ap (λ t. codes " " ++ t) (append-nil (domain_text c.args.domain.now))) c.put_domain.ensures))
