use Rattle.std.proofs.Common.{rules, ◌++◌, ◌∙◌, ap, codes}
use Rattle.palm_book.specs.Book.{name_of}
use Rattle.palm_lang.proofs.PrintLemmas.{Puts-failed, mapped_more}
use Rattle.palm_lang.proofs.print.lists.put_vars.Goals as goal

pub returns-in_err-put_spaced_name : goal.returns-in_err-put_spaced_name
returns-in_err-put_spaced_name c =
    Puts-failed c.args.out.now.items c.loop-var.out.items c.put_spaced_name.new.out.items _ _ c.from_residual.result c.from_residual.ensures.0 c.loop-var.invariant c.in_err-put_spaced_name.ensures

pub loop-var-preserved : goal.loop-var-preserved
loop-var-preserved c =
    mapped_more (λ w. codes " " ++ w) (name_of c.args.book.now.variables) _ _ _ c.args.vars.now c.loop-var.var-index c.var-item.result (search rules) (search rules) c.loop-var.invariant (c.in_ok-put_spaced_name.ensures ∙ ap (λ name. c.loop-var.out.items ++ (codes " " ++ name)) c.variable_name.ensures)
