use Rattle.std.proofs.Common.{rules, ◌++◌, codes}
use Rattle.palm_lang.proofs.PrintLemmas.{Puts-failed, texts_more}
use Rattle.palm_lang.proofs.print.lists.put_names.Goals as goal

pub returns-in_err-put_spaced_name : goal.returns-in_err-put_spaced_name
returns-in_err-put_spaced_name c =
    Puts-failed c.args.out.now.items c.loop-name.out.items c.put_spaced_name.new.out.items _ _ c.from_residual.result c.from_residual.ensures.0 c.loop-name.invariant c.in_err-put_spaced_name.ensures

pub loop-name-preserved : goal.loop-name-preserved
loop-name-preserved c =
    texts_more (λ w. codes " " ++ w) _ _ _ c.args.names.now c.loop-name.name-index c.name-item.result (search rules) (search rules) c.loop-name.invariant c.in_ok-put_spaced_name.ensures
