use Rattle.std.proofs.Common.{rules, ◌++◌, codes}
use Rattle.std.specs.Fmt.{signed_decimal}
use Rattle.palm_lang.proofs.PrintLemmas.{Puts-failed, texts_more}
use Rattle.palm_lang.proofs.print.lists.put_further_values.Goals as goal

pub returns-in_err-put_further_value : goal.returns-in_err-put_further_value
returns-in_err-put_further_value c =
    Puts-failed c.args.out.now.items c.loop-value.out.items c.put_further_value.new.out.items _ _ c.from_residual.result c.from_residual.ensures.0 c.loop-value.invariant c.in_err-put_further_value.ensures

pub loop-value-preserved : goal.loop-value-preserved
loop-value-preserved c =
    texts_more (λ v. codes "," ++ signed_decimal v) _ _ _ c.args.values.now c.loop-value.value-index c.value-item.result (search rules) (search rules) c.loop-value.invariant c.in_ok-put_further_value.ensures
