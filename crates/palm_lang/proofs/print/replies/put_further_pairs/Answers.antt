use Rattle.std.proofs.Common.{rules, ◌++◌, codes}
use Rattle.palm_lang.specs.Reply.{pair_text}
use Rattle.palm_lang.proofs.PrintLemmas.{Puts-failed, texts_more}
use Rattle.palm_lang.proofs.print.replies.put_further_pairs.Goals as goal

pub returns-in_err-put_further_pair : goal.returns-in_err-put_further_pair
returns-in_err-put_further_pair c =
    Puts-failed c.args.out.now.items c.loop-pair.out.items c.put_further_pair.new.out.items _ _ c.from_residual.result c.from_residual.ensures.0 c.loop-pair.invariant c.in_err-put_further_pair.ensures

pub loop-pair-preserved : goal.loop-pair-preserved
loop-pair-preserved c =
    texts_more (λ p. codes ", " ++ pair_text c.args.book.now.variables p) _ _ _ c.args.pairs.now c.loop-pair.pair-index c.pair-item.result (search rules) (search rules) c.loop-pair.invariant c.in_ok-put_further_pair.ensures
