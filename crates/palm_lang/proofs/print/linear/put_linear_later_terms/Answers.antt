use Rattle.std.proofs.Common.{rules}
use Rattle.palm_read.specs.Linear.{linear_later_words}
use Rattle.palm_read.specs.Words.{after_spaces}
use Rattle.palm_lang.proofs.PrintLemmas.{Puts-failed, texts_more}
use Rattle.palm_lang.proofs.print.linear.put_linear_later_terms.Goals as goal

pub returns-in_err-put_linear_later_term : goal.returns-in_err-put_linear_later_term
returns-in_err-put_linear_later_term c =
    Puts-failed c.args.out.now.items c.loop-term.out.items c.put_linear_later_term.new.out.items _ _ c.from_residual.result c.from_residual.ensures.0 c.loop-term.invariant c.in_err-put_linear_later_term.ensures

pub loop-term-preserved : goal.loop-term-preserved
loop-term-preserved c =
    texts_more (λ t. after_spaces (linear_later_words t.factor t.name)) _ _ _ c.args.terms.now c.loop-term.term-index c.term-item.result (search rules) (search rules) c.loop-term.invariant c.in_ok-put_linear_later_term.ensures
