use Rattle.palm_lang.proofs.PrintLemmas.{Puts-more, linear_text}
use Rattle.palm_lang.proofs.print.linear.put_linear_terms.Goals as goal

pub returns-in_ok-put_linear_first_term-in-len1-up : goal.returns-in_ok-put_linear_first_term-in-len1-up
returns-in_ok-put_linear_first_term-in-len1-up c = Puts-more _ _ _ _ _ _ _ c.in_ok-put_linear_first_term-in-len1-up.ensures (linear_text c.args.terms.now c.first-item.result c.in-len1-up.len_at_least c.first-item.is) c.put_linear_later_terms.ensures
