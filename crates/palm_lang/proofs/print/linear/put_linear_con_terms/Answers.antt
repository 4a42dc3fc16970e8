use Rattle.std.proofs.Common.{◌≡◌, ◌++◌, codes, map, flat_map, take, drop, length, ◌-◌, subst, List, ℕ}
use Rattle.palm_book.specs.Book.{name_of}
use Rattle.palm_book.specs.Named.{named_term}
use Rattle.palm_read.specs.Linear.{linear_terms_words, linear_first_text, linear_later_words}
use Rattle.palm_read.specs.Words.{after_spaces}
use Rattle.palm_lang.proofs.PrintLemmas.{Puts-more, linear_con_text}
use Rattle.palm_lang.proofs.print.linear.put_linear_con_terms.Goals as goal

pub returns-in_ok-put_linear_first_term-in-len1-up : goal.returns-in_ok-put_linear_first_term-in-len1-up
returns-in_ok-put_linear_first_term-in-len1-up c =
    let terms = c.args.terms.now in
    let first = c.first-item.result in
    let variables = c.args.book.now.variables in
    let name : c.variable_name.result.now ≡ name_of variables first.var = c.variable_name.ensures in
    let start = subst (λ (n : List ℕ). c.put_linear_first_term.new.out.items ≡ c.args.out.now.items ++ (codes " " ++ linear_first_text first.factor n)) name c.in_ok-put_linear_first_term-in-len1-up.ensures in
    Puts-more c.args.out.now.items c.put_linear_first_term.new.out.items c.put_linear_con_later_terms.new.out.items (codes " " ++ linear_first_text first.factor (name_of variables first.var)) (flat_map (λ t. after_spaces (linear_later_words t.factor (name_of variables t.var))) (take (length terms - 1) (drop 1 terms))) (after_spaces (linear_terms_words (map (named_term variables) terms))) c.put_linear_con_later_terms.result start (linear_con_text variables terms first c.in-len1-up.len_at_least c.first-item.is) c.put_linear_con_later_terms.ensures
