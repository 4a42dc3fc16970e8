use Rattle.std.proofs.Common.{◌≡◌, ℤ, List, Result, Ok, Err, IfOk, sym, subst}
use Rattle.palm_book.specs.Book.{AreValues}
use Rattle.palm_book.proofs.cited.Intervals.{domain_values}
use Rattle.palm_book.proofs.domains.values_in.Goals as goal

fit : {E : Type 0} (values : List ℤ) (r : Result (List ℤ) E) → AreValues values → IfOk r (λ vs. vs ≡ values) → IfOk r AreValues
fit values (Ok vs) are is = subst AreValues (sym is) are
fit values (Err e) are is = tt

pub returns-clause-fit : goal.returns-clause-fit
returns-clause-fit c = fit _ c.written_out.result (domain_values c.args.domain c.requires.sound c.requires.small) c.written_out.ensures
