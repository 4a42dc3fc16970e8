use Rattle.std.proofs.Common.{◌∙◌, length, inr, sym, ap}
use Rattle.palm_explain.specs.Rows.{number_in}
use Rattle.palm_explain.specs.declared.rows.TheConstants.{NO_NUMBER}
use Rattle.palm_explain.proofs.RowNumbers.{number_blank}
use Rattle.palm_explain.proofs.rows.Row.declare.Goals as goal

pub returns-clause-only : goal.returns-clause-only
returns-clause-only c v k is =
    inr (number_blank c.in_ok-self.field-0.items (length c.args.values.now) NO_NUMBER v k (ap (λ ks. number_in c.in_ok-self.field-0.items ks v) (sym (c.in_ok-numbers.ensures.items_if_clones_equal (λ y same. same))) ∙ is))
