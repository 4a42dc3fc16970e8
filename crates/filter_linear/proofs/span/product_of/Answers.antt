use Rattle.std.proofs.Common.{◌∙◌, sym, subst}
use Rattle.palm_model.specs.Limits.{IsUpTo}
use Rattle.palm_model.specs.declared.limits.TheConstants.{GREATEST_PRODUCT}
use Rattle.palm_model.proofs.cited.Sums.{product_read, round_factor, product_up_to}
use Rattle.filter_linear.proofs.span.product_of.Goals as goal

pub returns-clause-small : goal.returns-clause-small
returns-clause-small c =
    let f = c.args.term.now.factor in
    let v = c.args.value.now in
    let e = product_read c.from.result c.number_of.result f v (c.from.ensures ∙ round_factor f c.requires.1) c.number_of.ensures.same c.requires.1 c.number_of.ensures.fits in
    subst (λ z. IsUpTo GREATEST_PRODUCT z) (sym e) (product_up_to f v c.requires.1 c.number_of.ensures.fits)
