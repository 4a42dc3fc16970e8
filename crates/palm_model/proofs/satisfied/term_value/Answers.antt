use Rattle.std.proofs.Common.{sym, ◌∙◌, subst}
use Rattle.palm_model.specs.Limits.{IsUpTo}
use Rattle.palm_model.specs.Trial.{listed}
use Rattle.palm_model.proofs.cited.Sums.{product_read, round_factor, product_up_to}
use Rattle.palm_model.proofs.satisfied.term_value.Goals as goal

pub returns-clause-small : goal.returns-clause-small
returns-clause-small c =
    let f = c.args.term.now.factor in
    let v = listed c.args.values.now c.args.term.now.var in
    let e = product_read c.from.result c.number_at.result f v (c.from.ensures ∙ round_factor f c.requires.factor.1) c.number_at.ensures.same c.requires.factor.1 c.number_at.ensures.fits in
    subst (λ z. IsUpTo 214748364800000 z) (sym e) (product_up_to f v c.requires.factor.1 c.number_at.ensures.fits)
