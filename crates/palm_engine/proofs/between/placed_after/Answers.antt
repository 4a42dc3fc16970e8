use Rattle.std.proofs.Common.{◌<ℤ◌, ◌+ℤ◌, pos, ℤ, MatchOption, arith, sym, ◌∙◌, subst}
use Rattle.std.proofs.lemmas.Int.{ints}
use Rattle.palm_domain.specs.declared.placed.Placed.{Placed}
use Rattle.palm_domain.specs.Rows.{IsNextFrom, IsPresent, present_values}
use Rattle.palm_domain.proofs.cited.Comparisons.{le_from_is_le}
use Rattle.palm_engine.proofs.between.placed_after.Goals as goal

pub returns-in_err-placed-clause-next : goal.returns-in_err-placed-clause-next
returns-in_err-placed-clause-next c =
    subst (λ o. MatchOption o ((w : ℤ) → IsPresent c.args.store.now c.args.var w → w <ℤ (c.args.value +ℤ pos 1)) (λ (p : Placed). IsNextFrom (present_values c.args.store.now c.args.var) (c.args.value +ℤ pos 1) p.value)) (sym c.from_residual.ensures)
    (λ w has. let lt = c.in_err-placed.ensures.next w has in omega (arith, ints, lt))

pub returns-then-le-clause-next : goal.returns-then-le-clause-next
returns-then-le-clause-next c = λ w has.
    let le = le_from_is_le c.greatest.result c.args.value (sym c.if-le.true ∙ c.le.ensures) in
    let most = c.greatest.ensures.greatest w has in
    omega (arith, ints, le, most)
