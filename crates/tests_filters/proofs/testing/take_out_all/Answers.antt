use Rattle.std.proofs.Common.{◌≡◌, ◌∙◌, ◌<◌, ℕ, List, ◌∷◌, [], zero, suc, length, get_or, subst, arith}
use Rattle.std.specs.List.{AllWithin}
use Rattle.std.proofs.lemmas.List.Elements.{AllWithin-more}
use Rattle.palm_base.specs.declared.terms.Pair.{Pair}
use Rattle.palm_domain.specs.Rows.{IsPresent}
use Rattle.tests_filters.proofs.testing.take_out_all.Goals as goal

at_any : (pairs : List Pair) (i : ℕ) (p q : Pair) → i < length pairs → p ≡ get_or pairs i p → p ≡ get_or pairs i q
at_any [] i p q lt at = absurd (omega arith)
at_any (r ∷ rs) zero p q lt at = at
at_any (r ∷ rs) (suc i) p q lt at = at_any rs i p q (omega arith) at

pub loop-pair-preserved : goal.loop-pair-preserved
loop-pair-preserved c =
    let pairs = c.args.pairs.now in
    let at = c.loop-pair.pair-index in
    let store = c.take_out_if_present.new.store in
    let gone : AllWithin (λ p. IsPresent store p.var p.value → ⊥) pairs 0 at
    = λ k d low high there. c.loop-pair.invariant.1 k d low high (c.take_out_if_present.ensures.fewer _ _ there) in (
      c.take_out_if_present.ensures.variables ∙ c.loop-pair.invariant.0,
      AllWithin-more (λ p. IsPresent store p.var p.value → ⊥) pairs 0 at gone
          (λ d. subst (λ p. IsPresent store p.var p.value → ⊥) (at_any pairs at c.pair-item.result d c.loop-pair-test.true c.pair-item.is) c.take_out_if_present.ensures.gone),
    )

pub returns-clause-gone : goal.returns-clause-gone
returns-clause-gone c = λ k d within there. c.loop-pair.invariant.1 k d (omega arith) (omega (arith, c.loop-pair-test.false, within)) there
