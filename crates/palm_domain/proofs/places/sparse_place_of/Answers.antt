use Rattle.std.proofs.Common.{get_or, arith, sym, ◌∙◌, ap}
use Rattle.std.proofs.lemmas.List.{get_or_default}
use Rattle.palm_domain.proofs.cited.Comparisons.{apart_from_int_eq}
use Rattle.palm_domain.proofs.RowMarks.{place_is}
use Rattle.palm_domain.proofs.places.sparse_place_of.Goals as goal
use Rattle.palm_domain.proofs.places.sparse_place_of.Goals.{else-place-values-via-then-place-values+else-eq, else-place-values-via-else-place-values}

pub returns-else-place-values : goal.returns-else-place-values
returns-else-place-values c h =
    let xs = c.args.values.now in
    let v = c.args.value in
    let e = place_is xs c.requires v c.sparse_place_from-place.result c.sparse_place_from-place.ensures h.0 h.1 h.2 in
    elim c.else-place-values.branch [
      | else-place-values-via-then-place-values+else-eq w ↦ apart_from_int_eq _ _ (sym w.if-eq.ensures) (w.index-values-place.is ∙ get_or_default xs _ _ v w.if-place-values.true ∙ ap (λ k. get_or xs k v) e ∙ h.2)
      | else-place-values-via-else-place-values w ↦ omega (arith, h.1)
    ]
