use Rattle.std.proofs.Common.{◌∙◌, ◌∷◌, ◌++◌, [], take, sym, ap, subst}
use Rattle.palm_base.specs.declared.terms.Pair.{Pair}
use Rattle.palm_explain.specs.Entries.{pairs_with}
use Rattle.palm_explain.specs.Needed.{HasNoted}
use Rattle.palm_explain.proofs.NeededPlaces.{noted_absent, noted_both, noted_one, number_none, number_unset, pairs_more}
use Rattle.palm_explain.proofs.needing.note_values.Goals as goal
use Rattle.palm_explain.proofs.needing.note_values.Goals.{in-Some+then-number+in_ok-add, in-Some+else-number, in_default}

pub loop-value-preserved : goal.loop-value-preserved
loop-value-preserved c =
    let rows = c.args.rows.now in
    let x = c.args.var in
    let values = c.args.values.now in
    let i = c.loop-value.value-index in
    let v = c.value-item.result in
    let p : Pair = record { var = x; value = v } in
    let middle = c.loop-value.noted in
    let one : HasNoted rows middle c.match-number_near.noted (p ∷ []) = elim c.match-number_near.branch [
      | in-Some+then-number+in_ok-add w ↦
          subst (λ ws. HasNoted rows middle ws (p ∷ [])) (sym w.noted-is)
          (noted_one rows middle w.add.new.self p w.in-Some.number
          (record { stands = sym w.in-Some.ensures; removed = w.if-number.true })
          w.in_ok-add.ensures.there w.in_ok-add.ensures.stay w.in_ok-add.ensures.only)
      | in-Some+else-number w ↦
          subst (λ ws. HasNoted rows middle ws (p ∷ [])) (sym w.noted-is) (noted_absent rows middle p (number_unset rows p w.in-Some.number (sym w.in-Some.ensures) w.if-number.false))
      | in_default w ↦
          subst (λ ws. HasNoted rows middle ws (p ∷ [])) (sym w.noted-is) (noted_absent rows middle p (number_none rows p (sym c.number_near.ensures ∙ w.in_default.is)))
    ] in
    subst (HasNoted rows c.args.noted.now c.match-number_near.noted)
    (sym (pairs_more x values i v c.loop-value-test.true ∙ ap (λ w. pairs_with x (take i values) ++ record { var = x; value = w } ∷ []) (sym c.value-item.is)))
    (noted_both rows c.args.noted.now middle c.match-number_near.noted (pairs_with x (take i values)) (p ∷ []) c.loop-value.invariant one)
