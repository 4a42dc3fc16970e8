use Rattle.std.proofs.Common.{◌≡◌, ◌∙◌, Some, slice_get, Contains, inl, inr, sym, ap, subst, arith, take_all}
use Rattle.std.proofs.lemmas.Option.{slice_get-get_or}
use Rattle.palm_explain.specs.Rows.{value_number}
use Rattle.palm_explain.proofs.Numbering.{taken_next}
use Rattle.palm_explain.proofs.RowNumbers.{standing_number}
use Rattle.palm_explain.proofs.rows.Row.reach_each.Goals as goal

pub loop-value-preserved : goal.loop-value-preserved
loop-value-preserved c =
    let values = c.args.values.now in
    let count = c.loop-value.value-index in
    let v = c.value-item.result in
    let so_far = c.loop-value.invariant in
    let row = c.place_for.new.self in
    let next : slice_get values count ≡ Some v = slice_get-get_or values count v c.loop-value-test.true ∙ ap Some (sym c.value-item.is) in
    record {
      formed = c.place_for.ensures.formed;
      stay = λ u k is. c.place_for.ensures.stay u k (so_far.stay u k is);
      only = λ u k is. elim (c.place_for.ensures.only u k is) [ inl o ↦ so_far.only u k o | inr n ↦ inr n ];
      there = λ u m. elim (taken_next values count v u next m) [
        | inl o ↦ let k = so_far.there u o in (k.0, c.place_for.ensures.stay u k.0 k.1)
        | inr q ↦ let k = standing_number row v c.in_ok-near.field-0 c.place_for.ensures.formed c.in_ok-near.ensures.found in (k.0, ap (value_number row) (sym q) ∙ k.1)
      ];
    }

pub returns-clause-there : goal.returns-clause-there
returns-clause-there c v m =
    let all = take_all c.loop-value.value-index c.args.values.now (omega (arith, c.loop-value-test.false)) in
    c.loop-value.invariant.there v (subst (λ vs. Contains vs v) (sym all) m)
