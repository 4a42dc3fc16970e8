use Rattle.std.proofs.Common.{◌++◌, List, ℤ, filter, ap, ◌∙◌}
use Rattle.std.proofs.lemmas.List.{take_all}
use Rattle.palm_domain.specs.Rows.{initial_of}
use Rattle.palm_model.specs.Domains.{values_of}
use Rattle.palm_model.specs.Removed.{is_listed, pairs_of}
use Rattle.palm_model.proofs.cited.Ascending.{ascends_at}
use Rattle.filter_element.proofs.Elements.{index_left_out, index_pushed, indices_at, indices_there, many_indices, place_few}
use Rattle.filter_element.proofs.rule.ElementRule.push_indices.Goals as goal
use Rattle.filter_element.proofs.rule.ElementRule.push_indices.Goals.{then-declared+in_ok-push, else-declared}

pub index_at-requires : goal.index_at-requires
index_at-requires c =
    place_few c.args.self.now.entries c.args.outcome.now c.places-places.result.now c.places-places.ensures.stands c.loop-place.place-index c.loop-place-test.true c.requires.few

pub index_at-requires-then-declared : goal.index_at-requires-then-declared
index_at-requires-then-declared c =
    place_few c.args.self.now.entries c.args.outcome.now c.places-places.result.now c.places-places.ensures.stands c.loop-place.place-index c.loop-place-test.true c.requires.few

pub loop-place-preserved : goal.loop-place-preserved
loop-place-preserved c =
    let initial = initial_of c.args.store.now in
    let e = c.args.self.now in
    let places = c.places-places.result.now in
    elim c.if-declared.branch [
      | then-declared+in_ok-push w ↦
          index_pushed initial e.index places c.loop-place.place-index c.loop-place-test.true c.index_at.result c.index_at.ensures.var c.index_at.ensures.value
          c.args.out.now.items c.loop-place.out.items c.if-declared.out.items c.declared.result c.declared.ensures.tells c.loop-place.invariant
          w.index_at-then-declared.result w.index_at-then-declared.ensures.var w.index_at-then-declared.ensures.value w.if-declared.true
          (ap (λ o. o.items) w.out-is ∙ w.in_ok-push.ensures.ok)
      | else-declared w ↦
          index_left_out initial e.index places c.loop-place.place-index c.loop-place-test.true c.index_at.result c.index_at.ensures.var c.index_at.ensures.value
          c.args.out.now.items c.loop-place.out.items c.if-declared.out.items c.declared.result c.declared.ensures.tells c.loop-place.invariant
          w.if-declared.false (ap (λ o. o.items) w.out-is)
    ]

pub returns : goal.returns
returns c =
    let initial = initial_of c.args.store.now in
    let e = c.args.self.now in
    let places = c.places-places.result.now in
    c.loop-place.invariant
    ∙ ap (λ (ks : List ℤ). c.args.out.now.items ++ pairs_of e.index (filter (is_listed (values_of initial e.index)) ks)) (take_all c.loop-place.place-index (indices_at places) (many_indices places c.loop-place.place-index c.loop-place-test.false))
    ∙ ap (λ (ks : List ℤ). c.args.out.now.items ++ pairs_of e.index ks)
    (indices_there initial e.index e.entries c.args.outcome.now places c.places-places.ensures.stands c.places-places.ensures.every (ascends_at initial e.index c.requires.ascend) c.places-places.ensures.ascending)
