use Rattle.std.proofs.Common.{◌∙◌, List, get_or, subst, sym}
use Rattle.std.proofs.lemmas.List.{get_or_default}
use Rattle.palm_explain.specs.declared.places.PlaceWord.{PlaceWord}
use Rattle.palm_explain.specs.Places.{ArePlaceWords, IsLastBelow}
use Rattle.palm_explain.proofs.PlaceSets.{last_found}
use Rattle.palm_explain.proofs.places.Places.last_below.Goals as goal

pub returns-in-Some-clause-some : goal.returns-in-Some-clause-some
returns-in-Some-clause-some c =
    let words = c.as_slice-words.result.now in
    let index = c.loop-index.index in
    let same = c.as_slice-words.ensures.value in
    let lt = c.loop-index-test.true in
    let word : PlaceWord = get_or words index (record { start = 0; bits = 0 }) in
    subst (λ (ws : List PlaceWord). IsLastBelow ws c.args.end c.in-Some.place) (same ∙ c.self.view_is)
    (last_found words (subst ArePlaceWords (sym same) c.self.invariant) c.args.end index c.in-Some.place word lt (get_or_default words index (record { start = 0; bits = 0 }) word lt) c.loop-index.invariant (c.in-Some.ensures.some))
