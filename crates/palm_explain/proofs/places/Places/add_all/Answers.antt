use Rattle.std.proofs.Common.{◌∙◌, List, get_or, ◌⊎◌, inl, inr, subst}
use Rattle.std.proofs.lemmas.List.{get_or_default, take_all}
use Rattle.palm_explain.specs.Places.{HasPlace}
use Rattle.palm_explain.specs.declared.places.PlaceWord.{PlaceWord}
use Rattle.palm_explain.proofs.PlaceSets.{HasAdded, added_next, added_none, first_added}
use Rattle.palm_explain.proofs.places.Places.add_all.Goals as goal
use Rattle.palm_explain.proofs.places.Places.add_all.Goals.{After-loop-word}

abbrev any : PlaceWord
any = record { start = 0; bits = 0 }

pub loop-word-init : goal.loop-word-init
loop-word-init c = added_none c.args.self.now c.as_slice-word-items.result.now

pub returns-in_err-add_word-clause-stay : goal.returns-in_err-add_word-clause-stay
returns-in_err-add_word-clause-stay c p h = c.in_err-add_word.ensures.stay p (c.loop-word.invariant.stay p h)

pub returns-in_err-add_word-clause-only : goal.returns-in_err-add_word-clause-only
returns-in_err-add_word-clause-only c p h =
    let items = c.as_slice-word-items.result.now in
    let i = c.loop-word.word-index in
    let word : PlaceWord = get_or items i any in
    subst (λ (ws : List PlaceWord). HasPlace c.args.self.now p ⊎ HasPlace ws p) (c.as_slice-word-items.ensures.value ∙ c.other.view_is)
    (elim (c.in_err-add_word.ensures.only p h) [
      | inl m ↦ first_added c.args.self.now items c.loop-word.self i c.loop-word.invariant p m
      | inr is ↦ inr (word, (i, c.loop-word-test.true, get_or_default items i word any c.loop-word-test.true), is)
    ])

pub loop-word-preserved : goal.loop-word-preserved
loop-word-preserved c =
    let items = c.as_slice-word-items.result.now in
    let i = c.loop-word.word-index in
    let word : PlaceWord = get_or items i any in
    added_next c.args.self.now items c.loop-word.self c.add_word.new.self i word c.loop-word-test.true (get_or_default items i any word c.loop-word-test.true) c.loop-word.invariant
    c.in_ok-add_word.ensures.there c.in_ok-add_word.ensures.stay c.in_ok-add_word.ensures.only

added : (c : After-loop-word) → HasAdded c.args.self.now c.args.other.now c.loop-word.self
added c =
    let items = c.as_slice-word-items.result.now in
    subst (λ (ws : List PlaceWord). HasAdded c.args.self.now ws c.loop-word.self) (take_all c.loop-word.word-index items c.loop-word-test.false ∙ c.as_slice-word-items.ensures.value ∙ c.other.view_is) c.loop-word.invariant

pub returns-clause-there : goal.returns-clause-there
returns-clause-there c = (added c).there

pub returns-clause-stay : goal.returns-clause-stay
returns-clause-stay c = (added c).stay

pub returns-clause-only : goal.returns-clause-only
returns-clause-only c = (added c).only
