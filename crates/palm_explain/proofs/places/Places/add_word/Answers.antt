use Rattle.std.proofs.Common.{◌≡◌, ◌<◌, List, length, get_or, ◌⊎◌, sym, subst}
use Rattle.palm_explain.specs.declared.places.PlaceWord.{PlaceWord}
use Rattle.palm_explain.specs.Places.{ArePlaceWords, HasPlace, IsIn}
use Rattle.palm_explain.proofs.PlaceSets.{set_formed, set_only, set_stay, set_there}
use Rattle.palm_explain.proofs.places.Places.add_word.Goals as goal
use Rattle.palm_explain.proofs.places.Places.add_word.Goals.{After-join_bits}

none : PlaceWord
none = record { start = 0; bits = 0 }

-- a word with these places stands there
within : (c : After-join_bits) → c.guessed-guess.result < length c.self.inside.words.items
within c = subst (λ (ws : List PlaceWord). c.guessed-guess.result < length ws) c.deref-2.ensures.value c.if-starts_at.ensures.0

starts : (c : After-join_bits) (d : PlaceWord) → (get_or c.self.inside.words.items c.guessed-guess.result d).start ≡ c.args.word.now.start
starts c d = subst (λ (ws : List PlaceWord). (get_or ws c.guessed-guess.result d).start ≡ c.args.word.now.start) c.deref-2.ensures.value (c.if-starts_at.ensures.1 d)

pub invariant_of-self : goal.invariant_of-self
invariant_of-self c = subst ArePlaceWords (sym (c.join_bits.ensures none)) (set_formed c.self.inside.words.items c.self.invariant c.guessed-guess.result c.args.word.now (within c) (starts c) none)

pub returns-then-starts_at-clause-there : goal.returns-then-starts_at-clause-there
returns-then-starts_at-clause-there c p is =
    subst (λ (ws : List PlaceWord). HasPlace ws p) (sym (c.join_bits.ensures none)) (set_there c.self.inside.words.items c.self.invariant c.guessed-guess.result c.args.word.now (within c) (starts c) none p is)

pub returns-then-starts_at-clause-stay : goal.returns-then-starts_at-clause-stay
returns-then-starts_at-clause-stay c p h =
    subst (λ (ws : List PlaceWord). HasPlace ws p) (sym (c.join_bits.ensures none))
    (set_stay c.self.inside.words.items c.self.invariant c.guessed-guess.result c.args.word.now (within c) (starts c) none p (subst (λ (ws : List PlaceWord). HasPlace ws p) (sym c.self.view_is) h))

pub returns-then-starts_at-clause-only : goal.returns-then-starts_at-clause-only
returns-then-starts_at-clause-only c p h =
    subst (λ (ws : List PlaceWord). HasPlace ws p ⊎ IsIn c.args.word.now p) c.self.view_is
    (set_only c.self.inside.words.items c.self.invariant c.guessed-guess.result c.args.word.now (within c) (starts c) none p (subst (λ (ws : List PlaceWord). HasPlace ws p) (c.join_bits.ensures none) h))
