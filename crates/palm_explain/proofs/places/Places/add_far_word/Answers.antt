use Rattle.std.proofs.Common.{◌≡◌, ◌<◌, List, length, get_or, nat_lt, ◌⊎◌, inl, inr, sym, subst}
use Rattle.palm_base.specs.Order.{IsPartedAt}
use Rattle.palm_explain.specs.declared.places.PlaceWord.{PlaceWord}
use Rattle.palm_explain.specs.Places.{ArePlaceWords, HasPlace, IsGapAt, IsIn}
use Rattle.palm_explain.proofs.PlaceSets.{insert_formed, insert_only, insert_stay, insert_there, set_formed, set_only, set_stay, set_there}
use Rattle.palm_explain.proofs.places.Places.add_far_word.Goals as goal
use Rattle.palm_explain.proofs.places.Places.add_far_word.Goals.{After-join_bits, In_ok-insert}

none : PlaceWord
none = record { start = 0; bits = 0 }

-- a word with these places stands there
within : (c : After-join_bits) → c.index_by_halves-at.result < length c.self.inside.words.items
within c = subst (λ (ws : List PlaceWord). c.index_by_halves-at.result < length ws) c.deref-2.ensures.value c.if-starts_at.ensures.0

starts : (c : After-join_bits) (d : PlaceWord) → (get_or c.self.inside.words.items c.index_by_halves-at.result d).start ≡ c.args.word.now.start
starts c d = subst (λ (ws : List PlaceWord). (get_or ws c.index_by_halves-at.result d).start ≡ c.args.word.now.start) c.deref-2.ensures.value (c.if-starts_at.ensures.1 d)

pub invariant_of-self : goal.invariant_of-self
invariant_of-self c = subst ArePlaceWords (sym (c.join_bits.ensures none)) (set_formed c.self.inside.words.items c.self.invariant c.index_by_halves-at.result c.args.word.now (within c) (starts c) none)

pub returns-then-starts_at-clause-there : goal.returns-then-starts_at-clause-there
returns-then-starts_at-clause-there c p is =
    subst (λ (ws : List PlaceWord). HasPlace ws p) (sym (c.join_bits.ensures none)) (set_there c.self.inside.words.items c.self.invariant c.index_by_halves-at.result c.args.word.now (within c) (starts c) none p is)

pub returns-then-starts_at-clause-stay : goal.returns-then-starts_at-clause-stay
returns-then-starts_at-clause-stay c p h =
    subst (λ (ws : List PlaceWord). HasPlace ws p) (sym (c.join_bits.ensures none))
    (set_stay c.self.inside.words.items c.self.invariant c.index_by_halves-at.result c.args.word.now (within c) (starts c) none p (subst (λ (ws : List PlaceWord). HasPlace ws p) (sym c.self.view_is) h))

pub returns-then-starts_at-clause-only : goal.returns-then-starts_at-clause-only
returns-then-starts_at-clause-only c p h =
    subst (λ (ws : List PlaceWord). HasPlace ws p ⊎ IsIn c.args.word.now p) c.self.view_is
    (set_only c.self.inside.words.items c.self.invariant c.index_by_halves-at.result c.args.word.now (within c) (starts c) none p (subst (λ (ws : List PlaceWord). HasPlace ws p) (c.join_bits.ensures none) h))

-- words of no place are put in
pub reach-requires : goal.reach-requires
reach-requires c = record {
  formed = c.self.invariant;
  aligned = c.requires;
  parted = subst (λ (ws : List PlaceWord). IsPartedAt (λ w. nat_lt c.args.word.now.start w.start) ws c.index_by_halves-at.result) c.deref.ensures.value c.index_by_halves-at.ensures;
  apart = subst (λ (ws : List PlaceWord). c.index_by_halves-at.result < length ws → ((d : PlaceWord) → (get_or ws c.index_by_halves-at.result d).start ≡ c.args.word.now.start) → ⊥) c.deref-2.ensures.value
      (λ lt same. c.if-starts_at.ensures (lt, same));
}

pub returns-in_err-gap-clause-stay : goal.returns-in_err-gap-clause-stay
returns-in_err-gap-clause-stay c p h = (c.reach.ensures.same.places p).1 (subst (λ (ws : List PlaceWord). HasPlace ws p) (sym c.self.view_is) h)

pub returns-in_err-gap-clause-only : goal.returns-in_err-gap-clause-only
returns-in_err-gap-clause-only c p h = inl (subst (λ (ws : List PlaceWord). HasPlace ws p) c.self.view_is ((c.reach.ensures.same.places p).0 h))

pub returns-in_err-insert-clause-stay : goal.returns-in_err-insert-clause-stay
returns-in_err-insert-clause-stay c p h =
    subst (λ (ws : List PlaceWord). HasPlace ws p) (sym c.in_err-insert.ensures.items) ((c.reach.ensures.same.places p).1 (subst (λ (ws : List PlaceWord). HasPlace ws p) (sym c.self.view_is) h))

pub returns-in_err-insert-clause-only : goal.returns-in_err-insert-clause-only
returns-in_err-insert-clause-only c p h =
    inl (subst (λ (ws : List PlaceWord). HasPlace ws p) c.self.view_is ((c.reach.ensures.same.places p).0 (subst (λ (ws : List PlaceWord). HasPlace ws p) c.in_err-insert.ensures.items h)))

-- the word is put in
gap : (c : In_ok-insert) → IsGapAt c.reach.new.words.items c.args.word.now.start c.in_ok-gap.gap
gap c = c.in_ok-gap.ensures.gap

pub invariant_of-self-2 : goal.invariant_of-self-2
invariant_of-self-2 c = let g = gap c in subst ArePlaceWords (sym c.in_ok-insert.ensures.items) (insert_formed c.reach.new.words.items g.formed c.in_ok-gap.gap c.args.word.now c.requires g.parted g.apart)

pub returns-clause-there : goal.returns-clause-there
returns-clause-there c p is =
    let g = gap c in
    subst (λ (ws : List PlaceWord). HasPlace ws p) (sym c.in_ok-insert.ensures.items) (insert_there c.reach.new.words.items g.formed c.in_ok-gap.gap c.args.word.now c.requires g.parted g.apart p is)

pub returns-clause-stay : goal.returns-clause-stay
returns-clause-stay c p h =
    let g = gap c in
    subst (λ (ws : List PlaceWord). HasPlace ws p) (sym c.in_ok-insert.ensures.items)
    (insert_stay c.reach.new.words.items g.formed c.in_ok-gap.gap c.args.word.now c.requires g.parted g.apart p
    ((c.reach.ensures.same.places p).1 (subst (λ (ws : List PlaceWord). HasPlace ws p) (sym c.self.view_is) h)))

pub returns-clause-only : goal.returns-clause-only
returns-clause-only c p h =
    let g = gap c in
    elim (insert_only c.reach.new.words.items g.formed c.in_ok-gap.gap c.args.word.now c.requires g.parted g.apart p (subst (λ (ws : List PlaceWord). HasPlace ws p) c.in_ok-insert.ensures.items h)) [
      | inl o ↦ inl (subst (λ (ws : List PlaceWord). HasPlace ws p) c.self.view_is ((c.reach.ensures.same.places p).0 o))
      | inr is ↦ inr is
    ]
