use Rattle.std.proofs.Common.{◌≡◌, ◌<◌, ◌-◌, ◌%◌, List, length, get_or, nat_lt, subst}
use Rattle.std.specs.Int.{bit_at}
use Rattle.palm_base.specs.Order.{IsPartedAt}
use Rattle.palm_base.specs.Tells.{Tells}
use Rattle.palm_explain.specs.Places.{HasPlace}
use Rattle.palm_explain.specs.declared.places.PlaceWord.{PlaceWord}
use Rattle.palm_explain.proofs.PlaceSets.{tells_away, tells_there}
use Rattle.palm_explain.proofs.places.Places.has.Goals as goal

pub returns-then-starts_at : goal.returns-then-starts_at
returns-then-starts_at c =
    let words : List PlaceWord = c.self.inside.words.items in
    let place = c.args.place in
    let at = c.index_near-at.result in
    subst (λ (ws : List PlaceWord). Tells c.has_bit.result (HasPlace ws place)) c.self.view_is
    (tells_there words c.self.invariant at place
    (subst (λ (ws : List PlaceWord). IsPartedAt (λ w. nat_lt (place - place % 64) w.start) ws at) c.deref.ensures.value c.index_near-at.ensures)
    (subst (λ (ws : List PlaceWord). (at < length ws) × ((d : PlaceWord) → (get_or ws at d).start ≡ place - place % 64)) c.deref-2.ensures.value c.if-starts_at.ensures)
    c.has_bit.result
    (subst (λ (ws : List PlaceWord). Tells c.has_bit.result ((d : PlaceWord) → bit_at (get_or ws at d).bits (place % 64) ≡ 1)) c.deref-then-starts_at.ensures.value c.has_bit.ensures))

pub returns-else-starts_at : goal.returns-else-starts_at
returns-else-starts_at c =
    let words : List PlaceWord = c.self.inside.words.items in
    let place = c.args.place in
    let at = c.index_near-at.result in
    subst (λ (ws : List PlaceWord). Tells c.starts_at.result (HasPlace ws place)) c.self.view_is
    (tells_away words c.self.invariant at place
    (subst (λ (ws : List PlaceWord). IsPartedAt (λ w. nat_lt (place - place % 64) w.start) ws at) c.deref.ensures.value c.index_near-at.ensures)
    c.starts_at.result
    (subst (λ (ws : List PlaceWord). Tells c.starts_at.result ((at < length ws) × ((d : PlaceWord) → (get_or ws at d).start ≡ place - place % 64))) c.deref-2.ensures.value c.starts_at.ensures) c.if-starts_at.false)
