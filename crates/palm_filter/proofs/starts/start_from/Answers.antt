use Rattle.std.proofs.Common.{◌≡◌, ℕ, ℤ, pos, ◌+ℤ◌, ◌+◌, ◌<◌, ◌≤◌, ◌<ℤ◌, ◌≤ℤ◌, List, length, get_or, inl, inr, subst, sym, ap, ◌∙◌, arith}
use Rattle.std.proofs.lemmas.Bool.{cases_lt}
use Rattle.std.proofs.lemmas.Int.{ints}
use Rattle.std.proofs.lemmas.List.{get_or_default}
use Rattle.std.proofs.lemmas.List.Elements.{Contains-get_or}
use Rattle.palm_filter.specs.Index.{IsIndex, IsLeast, IsStart, value_at}
use Rattle.palm_filter.proofs.Started.{start_stops}
use Rattle.palm_filter.proofs.starts.start_from.Goals as goal

-- what the distance of the value at a place tells of it
module _ (values : List ℤ) (places : List ℕ) (index : IsIndex values places) (least : ℤ) (low : IsLeast values least) (distance next : ℕ) (inside : next < length places) (value : ℤ) (far : ℕ) (there : value ≡ value_at values (get_or places next 0)) (is : least ≤ℤ value → value ≡ least +ℤ pos far) where
  value_is : (d : ℕ) → value_at values (get_or places next d) ≡ least +ℤ pos far
  value_is d =
      let same = ap (value_at values) (get_or_default places next d 0 inside) in
      let above = low.each (get_or places next 0) (index.within (get_or places next 0) (Contains-get_or places next 0 inside)) in
      same ∙ sym there ∙ is (omega (arith, ints, above, there))

  stops : distance ≤ far → ((i d : ℕ) → i < next → value_at values (get_or places i d) <ℤ (least +ℤ pos distance)) → IsStart values places (least +ℤ pos distance) next
  stops le before = start_stops values places index (least +ℤ pos distance) next 0 inside before (omega (arith, ints, value_is 0))

  more : far < distance → ((i d : ℕ) → i < next → value_at values (get_or places i d) <ℤ (least +ℤ pos distance)) → (i d : ℕ) → i < next + 1 → value_at values (get_or places i d) <ℤ (least +ℤ pos distance)
  more lt before i d low_i = elim (cases_lt i next) [
    | inl l ↦ before i d l
    | inr ge ↦
        let e : next ≡ i = omega arith in
        subst (λ k. value_at values (get_or places k d) <ℤ (least +ℤ pos distance)) e (omega (arith, ints, value_is d))
  ]

pub returns-then-distance_between-distance : goal.returns-then-distance_between-distance
returns-then-distance_between-distance c =
    stops c.args.values.now c.args.places.now c.requires.index c.args.least.now c.requires.least c.args.distance c.loop-next.next (omega arith) c.value_at.result c.distance_between.result c.value_at.ensures c.distance_between.ensures.distance (omega arith) c.loop-next.invariant.before

pub loop-next-preserved : goal.loop-next-preserved
loop-next-preserved c = record {
  within = omega arith;
  before = more c.args.values.now c.args.places.now c.requires.index c.args.least.now c.requires.least c.args.distance c.loop-next.next (omega arith) c.value_at.result c.distance_between.result c.value_at.ensures c.distance_between.ensures.distance (omega arith) c.loop-next.invariant.before;
}
