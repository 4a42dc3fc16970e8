use Rattle.std.proofs.Common.{rules, of_calls, arith}
use Rattle.std.proofs.lemmas.Fn.{always_returns_same}
use Rattle.palm_filter.specs.Index.{value_at}
use Rattle.palm_filter.proofs.Indexed.{places_within, places_every, distinct_now, index_from_sort}
use Rattle.palm_filter.proofs.index.sorted_places.Goals as goal

pub loop-place-preserved : goal.loop-place-preserved
loop-place-preserved c = record {
  within = places_within c.loop-place.places.items c.push.new.self.items c.loop-place.place c.loop-place.invariant.within c.in_ok-push.ensures.items;
  every = places_every c.loop-place.places.items c.push.new.self.items c.loop-place.place c.loop-place.invariant.every c.in_ok-push.ensures.items;
  once = distinct_now c.loop-place.places.items c.push.new.self.items c.loop-place.place c.loop-place.invariant.within c.loop-place.invariant.once c.in_ok-push.ensures.items;
}

pub returns : goal.returns
returns c =
    index_from_sort c.args.values.now c.loop-place.places.items c.sort_unstable_by_key.new.self.items c.loop-place.place (omega arith) c.loop-place.invariant.within c.loop-place.invariant.every c.loop-place.invariant.once c.sort_unstable_by_key.ensures.permutation
    (c.sort_unstable_by_key.ensures.sorted (λ k. (value_at c.args.values.now k, k)) (always_returns_same _ _ _ (λ a r f k. search (rules, of_calls))))
