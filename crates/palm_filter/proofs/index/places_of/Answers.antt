use Rattle.std.proofs.Common.{rules, of_calls, int_cmp, is_lt, is_le}
use Rattle.std.proofs.lemmas.Fn.{always_returns_same}
use Rattle.palm_filter.specs.Index.{value_at}
use Rattle.palm_filter.proofs.Indexed.{below_parted, up_to_parted, start_by_halves, next_by_halves, ordered, part_ascends, part_stands, part_every, part_once}
use Rattle.palm_filter.proofs.index.places_of.Goals as goal

pub slice_bounds-result-count : goal.slice_bounds-result-count
slice_bounds-result-count c =
    let values = c.args.values.now in
    let places = c.args.places.now in
    let v = c.args.value.now in
    ordered values places c.requires v c.partition_point-from.result c.partition_point-end.result
    (start_by_halves values places c.requires v c.partition_point-from.result c.partition_point-from.ensures.bound (c.partition_point-from.ensures.partitioned (λ k. is_lt (int_cmp (value_at values k) v)) (always_returns_same _ _ _ (λ a r f k. search (rules, of_calls))) (below_parted values places c.requires v)))
    (next_by_halves values places c.requires v c.partition_point-end.result c.partition_point-end.ensures.bound (c.partition_point-end.ensures.partitioned (λ k. is_le (int_cmp (value_at values k) v)) (always_returns_same _ _ _ (λ a r f k. search (rules, of_calls))) (up_to_parted values places c.requires v)))

pub slice_bounds-result-start : goal.slice_bounds-result-start
slice_bounds-result-start c =
    let values = c.args.values.now in
    let places = c.args.places.now in
    let v = c.args.value.now in
    ordered values places c.requires v c.partition_point-from.result c.partition_point-end.result
    (start_by_halves values places c.requires v c.partition_point-from.result c.partition_point-from.ensures.bound (c.partition_point-from.ensures.partitioned (λ k. is_lt (int_cmp (value_at values k) v)) (always_returns_same _ _ _ (λ a r f k. search (rules, of_calls))) (below_parted values places c.requires v)))
    (next_by_halves values places c.requires v c.partition_point-end.result c.partition_point-end.ensures.bound (c.partition_point-end.ensures.partitioned (λ k. is_le (int_cmp (value_at values k) v)) (always_returns_same _ _ _ (λ a r f k. search (rules, of_calls))) (up_to_parted values places c.requires v)))

pub returns-clause-stands : goal.returns-clause-stands
returns-clause-stands c =
    let values = c.args.values.now in
    let places = c.args.places.now in
    let v = c.args.value.now in
    part_stands values places c.requires v c.partition_point-from.result c.partition_point-end.result
    (start_by_halves values places c.requires v c.partition_point-from.result c.partition_point-from.ensures.bound (c.partition_point-from.ensures.partitioned (λ k. is_lt (int_cmp (value_at values k) v)) (always_returns_same _ _ _ (λ a r f k. search (rules, of_calls))) (below_parted values places c.requires v)))
    (next_by_halves values places c.requires v c.partition_point-end.result c.partition_point-end.ensures.bound (c.partition_point-end.ensures.partitioned (λ k. is_le (int_cmp (value_at values k) v)) (always_returns_same _ _ _ (λ a r f k. search (rules, of_calls))) (up_to_parted values places c.requires v)))

pub returns-clause-every : goal.returns-clause-every
returns-clause-every c =
    let values = c.args.values.now in
    let places = c.args.places.now in
    let v = c.args.value.now in
    part_every values places c.requires v c.partition_point-from.result c.partition_point-end.result
    (start_by_halves values places c.requires v c.partition_point-from.result c.partition_point-from.ensures.bound (c.partition_point-from.ensures.partitioned (λ k. is_lt (int_cmp (value_at values k) v)) (always_returns_same _ _ _ (λ a r f k. search (rules, of_calls))) (below_parted values places c.requires v)))
    (next_by_halves values places c.requires v c.partition_point-end.result c.partition_point-end.ensures.bound (c.partition_point-end.ensures.partitioned (λ k. is_le (int_cmp (value_at values k) v)) (always_returns_same _ _ _ (λ a r f k. search (rules, of_calls))) (up_to_parted values places c.requires v)))

pub returns-clause-once : goal.returns-clause-once
returns-clause-once c = part_once c.args.places.now c.partition_point-from.result c.partition_point-end.result c.requires.once

pub returns-clause-ascending : goal.returns-clause-ascending
returns-clause-ascending c =
    let values = c.args.values.now in
    let places = c.args.places.now in
    let v = c.args.value.now in
    part_ascends values places c.requires v c.partition_point-from.result c.partition_point-end.result
    (start_by_halves values places c.requires v c.partition_point-from.result c.partition_point-from.ensures.bound (c.partition_point-from.ensures.partitioned (λ k. is_lt (int_cmp (value_at values k) v)) (always_returns_same _ _ _ (λ a r f k. search (rules, of_calls))) (below_parted values places c.requires v)))
    (next_by_halves values places c.requires v c.partition_point-end.result c.partition_point-end.ensures.bound (c.partition_point-end.ensures.partitioned (λ k. is_le (int_cmp (value_at values k) v)) (always_returns_same _ _ _ (λ a r f k. search (rules, of_calls))) (up_to_parted values places c.requires v)))
