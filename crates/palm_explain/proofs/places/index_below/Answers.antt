use Rattle.std.proofs.Common.{nat_le, rules, of_calls}
use Rattle.std.proofs.lemmas.Fn.{always_returns_same}
use Rattle.palm_explain.proofs.PlaceSets.{below_parted, from_parted}
use Rattle.palm_explain.proofs.places.index_below.Goals as goal

pub returns : goal.returns
returns c =
    let at = c.partition_point.ensures.partitioned (λ w. nat_le c.args.end w.start) (always_returns_same _ _ _ (λ a r f k. search (rules, of_calls))) (from_parted c.args.words.now c.requires c.args.end) in
    record { within = c.partition_point.ensures.bound; before = at.0; after = at.1 }

pub returns-then-begins_below : goal.returns-then-begins_below
returns-then-begins_below c = below_parted c.args.words.now c.requires c.args.end c.args.near (c.begins_below.ensures c.if-begins_below.true)
