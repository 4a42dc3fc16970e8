use Rattle.std.proofs.Common.{nat_lt, rules, of_calls}
use Rattle.std.proofs.lemmas.Fn.{always_returns_same}
use Rattle.palm_explain.proofs.PlaceSets.{behind_parted}
use Rattle.palm_explain.proofs.places.index_by_halves.Goals as goal

pub returns : goal.returns
returns c =
    let at = c.partition_point.ensures.partitioned (λ w. nat_lt c.args.start w.start) (always_returns_same _ _ _ (λ a r f k. search (rules, of_calls))) (behind_parted c.args.words.now c.requires c.args.start) in
    record { within = c.partition_point.ensures.bound; before = at.0; after = at.1 }
