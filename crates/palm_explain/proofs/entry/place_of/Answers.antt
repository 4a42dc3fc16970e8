use Rattle.std.proofs.Common.{nat_lt, rules, of_calls}
use Rattle.std.proofs.lemmas.Fn.{always_returns_same}
use Rattle.palm_explain.proofs.Reasons.{numbers_parted, parted_number}
use Rattle.palm_explain.proofs.entry.place_of.Goals as goal

pub returns-then-has_number : goal.returns-then-has_number
returns-then-has_number c = parted_number c.args.log.now c.requires c.place_from_end-place.result c.args.number (c.has_number.ensures c.if-has_number.true)

pub returns-then-has_number-2 : goal.returns-then-has_number-2
returns-then-has_number-2 c = parted_number c.args.log.now c.requires c.place_from_start-place.result c.args.number (c.has_number-2.ensures c.if-has_number-2.true)

pub returns : goal.returns
returns c =
    let at = c.partition_point.ensures.partitioned (λ e. nat_lt e.number c.args.number) (always_returns_same _ _ _ (λ a r f k. search (rules, of_calls))) (numbers_parted c.args.log.now c.requires c.args.number) in
    record { within = c.partition_point.ensures.bound; before = at.0; after = at.1 }
