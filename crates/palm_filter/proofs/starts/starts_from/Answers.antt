use Rattle.std.proofs.Common.{◌∷◌, [], ap, ◌∙◌, arith, length, length-append}
use Rattle.std.proofs.lemmas.Int.{ints}
use Rattle.palm_filter.proofs.Started.{starts_more}
use Rattle.palm_filter.proofs.starts.starts_from.Goals as goal

pub loop-distance-preserved : goal.loop-distance-preserved
loop-distance-preserved c = record {
  count = omega (arith, c.loop-distance.invariant.count, ap length c.in_ok-push.ensures.items ∙ length-append c.loop-distance.starts.items (c.start_from-start.result ∷ []));
  each = starts_more c.args.values.now c.args.places.now c.args.least.now c.loop-distance.starts.items c.push.new.self.items c.loop-distance.distance c.start_from-start.result c.loop-distance.invariant.count c.loop-distance.invariant.each c.start_from-start.ensures c.in_ok-push.ensures.items;
  within = c.start_from-start.ensures.within;
  before = λ i d lt. let below = c.start_from-start.ensures.before i d lt in omega (arith, ints, below);
}
