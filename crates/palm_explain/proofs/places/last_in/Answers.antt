use Rattle.palm_explain.proofs.PlaceSets.{none_in, top_in}
use Rattle.palm_explain.proofs.places.last_in.Goals as goal

pub returns-clause-some : goal.returns-clause-some
returns-clause-some c =
    top_in c.args.word.now c.args.end c.low_bits-low.result c.requires.aligned c.requires.start c.low_bits-low.ensures.below c.low_bits-low.ensures.above c.ilog2.result c.ilog2.ensures.bound c.ilog2.ensures.power_le c.ilog2.ensures.next_power_gt

pub returns-then-low-eq0-clause-none : goal.returns-then-low-eq0-clause-none
returns-then-low-eq0-clause-none c =
    none_in c.args.word.now c.args.end c.low_bits-low.result c.requires.aligned c.requires.start c.low_bits-low.ensures.below c.low_bits-low.ensures.above c.if-low-eq0.true
