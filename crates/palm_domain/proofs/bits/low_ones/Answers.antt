use Rattle.palm_domain.proofs.WordOnes.{low_ones_is}
use Rattle.palm_domain.proofs.bits.low_ones.Goals as goal

pub returns-else-count-eq0 : goal.returns-else-count-eq0
returns-else-count-eq0 c = low_ones_is c.args.count c.requires
