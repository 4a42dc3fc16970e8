use Rattle.std.proofs.Common.{length}
use Rattle.palm_best.proofs.Looping.{compared_formed}
use Rattle.palm_best.proofs.cuts.post_cut.Goals as goal

pub from_con-requires : goal.from_con-requires
from_con-requires c = (length c.args.engine.now.state.initial, compared_formed c.args.engine.now.state.initial c.args.target c.args.bound c.requires.target c.requires.value)
