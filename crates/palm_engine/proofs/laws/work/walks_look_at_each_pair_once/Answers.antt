use Rattle.palm_engine.proofs.Working.{walk_length}
use Rattle.palm_engine.proofs.laws.work.walks_look_at_each_pair_once.Goals as goal

pub returns : goal.returns
returns c = λ initial con. walk_length initial con
