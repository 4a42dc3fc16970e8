use Rattle.palm_engine.proofs.Same.{settling_same}
use Rattle.palm_engine.proofs.laws.settling.the_same_answers_give_the_same_settling.Goals as goal

pub returns : goal.returns
returns c = λ limit f s t u qs rs valid aq ar one other. settling_same limit f s qs t rs u valid.rising aq ar one other
