use Rattle.std.proofs.Common.{◌∙◌}
use Rattle.palm_repair.proofs.Learning.{no_weights}
use Rattle.palm_repair.proofs.learned.Learned.new.Goals as goal

pub returns : goal.returns
returns c = λ d e i. record { nogoods = c.new.ensures.items i; origins = c.new-2.ensures.items i; weights = (c.in_ok-weights.ensures ∙ no_weights d c.args.variables e) i; dropped = 0 }
