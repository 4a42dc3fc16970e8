use Rattle.palm_search.proofs.cited.Measuring.{measure_below}
use Rattle.palm_search.proofs.laws.bound.the_measure_is_bounded.Goals as goal

pub returns : goal.returns
returns c = λ s searching. measure_below s searching.valid searching.declared
