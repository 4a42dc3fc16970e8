use Rattle.palm_search.proofs.cited.Measuring.{undoes_measure}
use Rattle.palm_search.proofs.laws.bound.undoing_raises_the_measure.Goals as goal

pub returns : goal.returns
returns c = λ s t gone conflict turn searching. undoes_measure s gone conflict t turn searching
