use Rattle.palm_search.proofs.cited.Measuring.{settles_measure}
use Rattle.palm_search.proofs.laws.bound.settling_leaves_the_measure.Goals as goal

pub returns : goal.returns
returns c = λ ordered s t settles. settles_measure ordered s t settles
