use Rattle.palm_search.proofs.cited.Measuring.{decides_measure}
use Rattle.palm_search.proofs.laws.bound.deciding_keeps_the_measure.Goals as goal

pub returns : goal.returns
returns c = λ guided s t p pick turn. decides_measure guided s p pick t turn
