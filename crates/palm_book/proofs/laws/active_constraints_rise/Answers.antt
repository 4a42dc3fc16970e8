use Rattle.palm_book.proofs.cited.Actives.{actives_rise}
use Rattle.palm_book.proofs.laws.active_constraints_rise.Goals as goal

pub returns : goal.returns
returns c = record { rise = actives_rise }
