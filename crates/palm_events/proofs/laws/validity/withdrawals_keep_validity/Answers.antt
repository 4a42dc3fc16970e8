use Rattle.palm_events.proofs.cited.Valid.{withdraws_all_valid}
use Rattle.palm_events.proofs.laws.validity.withdrawals_keep_validity.Goals as goal

pub returns : goal.returns
returns c = λ s t gone keeps withdraws valid. withdraws_all_valid s t gone keeps withdraws valid
