use Rattle.palm_events.proofs.cited.Outcomes.{withdrawal_wakes}
use Rattle.palm_events.proofs.cited.Valid.{withdraws_all_valid}
use Rattle.palm_events.proofs.laws.validity.withdrawals_wake.Goals as goal

pub returns : goal.returns
returns c = λ s t gone withdraws a valid keeps m. withdrawal_wakes s t gone withdraws a valid (withdraws_all_valid s t gone keeps withdraws valid) m
