use Rattle.palm_events.proofs.cited.Outcomes.{withdrawal_exists}
use Rattle.palm_events.proofs.laws.logged.withdrawals_have_an_outcome.Goals as goal

pub returns : goal.returns
returns c = λ s gone valid. withdrawal_exists s gone valid
