use Rattle.palm_events.proofs.cited.Outcomes.{withdrawal_same}
use Rattle.palm_events.proofs.laws.logged.withdrawals_have_one_outcome.Goals as goal

pub returns : goal.returns
returns c = λ s t u gone one two. withdrawal_same s gone t u one two
