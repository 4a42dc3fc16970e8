use Rattle.palm_events.proofs.cited.Logs.{left_founded}
use Rattle.palm_events.proofs.laws.logged.withdrawals_keep_logs_well_founded.Goals as goal

pub returns : goal.returns
returns c = λ initial active log left gone founded loses. left_founded initial active log gone left founded loses
