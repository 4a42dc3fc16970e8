use Rattle.palm_events.proofs.cited.Undone.{logged_once}
use Rattle.palm_events.proofs.laws.logged.pairs_are_logged_once.Goals as goal

pub returns : goal.returns
returns c = λ initial active log q r founded m n e. logged_once initial active log founded q r m n e
