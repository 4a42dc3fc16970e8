use Rattle.palm_events.proofs.cited.Logs.{removal_explained}
use Rattle.palm_events.proofs.laws.logged.removals_are_explained.Goals as goal

pub returns : goal.returns
returns c = λ initial active log r founded m. removal_explained initial active log r founded m
