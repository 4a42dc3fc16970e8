use Rattle.palm_events.proofs.cited.Conflicts.{cids_active}
use Rattle.palm_events.proofs.laws.logged.explanations_are_active.Goals as goal

pub returns : goal.returns
returns c = λ initial active log r cid founded m cids. cids_active initial active log cid founded r m cids
