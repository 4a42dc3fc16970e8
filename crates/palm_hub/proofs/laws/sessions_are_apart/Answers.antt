use Rattle.palm_hub.proofs.Apart.{apart}
use Rattle.palm_hub.proofs.laws.sessions_are_apart.Goals as goal

pub returns : goal.returns
returns c = apart
