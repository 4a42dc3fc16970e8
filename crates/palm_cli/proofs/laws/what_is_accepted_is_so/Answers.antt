use Rattle.palm_cli.proofs.EvidentLemmas.{tells_so}
use Rattle.palm_cli.proofs.laws.what_is_accepted_is_so.Goals as goal

pub returns : goal.returns
returns c = λ evidence before after judges. tells_so evidence before after judges
