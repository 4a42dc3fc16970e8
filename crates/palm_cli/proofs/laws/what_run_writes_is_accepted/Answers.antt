use Rattle.palm_cli.proofs.EvidentLemmas.{run_passes}
use Rattle.palm_cli.proofs.laws.what_run_writes_is_accepted.Goals as goal

pub returns : goal.returns
returns c = λ guides orders before after runs. run_passes guides orders before after runs
