use Rattle.palm_hub.proofs.Outcomes.{has_output}
use Rattle.palm_hub.proofs.laws.an_input_has_an_output.Goals as goal

pub returns : goal.returns
returns c = has_output
