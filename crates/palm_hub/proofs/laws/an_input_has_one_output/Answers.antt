use Rattle.palm_hub.proofs.Outcomes.{output_once}
use Rattle.palm_hub.proofs.laws.an_input_has_one_output.Goals as goal

pub returns : goal.returns
returns c = output_once
