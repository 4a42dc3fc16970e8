use Rattle.palm_model.proofs.cited.Formed.{well_formed_formed}
use Rattle.palm_laws.proofs.formed.well_formed_constraints_are_formed.Goals as goal

pub returns : goal.returns
returns c = well_formed_formed
