use Rattle.palm_laws.proofs.cited.Solutions.{formed_declared}
use Rattle.palm_laws.proofs.explained.well_formed_constraints_are_declared.Goals as goal

pub returns : goal.returns
returns c = λ variables cs formed. formed_declared variables cs formed
