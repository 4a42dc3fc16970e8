use Rattle.palm_model.specs.Minimal.{AreConflict, DoExplain}
use Rattle.palm_laws.proofs.cited.Growing.{conflict_known, explanation_known}
use Rattle.palm_laws.proofs.cited.Reducing.{minimal_some}
use Rattle.palm_laws.proofs.minimal.minimal_sets_exist.Goals as goal

pub returns : goal.returns
returns c = record {
  conflict = λ initial active ascend. (λ holds. minimal_some (AreConflict initial) (conflict_known initial ascend) active holds, λ some. some.1.holds);
  explanation = λ initial active pair ascend. (λ holds. minimal_some (DoExplain initial pair) (explanation_known initial ascend pair) active holds, λ some. some.1.holds);
}
