use Rattle.palm_model.specs.Minimal.{AreConflict, DoExplain}
use Rattle.palm_laws.proofs.cited.Growing.{conflicts_grow, explanations_grow}
use Rattle.palm_laws.proofs.cited.Reducing.{minimal_needed}
use Rattle.palm_laws.proofs.minimal.no_member_can_be_left_out.Goals as goal

pub returns : goal.returns
returns c = record {
  conflict = λ initial active cids minimal place within rest. minimal_needed (AreConflict initial) (conflicts_grow initial) active cids minimal place within rest;
  explanation = λ initial active pair cids minimal place within rest. minimal_needed (DoExplain initial pair) (explanations_grow initial pair) active cids minimal place within rest;
}
