use Rattle.std.proofs.Common.{[]}
use Rattle.palm_model.specs.Minimal.{AreConflict, DoExplain}
use Rattle.palm_laws.proofs.cited.Reducing.{left_within, minimal_rises}
use Rattle.palm_laws.proofs.minimal.minimal_sets_are_within.Goals as goal

pub returns : goal.returns
returns c = record {
  conflict = λ initial active cids minimal a m. left_within (AreConflict initial) [] active minimal.left minimal.walk a m;
  explanation = λ initial active pair cids minimal a m. left_within (DoExplain initial pair) [] active minimal.left minimal.walk a m;
  conflict_rises = λ initial active cids minimal rises. minimal_rises (AreConflict initial) active cids minimal rises;
  explanation_rises = λ initial active pair cids minimal rises. minimal_rises (DoExplain initial pair) active cids minimal rises;
}
