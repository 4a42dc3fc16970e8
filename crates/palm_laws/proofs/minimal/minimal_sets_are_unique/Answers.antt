use Rattle.palm_model.specs.Minimal.{AreConflict, DoExplain}
use Rattle.palm_laws.proofs.cited.Reducing.{minimal_one}
use Rattle.palm_laws.proofs.minimal.minimal_sets_are_unique.Goals as goal

pub returns : goal.returns
returns c = record {
  conflict = λ initial active cids others one two. minimal_one (AreConflict initial) active cids others one two;
  explanation = λ initial active pair cids others one two. minimal_one (DoExplain initial pair) active cids others one two;
}
