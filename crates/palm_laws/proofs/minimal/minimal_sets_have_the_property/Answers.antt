use Rattle.std.proofs.Common.{Contains}
use Rattle.palm_model.specs.Log.{Named, cons_of}
use Rattle.palm_model.specs.Minimal.{AreConflict, DoExplain}
use Rattle.palm_laws.proofs.cited.Growing.{conflict_more}
use Rattle.palm_laws.proofs.cited.Reducing.{minimal_holds, minimal_named}
use Rattle.palm_laws.proofs.cited.Solutions.{explains_more}
use Rattle.palm_laws.proofs.minimal.minimal_sets_have_the_property.Goals as goal

pub returns : goal.returns
returns c = record {
  conflict = λ initial active cids minimal. conflict_more initial (Contains (cons_of minimal.left)) (Named active (Contains cids)) (minimal_named (AreConflict initial) active cids minimal) (minimal_holds (AreConflict initial) active cids minimal);
  explanation = λ initial active pair cids minimal. explains_more initial (Contains (cons_of minimal.left)) (Named active (Contains cids)) pair.var pair.value (minimal_named (DoExplain initial pair) active cids minimal) (minimal_holds (DoExplain initial pair) active cids minimal);
}
