use Rattle.std.proofs.Common.{◌++◌}
use Rattle.palm_model.specs.Minimal.{AreConflict, DoExplain}
use Rattle.palm_laws.proofs.cited.Growing.{conflicts_grow, explanations_grow}
use Rattle.palm_laws.proofs.cited.Reducing.{block_out}
use Rattle.palm_laws.proofs.minimal.blocks_outside_a_core_are_left_out.Goals as goal

pub returns : goal.returns
returns c = record {
  conflict = λ initial earlier block later left core walk among holds.
      block_out (AreConflict initial) (conflicts_grow initial) earlier block later left walk (conflicts_grow initial core (earlier ++ left) among holds);
  explanation = λ initial pair earlier block later left core walk among holds.
      block_out (DoExplain initial pair) (explanations_grow initial pair) earlier block later left walk (explanations_grow initial pair core (earlier ++ left) among holds);
}
