use Rattle.palm_engine.proofs.Ending.{revision_falls}
use Rattle.palm_engine.proofs.laws.settling.revisions_fall.Goals as goal

pub returns : goal.returns
returns c = λ s t r revises. revision_falls s r t revises
