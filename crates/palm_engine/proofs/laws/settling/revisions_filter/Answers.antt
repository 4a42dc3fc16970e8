use Rattle.palm_engine.proofs.cited.Walking.{revision_filters}
use Rattle.palm_engine.proofs.laws.settling.revisions_filter.Goals as goal

pub returns : goal.returns
returns c = λ s t r revises. revision_filters s r t revises
