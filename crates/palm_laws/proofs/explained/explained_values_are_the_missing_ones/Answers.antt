use Rattle.std.proofs.Common.{Contains}
use Rattle.palm_laws.proofs.cited.Solutions.{explained_missing, missing_explained}
use Rattle.palm_laws.proofs.explained.explained_values_are_the_missing_ones.Goals as goal

pub returns : goal.returns
returns c = λ initial cs d x v greatest.
    (λ explains. explained_missing initial (Contains cs) d x v greatest explains, λ missing. missing_explained initial (Contains cs) d x v greatest missing)
