use Rattle.std.proofs.Common.{Contains}
use Rattle.palm_laws.proofs.cited.Solutions.{explains_more}
use Rattle.palm_laws.proofs.explained.explanations_grow.Goals as goal

pub returns : goal.returns
returns c = λ initial cs more x v sub explains. explains_more initial (Contains cs) (Contains more) x v sub explains
