use Rattle.std.proofs.Common.{Contains}
use Rattle.palm_laws.proofs.cited.Uniqueness.{greatest_unique}
use Rattle.palm_laws.proofs.greatest.greatest_domains_are_unique.Goals as goal

pub returns : goal.returns
returns c = λ initial cs d e one other. greatest_unique initial (Contains cs) d e one other
