use Rattle.std.proofs.Common.{Contains}
use Rattle.palm_laws.proofs.cited.Uniqueness.{greatest_falls}
use Rattle.palm_laws.proofs.greatest.greatest_domains_fall.Goals as goal

pub returns : goal.returns
returns c = λ initial cs more d e sub one other. greatest_falls initial (Contains cs) (Contains more) d e sub one other
