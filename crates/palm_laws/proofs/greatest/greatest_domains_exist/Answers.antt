use Rattle.palm_laws.proofs.cited.Existence.{greatest_exists}
use Rattle.palm_laws.proofs.greatest.greatest_domains_exist.Goals as goal

pub returns : goal.returns
returns c = λ initial cs ascend. greatest_exists initial cs ascend
