use Rattle.std.proofs.Common.{Contains}
use Rattle.palm_laws.proofs.cited.Solutions.{conflict_empty, empty_conflict}
use Rattle.palm_laws.proofs.explained.conflicts_are_empty_domains.Goals as goal

pub returns : goal.returns
returns c = λ initial cs d greatest.
    (λ conflict. conflict_empty initial (Contains cs) d greatest conflict, λ empty. empty_conflict initial (Contains cs) d greatest empty.0 empty.1 empty.2)
