use Rattle.palm_session.proofs.LawsOfDomains.{contradiction_is_empty}
use Rattle.palm_session.proofs.laws.printed.contradictions_are_empty_domains.Goals as goal

pub returns : goal.returns
returns c = contradiction_is_empty
