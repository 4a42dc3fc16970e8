use Rattle.palm_session.proofs.LawsOfDomains.{printed_domains}
use Rattle.palm_session.proofs.laws.printed.printed_domains_are_the_engines.Goals as goal

pub returns : goal.returns
returns c = printed_domains
