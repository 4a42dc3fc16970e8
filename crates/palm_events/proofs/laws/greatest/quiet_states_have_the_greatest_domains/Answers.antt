use Rattle.palm_events.proofs.cited.Runs.{quiet_greatest}
use Rattle.palm_events.proofs.laws.greatest.quiet_states_have_the_greatest_domains.Goals as goal

pub returns : goal.returns
returns c = λ s valid quiet. quiet_greatest s valid quiet
