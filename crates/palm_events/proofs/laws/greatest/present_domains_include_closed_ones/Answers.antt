use Rattle.palm_events.proofs.cited.Runs.{present_includes}
use Rattle.palm_events.proofs.laws.greatest.present_domains_include_closed_ones.Goals as goal

pub returns : goal.returns
returns c = λ s d valid inside closed. present_includes s valid d inside closed
