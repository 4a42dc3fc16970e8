use Rattle.palm_cli.proofs.SummaryLemmas.{one_summary}
use Rattle.palm_cli.proofs.laws.a_size_has_one_summary.Goals as goal

pub returns : goal.returns
returns c = one_summary
