use Rattle.palm_cli.proofs.SummaryLemmas.{of_replies}
use Rattle.palm_cli.proofs.laws.summaries_are_of_replies.Goals as goal

pub returns : goal.returns
returns c = of_replies
