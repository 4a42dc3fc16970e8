use Rattle.palm_read.proofs.LongestTokens.{longest_token}
use Rattle.palm_read.proofs.laws.longest_token.Goals as goal

pub returns : goal.returns
returns c = longest_token
