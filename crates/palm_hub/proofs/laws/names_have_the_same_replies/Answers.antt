use Rattle.palm_hub.proofs.Apart.{same_replies}
use Rattle.palm_hub.proofs.laws.names_have_the_same_replies.Goals as goal

pub returns : goal.returns
returns c = same_replies
