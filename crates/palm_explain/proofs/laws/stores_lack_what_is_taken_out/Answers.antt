use Rattle.palm_explain.proofs.Taking.{lacks_one_more}
use Rattle.palm_explain.proofs.laws.stores_lack_what_is_taken_out.Goals as goal

pub returns : goal.returns
returns c before after pairs p lacks ascend present same is = lacks_one_more before after pairs p lacks ascend present same is
