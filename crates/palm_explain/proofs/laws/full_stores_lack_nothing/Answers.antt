use Rattle.palm_explain.proofs.Taking.{lacks_nothing}
use Rattle.palm_explain.proofs.laws.full_stores_lack_nothing.Goals as goal

pub returns : goal.returns
returns c rows all = lacks_nothing rows all
