use Rattle.palm_events.proofs.cited.Reasons.{reasons_right}
use Rattle.palm_search.proofs.cited.Keeping.{turns_keep}
use Rattle.palm_search.proofs.laws.turns_with_settlings_keep_searching.Goals as goal

pub returns : goal.returns
returns c = λ guided ordered s t turns run searching. turns_keep reasons_right guided ordered s turns t run searching
