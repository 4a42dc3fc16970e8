use Rattle.palm_events.proofs.cited.Reasons.{reasons_right}
use Rattle.palm_search.proofs.cited.Keeping.{settles_keep}
use Rattle.palm_search.proofs.laws.settlings_keep_searching.Goals as goal

pub returns : goal.returns
returns c = λ ordered s t settles searching. settles_keep reasons_right ordered s t settles searching
