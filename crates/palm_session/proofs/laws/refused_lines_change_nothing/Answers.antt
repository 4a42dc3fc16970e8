use Rattle.palm_session.proofs.RefusedLines.{all_leave}
use Rattle.palm_session.proofs.laws.refused_lines_change_nothing.Goals as goal

pub returns : goal.returns
returns c = λ guides orders text output replies. all_leave guides orders replies.answered output replies.state replies.run
