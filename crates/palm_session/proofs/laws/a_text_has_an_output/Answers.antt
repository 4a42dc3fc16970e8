use Rattle.palm_session.proofs.cited.LawsOfTexts.{has_output}
use Rattle.palm_session.proofs.laws.a_text_has_an_output.Goals as goal

pub returns : goal.returns
returns c = has_output
