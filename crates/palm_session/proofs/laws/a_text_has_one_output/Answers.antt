use Rattle.palm_session.proofs.cited.LawsOfTexts.{none_chosen, output_once}
use Rattle.palm_session.proofs.laws.a_text_has_one_output.Goals as goal

pub returns-clause-once : goal.returns-clause-once
returns-clause-once c = output_once

pub returns-clause-unchosen : goal.returns-clause-unchosen
returns-clause-unchosen c = none_chosen
