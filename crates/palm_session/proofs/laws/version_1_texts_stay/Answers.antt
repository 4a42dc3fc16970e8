use Rattle.palm_session.proofs.Versions.{mode_stays, version_1_texts}
use Rattle.palm_session.proofs.laws.version_1_texts_stay.Goals as goal

pub returns-clause-texts : goal.returns-clause-texts
returns-clause-texts c = version_1_texts

pub returns-clause-set : goal.returns-clause-set
returns-clause-set c = mode_stays
