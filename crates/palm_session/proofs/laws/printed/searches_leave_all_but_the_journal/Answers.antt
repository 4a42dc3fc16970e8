use Rattle.palm_session.proofs.Searched.{leaves_all}
use Rattle.palm_session.proofs.laws.printed.searches_leave_all_but_the_journal.Goals as goal

pub returns : goal.returns
returns c = λ s t by reply is a. leaves_all s by is reply t a
