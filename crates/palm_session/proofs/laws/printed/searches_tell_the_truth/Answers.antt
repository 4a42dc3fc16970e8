use Rattle.palm_session.proofs.Searched.{told_search}
use Rattle.palm_session.proofs.laws.printed.searches_tell_the_truth.Goals as goal

pub returns : goal.returns
returns c = λ s t by reply is a. told_search s by is reply t a
