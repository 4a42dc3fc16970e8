use Rattle.palm_cert.proofs.cited.Earlier.{step_right, steps_numbered}
use Rattle.palm_cert.proofs.laws.steps_are_right_behind_earlier_ones.Goals as goal

pub returns-clause-right : goal.returns-clause-right
returns-clause-right c s book pairs earlier later r is valid initial active split = step_right s book is valid initial active pairs earlier r later split

pub returns-clause-earlier : goal.returns-clause-earlier
returns-clause-earlier c s book pairs earlier later r is valid initial active split = steps_numbered s book is valid initial active pairs earlier r later split
