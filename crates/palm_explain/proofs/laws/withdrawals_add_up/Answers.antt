use Rattle.palm_explain.proofs.cited.Withdrawn.{adds_up, lost_in_two, two_lost}
use Rattle.palm_explain.proofs.laws.withdrawals_add_up.Goals as goal

pub returns-clause-left : goal.returns-clause-left
returns-clause-left c log middle left first then one two = adds_up log middle left first then one two

pub returns-clause-lost : goal.returns-clause-lost
returns-clause-lost c log middle left first then one two p = (lost_in_two log middle left first then one two p, two_lost log middle left first then one two p)
