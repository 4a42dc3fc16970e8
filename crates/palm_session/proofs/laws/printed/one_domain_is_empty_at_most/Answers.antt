use Rattle.palm_session.proofs.OneEmpty.{one_empty}
use Rattle.palm_session.proofs.laws.printed.one_domain_is_empty_at_most.Goals as goal

pub returns : goal.returns
returns c = λ guides orders lines replies t x y run. one_empty guides orders lines replies t run x y
