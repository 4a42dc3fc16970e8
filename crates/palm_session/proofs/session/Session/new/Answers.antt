use Rattle.palm_session.proofs.Made.{made_session}
use Rattle.palm_session.proofs.session.Session.new.Goals as goal

pub invariant_of-result : goal.invariant_of-result
invariant_of-result g c = made_session _ _ _ c.in_ok-new.field-0 c.new-2.result.items c.in_ok-new.ensures c.new-2.ensures.items
