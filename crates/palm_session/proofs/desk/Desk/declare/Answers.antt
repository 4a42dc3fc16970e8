use Rattle.std.proofs.Common.{refl, sym}
use Rattle.palm_session.proofs.desk.Desk.declare.Goals as goal

pub returns-clause-ok : goal.returns-clause-ok
returns-clause-ok g c =
    rw (sym c.self.view_is)
    (c.add_variable.new.self.state, rw c.as_slice.ensures at c.in_ok-add_variable.ensures.ok, rw c.in_ok-add_variable-2.ensures.ok refl)

pub add_variable-requires-clause-ascend : goal.add_variable-requires-clause-ascend
add_variable-requires-clause-ascend g c = rw c.as_slice.ensures c.requires.values.ascend

pub add_variable-requires-clause-small : goal.add_variable-requires-clause-small
add_variable-requires-clause-small g c = rw c.as_slice.ensures c.requires.values.few
