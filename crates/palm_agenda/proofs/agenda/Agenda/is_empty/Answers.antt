use Rattle.palm_agenda.proofs.cited.Keeping.{tells_none}
use Rattle.palm_agenda.proofs.agenda.Agenda.is_empty.Goals as goal

pub returns-clause-tells : goal.returns-clause-tells
returns-clause-tells c =
    rw (← c.self.view_is) (tells_none c.self.inside.connections c.self.inside.over.items c.self.inside.pending.flags _ c.self.invariant.0 c.is_empty.result c.is_empty.ensures)
