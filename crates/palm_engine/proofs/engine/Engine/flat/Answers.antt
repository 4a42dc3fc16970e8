use Rattle.palm_engine.proofs.engine.Engine.flat.Goals as goal

pub flat_of-requires-clause-active : goal.flat_of-requires-clause-active
flat_of-requires-clause-active g c = rw (c.as_slice.ensures) (rw (← c.self.view_is) at c.requires)
