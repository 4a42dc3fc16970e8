use Rattle.palm_engine.proofs.Keeping.{one_declared, present_declared}
use Rattle.palm_engine.proofs.engine.Engine.assume.Goals as goal

pub activate-requires-clause-declared : goal.activate-requires-clause-declared
activate-requires-clause-declared g c =
    let s = c.args.self.now.state in
    one_declared _ c.args.pair.var (present_declared s c.args.pair.var c.args.pair.value c.requires.present)
