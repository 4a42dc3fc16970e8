use Rattle.std.proofs.Common.{◌∙◌, sym}
use Rattle.tests_engine.proofs.Found.{found}
use Rattle.tests_engine.proofs.removals.is_removed.Goals as goal

pub returns : goal.returns
returns c removed = found _ c.place_of.result c.args.pair.now c.place_of.ensures (sym c.is_some.ensures ∙ removed)
