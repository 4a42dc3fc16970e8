use Rattle.palm_book.proofs.cited.WellFormed.{well_formed}
use Rattle.tests_engine.proofs.texts.con_of.Goals as goal

pub returns-in-Ok : goal.returns-in-Ok
returns-in-Ok c =
    well_formed c.args.book.now.variables c.args.shape c.in-Ok.con c.in-Ok.ensures.says c.requires.once c.requires.sound c.requires.narrow c.requires.few
