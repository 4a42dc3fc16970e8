use Rattle.palm_read.specs.declared.mode.Mode.TheVariants.{First, Two}
use Rattle.palm_read.proofs.cited.Modes.{read_everywhere, read_in_one, refused_in_one, refused_in_first}
use Rattle.palm_read.proofs.laws.version_1_stays.Goals as goal

pub returns-clause-two : goal.returns-clause-two
returns-clause-two c = read_everywhere Two

pub returns-clause-first : goal.returns-clause-first
returns-clause-first c = read_everywhere First

pub returns-clause-beside : goal.returns-clause-beside
returns-clause-beside c = read_in_one

pub returns-clause-refused : goal.returns-clause-refused
returns-clause-refused c = λ bytes error other. (refused_in_one bytes error, refused_in_first bytes error other)
