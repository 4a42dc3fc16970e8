-- The mode in which a line is read, and what a line leaves of it.
use Rattle.palm_read.specs.declared.line.Line.{Line}
use Rattle.palm_read.specs.declared.line.Line.TheVariants.{Comment, Header}
use Rattle.palm_read.specs.declared.mode.Mode.{Mode}
use Rattle.palm_read.specs.declared.mode.Mode.TheVariants.{First, One, Two}
use Rattle.palm_session.specs.State.{SessionState}

-- the mode after a line that is no comment and not the header, whether it was refused or not: the first one sets version 1
abbrev pub begun : Mode → Mode
begun First = One
begun One = One
begun Two = Two

-- the mode after a line that was read: a comment leaves it, and the header sets version 2
abbrev pub mode_after : Mode → Line → Mode
mode_after mode Comment = mode
mode_after mode Header = Two
mode_after mode _ = begun mode

-- what a session holds in another mode
abbrev pub in_mode : Mode → SessionState → SessionState
in_mode mode s = record s { mode = mode }

-- what a session holds as soon as a line was read
abbrev pub heard : SessionState → Line → SessionState
heard s line = in_mode (mode_after s.mode line) s

-- what a session holds as soon as a line could not be read
abbrev pub misheard : SessionState → SessionState
misheard s = in_mode (begun s.mode) s
