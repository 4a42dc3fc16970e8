-- What the host tells of the words after the program's name.
use Rattle.std.specs.Prelude.{◌≡◌, ◌≢◌, ◌<◌, ◌≤◌, Result, Ok, Err, String}
use Rattle.std.specs.Global.{Global}
use Rattle.std.specs.IoError.{error_kind}
use Rattle.std.specs.Vec.Iter.{into_iter_len}
use Rattle.std.specs.declared.io.Error.{Error}
use Rattle.std.specs.declared.io.ErrorKind.TheVariants.{OutOfMemory}
use Rattle.std.specs.declared.vec.IntoIter.{IntoIter}

-- the list of the words, the first of which is the program's name, or why it is not told
abbrev pub Told : Type 0
Told = Result (IntoIter (String Global) Global) Error

-- no word stands behind the name
abbrev pub HasNoWord : Told → Type 0
HasNoWord (Ok args) = into_iter_len args ≤ 1
HasNoWord (Err error) = ⊥

-- some word does; words that are no text are words
abbrev pub HasWord : Told → Type 0
HasWord (Ok args) = 1 < into_iter_len args
HasWord (Err error) = error_kind error ≢ OutOfMemory

-- memory ran out before the words were told
abbrev pub LacksMemory : Told → Type 0
LacksMemory (Ok args) = ⊥
LacksMemory (Err error) = error_kind error ≡ OutOfMemory
