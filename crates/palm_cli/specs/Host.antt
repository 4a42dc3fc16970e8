-- What the host tells of the words after the program's name.
use Rattle.std.specs.Prelude.{◌≡◌, ℕ, List, [], map, drop, Result, Ok, Err, String, string_bytes}
use Rattle.std.specs.Global.{Global}
use Rattle.std.specs.IoError.{error_kind}
use Rattle.std.specs.Vec.Iter.{into_iter_items}
use Rattle.std.specs.declared.io.Error.{Error}
use Rattle.std.specs.declared.io.ErrorKind.TheVariants.{OutOfMemory}
use Rattle.std.specs.declared.vec.IntoIter.{IntoIter}

-- the list of the words, the first of which is the program's name, or why it is not told
abbrev pub Told : Type 0
Told = Result (IntoIter (String Global) Global) Error

-- the words behind the name; where they are no text there are none
abbrev pub words_told : Told → List (List ℕ)
words_told (Ok args) = map string_bytes (drop 1 (into_iter_items args))
words_told (Err error) = []

-- memory ran out before the words were told
abbrev pub LacksMemory : Told → Type 0
LacksMemory (Ok args) = ⊥
LacksMemory (Err error) = error_kind error ≡ OutOfMemory
