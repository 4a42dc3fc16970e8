use Rattle.std.proofs.Common.{◌≡◌, ◌<◌, All, length, map, take}
use Rattle.palm_book.specs.Book.{name_of}
use Rattle.palm_book.proofs.book.Book.vars_of.Given as goal

abbrev pub invariant-loop-name : goal.invariant-loop-name
invariant-loop-name l =
    All (λ x. x < length l.self.variables) l.vars
    × (map (name_of l.self.variables) l.vars ≡ take l.name-index l.names)
