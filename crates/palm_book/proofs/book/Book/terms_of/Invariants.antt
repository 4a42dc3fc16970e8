use Rattle.std.proofs.Common.{◌≡◌, ◌<◌, All, length, map, take}
use Rattle.palm_book.specs.Named.{named_term}
use Rattle.palm_book.proofs.book.Book.terms_of.Given as goal

abbrev pub invariant-loop-term : goal.invariant-loop-term
invariant-loop-term l =
    All (λ t. t.var < length l.self.variables) l.list
    × (map (named_term l.self.variables) l.list ≡ take l.term-index l.terms)
