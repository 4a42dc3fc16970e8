-- A search whose engine was made of a book: what it has can be written with the book's names.
use Rattle.std.specs.Prelude.{◌≡◌, ⊤, ◌<◌, length, Contains}
use Rattle.palm_base.specs.declared.terms.Pair.{Pair}
use Rattle.palm_base.specs.declared.terms.Cid.{Cid}
use Rattle.palm_base.specs.declared.terms.Cid.TheVariants.{Decide, Not, User}
use Rattle.palm_model.specs.Log.{IsActive}
use Rattle.palm_book.specs.Book.{Contents, HasNumber, initial_of}
use Rattle.palm_search.specs.Turns.{SearchState}

-- a user's constraint is one of the book; decisions and negations have no names
abbrev pub IsNamed : Contents → Cid → Type 0
IsNamed book (Decide x) = ⊤
IsNamed book (Not pair) = ⊤
IsNamed book (User n) = HasNumber book n

-- the engine has the book's variables, its users are constraints of the book, and the decided variables exist
pub record FitsBook (book : Contents) (s : SearchState) : Type 0 where
  pub initial : s.engine.initial ≡ initial_of book
  pub users : (c : Cid) → IsActive s.engine.active c → IsNamed book c
  pub decided : (p : Pair) → Contains s.decisions p → p.var < length book.variables
