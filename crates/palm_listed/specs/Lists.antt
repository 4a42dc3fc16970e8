-- What is kept of the variables and constraints of a text.
use Rattle.std.specs.Prelude.{◌≡◌, ◌≤◌, List, map, length, All}
use Rattle.palm_book.specs.Book.{Contents, IsBook, initial_of}
use Rattle.palm_domain.specs.Rows.{Row}
use Rattle.palm_domain.specs.Rows as rows
use Rattle.palm_kind.specs.Kind.{con_of}
use Rattle.palm_kind.specs.declared.kind.Kind.{Kind}
use Rattle.palm_listed.specs.Store.{IsFull}
use Rattle.palm_listed.specs.declared.listed.Listed.{Listed}

-- the store has all declared values of the book, and each constraint has its filter
pub record AreListed (book : Contents) (store : List Row) (kinds : List Kind) : Type 0 where
  pub formed : IsBook book
  pub initial : rows.initial_of store ≡ initial_of book
  pub full : IsFull store
  pub filters : map con_of kinds ≡ map (λ d. d.con) book.constraints
  pub numbers : All (λ d. d.number ≤ length book.constraints) book.constraints

abbrev pub IsListed : Listed → Type 0
IsListed l = AreListed l.book l.store l.kinds.items
