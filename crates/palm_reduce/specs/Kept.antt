-- The filters of the constraints of a book that an engine has on loan, and which engine can lend them.
use Rattle.std.specs.Prelude.{◌≡◌, ℕ, List, Bool, true, false, Option, None, Some, Contains, slice_get, slice_index_or}
use Rattle.std.specs.Borrow.{Bor}
use Rattle.palm_book.specs.Book.{Contents, active_of}
use Rattle.palm_book.specs.declared.book.BookCon.{BookCon}
use Rattle.palm_kind.specs.Kind.{con_of}
use Rattle.palm_kind.specs.declared.kind.Kind.{Kind}
use Rattle.palm_model.specs.Log.{Active}
use Rattle.palm_model.specs.State.{EngineState}
use Rattle.palm_model.specs.declared.constraint.Con.{Con}
use Rattle.palm_reduce.specs.declared.kinds.Kinds.{Kinds}

-- an engine can lend the filters of the active constraints of the book: each of them is active in it, under its number
abbrev pub CanLend : Contents → EngineState → Type 0
CanLend book s = (a : Active) → Contains (active_of book) a → Contains s.active a

-- the constraint of a filter, where there is one
abbrev pub con_of_kept : Option (Bor Kind) → Option Con
con_of_kept None = None
con_of_kept (Some kind) = Some (con_of kind.now)

-- at the place a filter of the book's constraint is kept
abbrev pub IsKeptAt : Contents → ℕ → Kinds → Type 0
IsKeptAt book place kinds = (c : BookCon) → slice_get book.constraints place ≡ Some c → con_of_kept (slice_index_or kinds.kept.items place None) ≡ Some c.con

-- a filter of each marked constraint is kept
abbrev pub AreKept : Contents → List Bool → Kinds → Type 0
AreKept book marks kinds = (place : ℕ) → slice_index_or marks place false ≡ true → IsKeptAt book place kinds
