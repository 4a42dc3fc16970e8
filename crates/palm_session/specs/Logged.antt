-- What a kept log says of a book.
use Rattle.std.specs.Prelude.{ℕ, ◌<◌, List, All, flat_map, option_to_list, length, slice_get}
use Rattle.palm_model.specs.Log.{Removal}
use Rattle.palm_book.specs.Book.{Contents, IsUser}
use Rattle.palm_session.specs.Answers.{log_line}

-- the removal is over variables of the book, by one of its constraints
pub record IsLogged (book : Contents) (r : Removal) : Type 0 where
  pub variable : r.pair.var < length book.variables
  pub user : IsUser book r.by
  pub reasons : All (λ p. p.var < length book.variables) r.reasons

abbrev pub AreLogged : Contents → List Removal → Type 0
AreLogged book log = All (IsLogged book) log

-- the line of the removal at a place
abbrev pub log_line_at : Contents → List Removal → ℕ → List ℕ
log_line_at book log place = flat_map (log_line book) (option_to_list (slice_get log place))
