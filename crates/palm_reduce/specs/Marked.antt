-- The constraints of a book at marked places.
use Rattle.std.specs.Prelude.{Bool, false, List, [], ◌∷◌}
use Rattle.palm_book.specs.Book.{Contents}
use Rattle.palm_book.specs.declared.book.BookCon.{BookCon}

-- each constraint is active where its place is marked, and relaxed elsewhere
abbrev pub with_marks : List BookCon → List Bool → List BookCon
with_marks [] marks = []
with_marks (c ∷ cs) [] = record c { active = false } ∷ with_marks cs []
with_marks (c ∷ cs) (m ∷ marks) = record c { active = m } ∷ with_marks cs marks

-- the book in which exactly the constraints at the marked places are active
abbrev pub marked : Contents → List Bool → Contents
marked book marks = record book { constraints = with_marks book.constraints marks }
