-- How far a walk has come.
use Rattle.std.specs.Prelude.{◌≡◌, ℕ, false, List, [], length, map, slice_index_or}
use Rattle.palm_book.specs.Book.{Contents, active_of, initial_of}
use Rattle.palm_book.specs.declared.book.BookCon.{BookCon}
use Rattle.palm_model.specs.Log.{Active}
use Rattle.palm_model.specs.Minimal.{AreConflict}
use Rattle.palm_model.specs.declared.constraint.Con.TheVariants.{Differ}
use Rattle.palm_reduce.specs.Kept.{AreKept}
use Rattle.palm_reduce.specs.Marked.{marked}
use Rattle.palm_reduce.specs.Walked.{HasMarked}
use Rattle.palm_reduce.specs.declared.kinds.Kinds.{Kinds}
use Rattle.palm_prefer.specs.Preferred.{Walks}
use Rattle.palm_prefer.specs.declared.order.Soft.{Soft}
use Rattle.palm_prefer.specs.declared.walking.Walk.{Walk}

-- the constraint at a place, and one over nothing behind the last one
abbrev pub con_at : List BookCon → ℕ → BookCon
con_at constraints place = slice_index_or constraints place (record { number = 0; name = []; active = false; con = Differ [] })

-- the constraints at the places
abbrev pub cons_at : List BookCon → List Soft → List BookCon
cons_at constraints softs = map (λ soft. con_at constraints soft.place) softs

-- there is a mark for each constraint, a filter of each marked one is kept, the engine has exactly these, and they are no
-- conflict
pub record FitsBook (book : Contents) (kinds : Kinds) (w : Walk) : Type 0 where
  pub whole : length w.marks.items ≡ length book.constraints
  pub kept : AreKept book w.marks.items kinds
  pub filled : HasMarked book w.marks.items w.engine.state
  pub free : AreConflict (initial_of book) (active_of (marked book w.marks.items)) → ⊥

-- from the first constraints on these were walked; the marked ones are kept
abbrev pub HasWalked : Contents → List Active → List BookCon → Walk → Type 0
HasWalked book first walked w = Walks (initial_of book) first walked (active_of (marked book w.marks.items)) w.left
