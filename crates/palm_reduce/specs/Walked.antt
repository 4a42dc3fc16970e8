-- How far a walk has come, and what an engine has then.
use Rattle.std.specs.Prelude.{◌≡◌, ◌↔◌, ℕ, Bool, List, ◌++◌, Contains, drop, filter, map, reverse, take}
use Rattle.palm_base.specs.declared.terms.Cid.{Cid}
use Rattle.palm_book.specs.Book.{Contents, active_of, initial_of, user_at}
use Rattle.palm_book.specs.declared.book.BookCon.{BookCon}
use Rattle.palm_model.specs.Log.{Active, cids_of}
use Rattle.palm_model.specs.Minimal.{WalkLeaves}
use Rattle.palm_model.specs.State.{EngineState}
use Rattle.palm_reduce.specs.Marked.{marked}
use Rattle.palm_reduce.specs.Properties.{HasProperty, IsCore}
use Rattle.palm_reduce.specs.declared.property.Property.{Property}
use Rattle.palm_reduce.specs.declared.reduce.Found.{Found}

-- the same constraints are in both lists
abbrev pub AreSame : List Active → List Active → Type 0
AreSame xs ys = (a : Active) → Contains xs a ↔ Contains ys a

-- the active ones among these constraints of a book
abbrev pub actives : List BookCon → List Active
actives constraints = map user_at (filter (λ c. c.active) constraints)

-- an engine has the variables of the book, and exactly its marked constraints
pub record HasMarked (book : Contents) (marks : List Bool) (s : EngineState) : Type 0 where
  pub initial : s.initial ≡ initial_of book
  pub active : AreSame s.active (active_of (marked book marks))

-- an engine has the variables of the book, and exactly those of its marked constraints whose ids are among these
pub record HasOnly (book : Contents) (marks : List Bool) (cids : List Cid) (s : EngineState) : Type 0 where
  pub initial : s.initial ≡ initial_of book
  pub active : (a : Active) → Contains s.active a ↔ (Contains (active_of (marked book marks)) a × Contains cids a.cid)

-- the walk has come down to this place of the book: it found the ids of what it left there, the highest first, and a
-- core among all that the engine has, which are these constraints and the active ones of all earlier places
pub record HasWalked (property : Property) (book : Contents) (place : ℕ) (found : Found) (s : EngineState) : Type 0 where
  pub left : List Active
  pub walk : WalkLeaves (HasProperty property (initial_of book)) (actives (take place book.constraints)) (actives (drop place book.constraints)) left
  pub named : reverse found.cids.items ≡ cids_of left
  pub initial : s.initial ≡ initial_of book
  pub active : AreSame s.active (actives (take place book.constraints) ++ left)
  pub core : IsCore property (initial_of book) s.active found.core
