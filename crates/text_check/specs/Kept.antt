-- What the checker keeps of a text.
use Rattle.palm_book.specs.Book.{Contents}
use Rattle.palm_listed.specs.Lists.{IsListed}
use Rattle.palm_listed.specs.declared.listed.Listed.{Listed}
use Rattle.text_check.specs.declared.checker.Checker.{Checker}

-- the draft that is kept
abbrev pub draft_of : {B D : Type 0} → (Contents → B → D) → Checker B → D
draft_of draft c = draft c.listed.book c.body

-- what holds between lines: what was listed is kept, and so is the body
pub record AreKept {B : Type 0} (keeps : Contents → B → Type 0) (listed : Listed) (body : B) : Type 0 where
  pub lists : IsListed listed
  pub kept : keeps listed.book body

abbrev pub IsChecker : {B : Type 0} → (Contents → B → Type 0) → Checker B → Type 0
IsChecker keeps c = AreKept keeps c.listed c.body
