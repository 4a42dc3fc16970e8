-- What the checker keeps stays so where more is listed.
use Rattle.std.proofs.Common.{◌≡◌, sym, subst}
use Rattle.palm_book.specs.Book.{Contents}
use Rattle.palm_listed.specs.Lists.{IsListed}
use Rattle.palm_listed.specs.declared.listed.Listed.{Listed}
use Rattle.text_check.specs.Kept.{AreKept}

pub keeps_more : {B : Type 0} (keeps : Contents → B → Type 0) (after : Listed) (book : Contents) (body : B) → IsListed after → after.book ≡ book → keeps book body → AreKept keeps after body
keeps_more keeps after book body lists same kept = record { lists = lists; kept = subst (λ (b : Contents). keeps b body) (sym same) kept }
