use Rattle.std.proofs.Common.{◌≡◌, List, false, filter, take}
use Rattle.std.specs.List.{list_any}
use Rattle.palm_cert.specs.Certificate.{is_cited}
use Rattle.palm_cert.specs.Needs.{cites_of}
use Rattle.palm_model.specs.Log.{Removal}
use Rattle.palm_model.specs.State.{is_over}
use Rattle.palm_cert.proofs.usage.is_used.Given as goal

-- none of the constraints so far is over the variable
abbrev pub invariant-loop-place : goal.invariant-loop-place
invariant-loop-place l =
    (rs : List Removal) → l.marks ≡ cites_of l.book rs → list_any (λ c. is_over c.con l.var) (filter (is_cited rs) (take l.place l.book.constraints)) ≡ false
