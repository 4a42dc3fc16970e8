use Rattle.std.proofs.Common.{◌≡◌, ◌<◌, IfSome, Some, length, subst}
use Rattle.std.specs.Prelude.{slice_get}
use Rattle.palm_book.specs.Book.{Contents}
use Rattle.palm_session.proofs.Admitting.{enforce_admitted}
use Rattle.palm_session.proofs.Standing.{found_name}
use Rattle.palm_session.proofs.desk.Desk.admit_enforce.Goals as goal

pub returns : goal.returns
returns g c =
    let s = c.args.self.now.state in
    let name = c.args.name.now in
    let place = c.in-Some.place in
    let entry = c.constraint.result.now in
    let found = subst (λ (b : Contents). IfSome (slice_get b.constraints place) (λ e. e.name ≡ name) × (place < length b.constraints)) c.book.ensures c.in-Some.ensures.found in
    let at = subst (λ (b : Contents). slice_get b.constraints place ≡ Some entry) c.book-2.ensures c.constraint.ensures.at in
    enforce_admitted s name place entry at (found_name s place name entry found.0 at) c.requires c.if-constraint.false
