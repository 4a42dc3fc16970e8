use Rattle.std.proofs.Common.{◌≢◌, All, IfNone, map, Option, Some, None, ℕ, List, subst}
use Rattle.palm_book.specs.Book.{Contents}
use Rattle.palm_book.specs.declared.book.BookCon.{BookCon}
use Rattle.palm_book.proofs.cited.BookLemmas.{AreKeyed, names_fresh}
use Rattle.palm_book.proofs.book.Book.constraint_named.Goals as goal

none : (es : List (List ℕ × BookCon)) (name : List ℕ) (r : Option ℕ) → AreKeyed es → IfNone r (All (λ e. e.0 ≢ name) es) → IfNone r (All (λ (x : BookCon). x.name ≢ name) (map (λ e. e.1) es))
none es name None keyed h = names_fresh es name keyed h
none es name (Some place) keyed h = tt

pub returns-clause-none : goal.returns-clause-none
returns-clause-none c =
    let name = c.args.name.now in
    let r = c.place_of_name.result in
    subst (λ (b : Contents). IfNone r (All (λ x. x.name ≢ name) b.constraints)) c.self.view_is (none c.self.inside.constraints.entries name r c.self.invariant.1 c.place_of_name.ensures.none)
