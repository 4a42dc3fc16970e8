use Rattle.std.proofs.Common.{List, ℕ, ap, ◌∙◌, map}
use Rattle.palm_book.specs.Book.{Contents}
use Rattle.palm_book.specs.declared.book.BookCon.{BookCon}
use Rattle.palm_book.proofs.cited.BookLemmas.{IsBook-without, AreKeyed-remove, map-remove}
use Rattle.palm_book.proofs.book.Book.remove.Goals as goal

pub invariant_of-self : goal.invariant_of-self
invariant_of-self c =
    let es = c.self.inside.constraints.entries in
    let second : List ℕ × BookCon → BookCon = λ e. e.1 in
    let taken = ap (map second) c.remove_at.ensures ∙ map-remove second es c.args.place in (
      IsBook-without _ _ c.self.view_is c.self.invariant.0 c.args.place _ c.requires taken,
      AreKeyed-remove es _ c.args.place c.self.invariant.1 c.remove_at.ensures,
    )

pub returns : goal.returns
returns c =
    let es = c.self.inside.constraints.entries in
    let second : List ℕ × BookCon → BookCon = λ e. e.1 in
    let taken = ap (map second) c.remove_at.ensures ∙ map-remove second es c.args.place in
    let with_constraints : List BookCon → Contents = λ cs. record { variables = map (λ e. record { name = e.0; values = e.1 }) c.self.inside.variables.entries; constraints = cs } in
    rw (← c.self.view_is) (ap with_constraints taken)
