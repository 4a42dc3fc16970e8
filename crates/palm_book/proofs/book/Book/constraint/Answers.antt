use Rattle.std.proofs.Common.{◌<◌, ℕ, ℤ, List, length, map, sym, subst, arith}
use Rattle.std.proofs.lemmas.List.{length-map}
use Rattle.palm_book.specs.Book.{Contents}
use Rattle.palm_book.specs.declared.book.BookCon.{BookCon}
use Rattle.palm_book.proofs.cited.BookLemmas.{holds_at}
use Rattle.palm_model.specs.Constraint.{IsWellFormed}
use Rattle.palm_book.proofs.book.Book.constraint.Goals as goal

pub returns-clause-formed : goal.returns-clause-formed
returns-clause-formed c =
    let es = c.self.inside.constraints.entries in
    let second : List ℕ × BookCon → BookCon = λ e. e.1 in
    let kept : c.args.place < length (map second es) = subst (λ (b : Contents). c.args.place < length b.constraints) (sym c.self.view_is) c.requires in
    let within : c.args.place < length es = omega (arith, length-map es second) in
    let here = holds_at (λ x. IsWellFormed (length (map (λ (e : List ℕ × List ℤ). record { name = e.0; values = e.1 }) c.self.inside.variables.entries)) x.con) es c.args.place c.value_at.result.now within c.value_at.ensures c.self.invariant.0.formed in
    subst (λ (b : Contents). IsWellFormed (length b.variables) c.value_at.result.now.con) c.self.view_is here
