use Rattle.std.proofs.Common.{◌≢◌, ◌<◌, ℕ, List, ◌∷◌, [], map, ap, ◌∙◌, arith}
use Rattle.std.proofs.lemmas.List.{length-map, map-append}
use Rattle.palm_book.specs.Book.{Contents}
use Rattle.palm_book.specs.declared.book.BookCon.{BookCon}
use Rattle.tests_reduce.proofs.Listed.{all_unmapped}
use Rattle.tests_reduce.proofs.samples.add.Goals as goal

pub add_constraint-requires-clause-fresh : goal.add_constraint-requires-clause-fresh
add_constraint-requires-clause-fresh c =
    all_unmapped (λ (e : BookCon). e.name) (λ name. name ≢ c.args.entry.name) c.args.book.now.constraints c.requires.fresh

pub add_constraint-requires-clause-rising : goal.add_constraint-requires-clause-rising
add_constraint-requires-clause-rising c =
    all_unmapped (λ (e : BookCon). e.number) (λ number. number < c.args.entry.number) c.args.book.now.constraints c.requires.rising

pub add_constraint-requires-clause-room : goal.add_constraint-requires-clause-room
add_constraint-requires-clause-room c =
    omega (arith, length-map c.args.book.now.constraints (λ (e : BookCon). e.number), c.requires.room)

pub returns-clause-names : goal.returns-clause-names
returns-clause-names c =
    let name : BookCon → List ℕ = λ e. e.name in
    ap (λ (b : Contents). map name b.constraints) c.in_ok-add_constraint.ensures.ok ∙ map-append name c.args.book.now.constraints (c.args.entry ∷ [])

pub returns-clause-numbers : goal.returns-clause-numbers
returns-clause-numbers c =
    let number : BookCon → ℕ = λ e. e.number in
    ap (λ (b : Contents). map number b.constraints) c.in_ok-add_constraint.ensures.ok ∙ map-append number c.args.book.now.constraints (c.args.entry ∷ [])
