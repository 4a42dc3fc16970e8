use Rattle.std.proofs.Common.{◌≡◌, List, [], ◌∷◌, ◌++◌, refl, ap, ◌∙◌, arith}
use Rattle.palm_book.specs.Book.{Contents}
use Rattle.palm_book.specs.declared.book.BookCon.{BookCon}
use Rattle.tests_language.proofs.samples.add_two.Goals as goal

pub returns-clause-first : goal.returns-clause-first
returns-clause-first c =
    let one = c.in_ok-linear.field-0 in
    let two = c.in_ok-compared.field-0 in
    let constraints : Contents → List BookCon = λ b. b.constraints in
    let added : List BookCon → List BookCon = λ cs. cs ++ one ∷ [] in
    let first : constraints c.add_constraint.new.self ≡ one ∷ [] = ap constraints c.in_ok-add_constraint.ensures.ok ∙ ap added c.in_ok-declare_two.ensures.constraints in
    let both : constraints c.add_constraint-2.new.self ≡ one ∷ two ∷ [] = ap constraints c.in_ok-add_constraint-2.ensures.ok ∙ ap (λ (cs : List BookCon). cs ++ two ∷ []) first in
    rw both (0, one, omega arith, refl, c.in_ok-linear.ensures.number)
