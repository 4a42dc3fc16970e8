use Rattle.std.proofs.Common.{ap, sym, ◌∙◌}
use Rattle.std.proofs.lemmas.Bool.{false≢true}
use Rattle.palm_base.proofs.cited.Members.{member_place}
use Rattle.palm_book.specs.declared.book.BookCon.{BookCon}
use Rattle.palm_prefer.proofs.Weighing.{at_number, same_con}
use Rattle.palm_prefer.proofs.order.soft_at.Goals as goal

pub returns-then-not-constraint-clause-none : goal.returns-then-not-constraint-clause-none
returns-then-not-constraint-clause-none c d m numbered on =
    let cs = c.args.book.now.constraints in
    let entry = c.constraint.result.now in
    let p = member_place cs d m in
    let n = at_number cs c.in_ok-place.place entry c.args.weight.now.number c.constraint.ensures.at c.in_ok-place.ensures.found.0 in
    let same = same_con cs c.requires.rising c.in_ok-place.place p.0 entry d c.constraint.ensures.at p.1 (n ∙ sym numbered) in
    false≢true (sym c.if-not-constraint.true ∙ ap (λ (z : BookCon). z.active) same ∙ on)
