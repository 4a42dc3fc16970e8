use Rattle.std.proofs.Common.{◌∙◌, List, take_all, sym, ap, arith}
use Rattle.palm_base.specs.declared.terms.Cid.TheVariants.{User}
use Rattle.palm_book.specs.declared.book.BookCon.{BookCon}
use Rattle.proof_text.specs.Draft.{users_of}
use Rattle.proof_check.specs.Marks.{marked_in}
use Rattle.proof_check.proofs.Picking.{made_more, made_same}
use Rattle.proof_check.proofs.users.marked_users.Goals.{then-is_marked+in_ok-push, else-is_marked}
use Rattle.proof_check.proofs.users.marked_users.Goals as goal

pub loop-place-init : goal.loop-place-init
loop-place-init c = c.new-users.ensures

pub loop-place-preserved : goal.loop-place-preserved
loop-place-preserved c =
    let marks = c.args.marks.now in
    let cs = c.args.book.now.constraints in
    let con = c.constraint.result.now in
    let i = c.loop-place.place in
    elim c.if-is_marked.branch [
      | then-is_marked+in_ok-push w ↦ w.users-is ∙ w.in_ok-push.ensures.ok ∙ made_more (λ (d : BookCon). User d.number) marks cs i con c.loop-place.users c.constraint.ensures.at (sym c.is_marked.ensures ∙ w.if-is_marked.true) c.loop-place.invariant
      | else-is_marked w ↦ w.users-is ∙ made_same (λ (d : BookCon). User d.number) marks cs i con c.loop-place.users c.constraint.ensures.at (sym c.is_marked.ensures ∙ w.if-is_marked.false) c.loop-place.invariant
    ]

pub returns : goal.returns
returns c =
    c.loop-place.invariant
    ∙ ap (λ (cs : List BookCon). users_of (marked_in c.args.marks.now cs)) (take_all c.loop-place.place c.args.book.now.constraints (omega (arith, c.loop-place-test.false, c.constraints-place-end.ensures.count)))
