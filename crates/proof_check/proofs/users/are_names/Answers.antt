use Rattle.std.proofs.Common.{◌∙◌, ◌+◌, ℕ, sym, subst, arith}
use Rattle.proof_check.proofs.Picking.{AreNamed, named_more, named_none, named_same, names_differ, names_told}
use Rattle.proof_check.proofs.users.are_names.Goals as goal
use Rattle.proof_check.proofs.users.are_names.Goals.{then-is_marked+else-not-is_at, else-is_marked}

pub loop-place-init : goal.loop-place-init
loop-place-init c = named_none c.args.marks.now c.args.book.now.constraints c.args.names.now

pub returns-then-not-is_at : goal.returns-then-not-is_at
returns-then-not-is_at c =
    names_differ c.args.marks.now c.args.book.now.constraints c.args.names.now c.loop-place.place c.loop-place.matched c.constraint-constraint.result.now c.constraint-constraint.ensures.at
    (sym c.is_marked.ensures ∙ c.if-is_marked.true) c.loop-place.invariant c.if-not-is_at.ensures

pub loop-place-preserved : goal.loop-place-preserved
loop-place-preserved c =
    let marks = c.args.marks.now in
    let cs = c.args.book.now.constraints in
    let names = c.args.names.now in
    let con = c.constraint-constraint.result.now in
    elim c.if-is_marked.branch [
      | then-is_marked+else-not-is_at w ↦
          subst (λ (k : ℕ). AreNamed marks cs names (c.loop-place.place + 1) k) (sym w.matched-is)
          (named_more marks cs names c.loop-place.place c.loop-place.matched con c.constraint-constraint.ensures.at (sym c.is_marked.ensures ∙ w.if-is_marked.true) c.loop-place.invariant w.if-not-is_at.ensures)
      | else-is_marked w ↦
          subst (λ (k : ℕ). AreNamed marks cs names (c.loop-place.place + 1) k) (sym w.matched-is)
          (named_same marks cs names c.loop-place.place c.loop-place.matched con c.constraint-constraint.ensures.at (sym c.is_marked.ensures ∙ w.if-is_marked.false) c.loop-place.invariant)
    ]

pub returns : goal.returns
returns c = names_told c.args.marks.now c.args.book.now.constraints c.args.names.now c.loop-place.place c.loop-place.matched (omega (arith, c.loop-place-test.false, c.constraints-place-end.ensures.count)) c.loop-place.invariant
