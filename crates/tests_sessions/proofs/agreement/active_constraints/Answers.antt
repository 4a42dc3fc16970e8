use Rattle.std.proofs.Common.{◌≡◌, map, filter, All, length, arith, sym, subst, ◌∙◌, ap, List}
use Rattle.std.proofs.lemmas.List.{take_all}
use Rattle.palm_book.specs.Book.{active_of}
use Rattle.palm_book.specs.declared.book.BookCon.{BookCon}
use Rattle.palm_book.proofs.cited.Actives.{active_cons, active_formed, active_more, active_same}
use Rattle.palm_model.specs.Constraint.{IsWellFormed}
use Rattle.palm_model.specs.Log.{cons_of}
use Rattle.palm_model.specs.declared.constraint.Con.{Con}
use Rattle.tests_sessions.proofs.agreement.active_constraints.Goals as goal
use Rattle.tests_sessions.proofs.agreement.active_constraints.Goals.{then-entry+in_ok-copy_of+in_ok-push, else-entry}

pub loop-place-preserved : goal.loop-place-preserved
loop-place-preserved c =
    let at = c.constraint-entry.ensures.at in
    let before = c.loop-place.invariant in
    elim c.if-entry.branch [
      | then-entry+in_ok-copy_of+in_ok-push w ↦
          let more = active_more c.args.book.now.constraints c.loop-place.place c.constraint-entry.result.now at w.if-entry.true in
          let copied = w.in_ok-copy_of.ensures in w.list-is ∙ w.in_ok-push.ensures.ok ∙ (cc)
      | else-entry w ↦
          w.list-is ∙ before ∙ active_same c.args.book.now.constraints c.loop-place.place c.constraint-entry.result.now at w.if-entry.false
    ]

pub returns-clause-active : goal.returns-clause-active
returns-clause-active c =
    c.loop-place.invariant ∙ ap (λ (cs : List BookCon). map (λ (e : BookCon). e.con) (filter (λ (e : BookCon). e.active) cs)) (take_all c.loop-place.place c.args.book.now.constraints (omega (arith, c.loop-place-test.false, c.constraints-place-end.ensures.count)))
    ∙ sym (active_cons c.args.book.now)

pub returns-clause-formed : goal.returns-clause-formed
returns-clause-formed c =
    let all : c.loop-place.list ≡ cons_of (active_of c.args.book.now)
    = c.loop-place.invariant ∙ ap (λ (cs : List BookCon). map (λ (e : BookCon). e.con) (filter (λ (e : BookCon). e.active) cs)) (take_all c.loop-place.place c.args.book.now.constraints (omega (arith, c.loop-place-test.false, c.constraints-place-end.ensures.count)))
    ∙ sym (active_cons c.args.book.now) in
    subst (λ (cs : List Con). All (IsWellFormed (length c.args.book.now.variables)) cs) (sym all) (active_formed c.args.book.now c.constraints-place-end.ensures.valid)
