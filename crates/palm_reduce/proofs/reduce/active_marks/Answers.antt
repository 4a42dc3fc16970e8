use Rattle.std.proofs.Common.{◌++◌, ◌∷◌, [], Bool, List, map, take, ap, sym, ◌∙◌, arith}
use Rattle.std.proofs.lemmas.List.{map-append, take_all}
use Rattle.palm_book.specs.declared.book.BookCon.{BookCon}
use Rattle.palm_reduce.proofs.Splitting.{before_next}
use Rattle.palm_reduce.proofs.reduce.active_marks.Goals as goal

pub loop-place-preserved : goal.loop-place-preserved
loop-place-preserved c =
    let cs = c.args.book.now.constraints in
    let entry = c.constraint.result.now in
    c.in_ok-push.ensures.items
    ∙ ap (λ (z : List Bool). z ++ entry.active ∷ []) c.loop-place.invariant
    ∙ sym (ap (map (λ (e : BookCon). e.active)) (before_next cs c.loop-place.place entry c.constraint.ensures.at)
    ∙ map-append (λ (e : BookCon). e.active) (take c.loop-place.place cs) (entry ∷ []))

pub returns-clause-marks : goal.returns-clause-marks
returns-clause-marks c =
    let cs = c.args.book.now.constraints in
    c.loop-place.invariant ∙ ap (map (λ (e : BookCon). e.active)) (take_all c.loop-place.place cs (omega (arith, c.loop-place-test.false, c.constraints-place-end.ensures.count)))
