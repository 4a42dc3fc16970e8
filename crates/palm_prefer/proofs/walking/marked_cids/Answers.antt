use Rattle.std.proofs.Common.{◌++◌, ◌∷◌, [], List, sym, ap, ◌∙◌, arith}
use Rattle.palm_base.specs.declared.terms.Cid.{Cid}
use Rattle.palm_base.specs.declared.terms.Cid.TheVariants.{User}
use Rattle.palm_model.specs.Log.{Active, cids_of}
use Rattle.palm_prefer.proofs.Naming.{marked_more, marked_same, marked_whole}
use Rattle.palm_prefer.proofs.Weighing.{entry_within}
use Rattle.palm_prefer.proofs.walking.marked_cids.Goals as goal
use Rattle.palm_prefer.proofs.walking.marked_cids.Goals.{then-marks-place+in_ok-push, else-marks-place}

pub loop-place-preserved : goal.loop-place-preserved
loop-place-preserved c =
    let cs = c.args.book.now.constraints in
    let r = entry_within cs c.loop-place.place (omega (arith, c.loop-place-test.true, c.constraints-place-end.ensures.count)) in
    elim c.if-marks-place.branch [
      | then-marks-place+in_ok-push w ↦
          w.cids-is ∙ w.in_ok-push.ensures.ok ∙ ap (λ (z : List Cid). z ++ User w.constraint.result.now.number ∷ []) c.loop-place.invariant
          ∙ sym (marked_more cs c.args.marks.now c.loop-place.place w.constraint.result.now w.constraint.ensures.at c.requires w.if-marks-place.true)
      | else-marks-place w ↦ w.cids-is ∙ c.loop-place.invariant ∙ sym (marked_same cs c.args.marks.now c.loop-place.place r.0 r.1 c.requires w.if-marks-place.false)
    ]

pub returns : goal.returns
returns c =
    c.loop-place.invariant
    ∙ ap (λ (z : List Active). cids_of z) (marked_whole c.args.book.now.constraints c.args.marks.now c.loop-place.place (omega (arith, c.loop-place-test.false, c.constraints-place-end.ensures.count)))
