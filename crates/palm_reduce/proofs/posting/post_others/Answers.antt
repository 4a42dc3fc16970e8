use Rattle.std.proofs.Common.{◌+◌, true, false, refl, sym, subst, arith}
use Rattle.palm_base.proofs.cited.Telling.{tells_false, tells_true}
use Rattle.palm_book.specs.declared.book.BookCon.{BookCon}
use Rattle.palm_engine.specs.Engine.{View}
use Rattle.palm_model.specs.Log.{IsActive}
use Rattle.palm_book.specs.Book.{user_at}
use Rattle.palm_reduce.specs.Marked.{marked}
use Rattle.palm_reduce.proofs.Filling.{HasFirst, entry_same, first_all, first_none, first_posted, first_relaxed, first_there, not_yet}
use Rattle.palm_reduce.proofs.cited.Marking.{entry_within, marked_here, marked_is_book}
use Rattle.palm_reduce.proofs.posting.post_others.Goals as goal
use Rattle.palm_reduce.proofs.posting.post_others.Goals.{then-marks-place+then-not-is_among+in_ok-post, else-marks-place, else-marks-place-via-then-marks-place+else-not-is_among, else-marks-place-via-else-marks-place}

pub loop-place-init : goal.loop-place-init
loop-place-init c = first_none c.args.book.now c.args.marks.now c.args.cids.now c.args.engine.now.state c.requires.only

pub post-requires-clause-inactive : goal.post-requires-clause-inactive
post-requires-clause-inactive c d too =
    let cs = c.args.book.now.constraints in
    let book = marked c.args.book.now c.args.marks.now in
    let is = marked_is_book c.args.book.now c.args.marks.now c.constraints-place-end.ensures.valid in
    let place = c.loop-place.place in
    let con = c.constraint.result.now in
    let entry : BookCon = record con { active = true } in
    let at = marked_here cs c.args.marks.now place con true c.requires.whole c.constraint.ensures.at c.if-marks-place.true in
    subst (λ (z : BookCon). IsActive c.loop-place.engine.state.active (user_at z).cid → ⊥) (entry_same cs place con d c.constraint.ensures.at too)
    (not_yet book is c.args.cids.now place entry at c.loop-place.engine.state c.loop-place.invariant refl
    (tells_false _ c.is_among.result c.is_among.ensures c.if-not-is_among.true))

pub loop-place-preserved : goal.loop-place-preserved
loop-place-preserved c =
    let cs = c.args.book.now.constraints in
    let marks = c.args.marks.now in
    let cids = c.args.cids.now in
    let book = marked c.args.book.now marks in
    let is = marked_is_book c.args.book.now marks c.constraints-place-end.ensures.valid in
    let place = c.loop-place.place in
    let s = c.loop-place.engine.state in
    elim c.if-marks-place.branch [
      | then-marks-place+then-not-is_among+in_ok-post w ↦
          let con = w.constraint.result.now in
          let entry : BookCon = record con { active = true } in
          let at = marked_here cs marks place con true c.requires.whole w.constraint.ensures.at w.if-marks-place.true in
          subst (λ (v : View). HasFirst book cids (place + 1) v.state) (sym w.engine-is)
          (first_posted book is cids place entry at s c.loop-place.invariant refl (tells_false _ w.is_among.result w.is_among.ensures w.if-not-is_among.true)
          w.post.new.engine.state (w.in_ok-post.ensures con w.constraint.ensures.at))
      | else-marks-place w ↦
          subst (λ (v : View). HasFirst book cids (place + 1) v.state) (sym w.engine-is)
          (elim w.else-marks-place.branch [
            | else-marks-place-via-then-marks-place+else-not-is_among x ↦
                let con = x.constraint.result.now in
                let entry : BookCon = record con { active = true } in
                let at = marked_here cs marks place con true c.requires.whole x.constraint.ensures.at x.if-marks-place.true in
                first_there book is cids place entry at s c.loop-place.invariant refl (tells_true _ x.is_among.result x.is_among.ensures x.if-not-is_among.false)
            | else-marks-place-via-else-marks-place x ↦
                let found = entry_within cs place (omega (arith, c.loop-place-test.true, c.constraints-place-end.ensures.count)) in
                let entry : BookCon = record found.0 { active = false } in
                let at = marked_here cs marks place found.0 false c.requires.whole found.1 x.if-marks-place.false in
                first_relaxed book is cids place entry at s c.loop-place.invariant refl
          ])
    ]

pub returns : goal.returns
returns c =
    first_all c.args.book.now c.args.marks.now c.args.cids.now c.loop-place.place c.loop-place.engine.state
    (omega (arith, c.loop-place-test.false, c.constraints-place-end.ensures.count)) c.loop-place.invariant
