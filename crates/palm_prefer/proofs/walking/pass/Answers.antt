use Rattle.std.proofs.Common.{◌++◌, ◌∷◌, [], Bool, List, true, false, set, sym, subst, ◌∙◌}
use Rattle.std.proofs.lemmas.List.{length-set}
use Rattle.palm_base.specs.Order.{Rises}
use Rattle.palm_base.specs.declared.terms.Cid.{Cid}
use Rattle.palm_book.specs.Book.{active_of, initial_of, user_at}
use Rattle.palm_book.specs.declared.book.BookCon.{BookCon}
use Rattle.palm_reduce.specs.Marked.{marked}
use Rattle.palm_reduce.specs.Walked.{HasMarked, HasOnly}
use Rattle.palm_prefer.specs.Preferred.{Walks}
use Rattle.palm_prefer.proofs.Moving.{back_only, entry_same, free_back, inactive_same, is_there, joins_now, kept_back, kept_more, leaves_now, more_filled, not_kept, rises_now}
use Rattle.palm_prefer.proofs.Weighing.{entry_within}
use Rattle.palm_prefer.proofs.walking.pass.Goals as goal

pub post-requires-clause-inactive : goal.post-requires-clause-inactive
post-requires-clause-inactive g c d too =
    let book = c.args.book.now in
    let w = c.args.walk.now in
    inactive_same w.engine.state.active (active_of (marked book w.marks.items)) c.requires.fits.filled.active (user_at d).cid
    (not_kept book c.requires.book w.marks.items c.args.place d too c.requires.unmarked)

pub minimal_conflict_in-requires-clause-kept : goal.minimal_conflict_in-requires-clause-kept
minimal_conflict_in-requires-clause-kept g c =
    let w = c.args.walk.now in
    rw c.as_slice.ensures.value (kept_more c.args.book.now c.args.kinds.now w.marks.items c.args.place c.requires.fits.kept c.requires.kept)

pub minimal_conflict_in-requires-clause-filled : goal.minimal_conflict_in-requires-clause-filled
minimal_conflict_in-requires-clause-filled g c =
    let book = c.args.book.now in
    let w = c.args.walk.now in
    let r = entry_within book.constraints c.args.place c.requires.within in
    subst (λ (z : List Bool). HasMarked book z c.post.new.engine.state) (sym c.as_slice.ensures.value)
    (more_filled book c.requires.book w.marks.items c.args.place r.0 r.1 c.requires.unmarked c.requires.fits.whole
    w.engine.state c.post.new.engine.state c.requires.fits.filled (c.in_ok-post.ensures r.0 r.1))

-- ---- it joins

pub returns-in-None-clause-walked : goal.returns-in-None-clause-walked
returns-in-None-clause-walked g c start walked d too before =
    let w = c.args.walk.now in
    let none = rw (c.in-None.is, c.as_slice.ensures.value) at c.in_ok-conflict.ensures.answer in
    joins_now c.args.book.now c.requires.book w.marks.items c.args.place d too c.requires.unmarked c.requires.fits.whole start walked w.left before none

pub returns-in-None-clause-fits : goal.returns-in-None-clause-fits
returns-in-None-clause-fits g c =
    let w = c.args.walk.now in
    record {
      whole = length-set w.marks.items c.args.place true ∙ c.requires.fits.whole;
      kept = kept_more c.args.book.now c.args.kinds.now w.marks.items c.args.place c.requires.fits.kept c.requires.kept;
      filled = rw (c.in-None.is, c.as_slice.ensures.value) at c.in_ok-conflict.ensures.stay;
      free = rw (c.in-None.is, c.as_slice.ensures.value) at c.in_ok-conflict.ensures.answer;
    }

-- ---- it is left out

pub withdraw-requires : goal.withdraw-requires
withdraw-requires g c =
    let w = c.args.walk.now in
    let minimal = rw (c.in-Some.is, c.as_slice.ensures.value) at c.in_ok-conflict.ensures.answer in
    let only = rw (c.in-Some.is, c.as_slice.ensures.value) at c.in_ok-conflict.ensures.only in
    is_there c.args.book.now c.requires.book w.marks.items c.args.place c.constraint.result.now c.constraint.ensures.at c.requires.unmarked c.requires.fits.whole
    c.in-Some.conflict minimal c.minimal_conflict_in.new.engine.state only c.requires.fits.free

pub post_others-requires-clause-kept : goal.post_others-requires-clause-kept
post_others-requires-clause-kept g c =
    let w = c.args.walk.now in
    rw c.as_slice-in-Some.ensures.value
    (kept_back c.args.book.now c.requires.book w.marks.items c.args.place c.constraint.result.now c.constraint.ensures.at c.requires.unmarked c.args.kinds.now c.requires.fits.kept)

pub post_others-requires-clause-rising : goal.post_others-requires-clause-rising
post_others-requires-clause-rising g c =
    let w = c.args.walk.now in
    let minimal = rw (c.in-Some.is, c.as_slice.ensures.value) at c.in_ok-conflict.ensures.answer in
    subst Rises (sym c.as_slice-in-Some-2.ensures)
    (rises_now c.args.book.now c.requires.book w.marks.items c.args.place c.constraint.result.now c.constraint.ensures.at c.requires.unmarked c.requires.fits.whole
    c.in-Some.conflict minimal)

pub post_others-requires-clause-only : goal.post_others-requires-clause-only
post_others-requires-clause-only g c =
    let book = c.args.book.now in
    let w = c.args.walk.now in
    let minimal = rw (c.in-Some.is, c.as_slice.ensures.value) at c.in_ok-conflict.ensures.answer in
    let only = rw (c.in-Some.is, c.as_slice.ensures.value) at c.in_ok-conflict.ensures.only in
    subst (λ (z : List Cid). HasOnly book c.as_slice-in-Some.result.now z c.withdraw.new.self.state) (sym c.as_slice-in-Some-2.ensures)
    (subst (λ (z : List Bool). HasOnly book z c.in-Some.conflict c.withdraw.new.self.state) (sym c.as_slice-in-Some.ensures.value)
    (back_only book c.requires.book w.marks.items c.args.place c.constraint.result.now c.constraint.ensures.at c.requires.unmarked c.requires.fits.whole
    c.in-Some.conflict minimal c.minimal_conflict_in.new.engine.state only c.withdraw.new.self.state c.withdraw.ensures.withdraws))

pub returns-in_ok-push-in-Some-clause-walked : goal.returns-in_ok-push-in-Some-clause-walked
returns-in_ok-push-in-Some-clause-walked g c start walked d too before =
    let book = c.args.book.now in
    let w = c.args.walk.now in
    let entry = c.constraint.result.now in
    let minimal = rw (c.in-Some.is, c.as_slice.ensures.value) at c.in_ok-conflict.ensures.answer in
    subst (λ (z : BookCon). Walks (initial_of book) start (walked ++ z ∷ []) (active_of (marked book (set (set w.marks.items c.args.place true) c.args.place false))) c.push.new.self)
    (entry_same book.constraints c.args.place entry d c.constraint.ensures.at too)
    (leaves_now book c.requires.book w.marks.items c.args.place entry c.constraint.ensures.at c.requires.unmarked c.requires.fits.whole
    c.in-Some.conflict minimal start walked w.left c.push.new.self before c.in_ok-push-in-Some.ensures.ok)

pub returns-in_ok-push-in-Some-clause-fits : goal.returns-in_ok-push-in-Some-clause-fits
returns-in_ok-push-in-Some-clause-fits g c =
    let book = c.args.book.now in
    let w = c.args.walk.now in
    let entry = c.constraint.result.now in
    record {
      whole = length-set (set w.marks.items c.args.place true) c.args.place false ∙ length-set w.marks.items c.args.place true ∙ c.requires.fits.whole;
      kept = kept_back book c.requires.book w.marks.items c.args.place entry c.constraint.ensures.at c.requires.unmarked c.args.kinds.now c.requires.fits.kept;
      filled = subst (λ (z : List Bool). HasMarked book z c.post_others.new.engine.state) c.as_slice-in-Some.ensures.value c.in_ok-post_others-in-Some.ensures;
      free = free_back book c.requires.book w.marks.items c.args.place entry c.constraint.ensures.at c.requires.unmarked c.requires.fits.free;
    }
