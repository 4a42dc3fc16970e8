use Rattle.std.proofs.Common.{◌<◌, ◌≡◌, List, All, false, get_or, length, sym, ap, ◌∙◌, subst}
use Rattle.palm_book.specs.Book.{active_of, initial_of}
use Rattle.palm_model.specs.Log.{Active, cids_of}
use Rattle.palm_model.specs.Minimal.{AreConflict}
use Rattle.palm_reduce.specs.Kept.{IsKeptAt}
use Rattle.palm_reduce.specs.Marked.{marked}
use Rattle.palm_prefer.specs.Preferred.{Walks}
use Rattle.palm_prefer.specs.Walked.{cons_at}
use Rattle.palm_prefer.specs.declared.order.Soft.{Soft}
use Rattle.palm_prefer.proofs.Ordering.{hard_book, hard_kept, is_order, softs_kept, softs_unmarked, softs_within}
use Rattle.palm_prefer.proofs.choosing.keep_most.Goals as goal

pub walk_over-requires-clause-within : goal.walk_over-requires-clause-within
walk_over-requires-clause-within g c =
    subst (λ (z : List Soft). All (λ s. s.place < length c.args.book.now.constraints) z) (sym c.as_slice.ensures.value)
    (softs_within c.args.book.now.constraints c.args.weights.now c.in_ok-order.order.items c.in_ok-order.ensures.are)

pub walk_over-requires-clause-unmarked : goal.walk_over-requires-clause-unmarked
walk_over-requires-clause-unmarked g c =
    subst (λ (z : List Soft). All (λ s. get_or c.args.marks.items s.place false ≡ false) z) (sym c.as_slice.ensures.value)
    (softs_unmarked c.args.book.now.constraints c.args.weights.now c.in_ok-order.order.items c.args.marks.items c.in_ok-order.ensures.are c.requires.marks)

pub walk_over-requires-clause-free : goal.walk_over-requires-clause-free
walk_over-requires-clause-free g c =
    let book = c.args.book.now in
    subst (λ (z : List Active). AreConflict (initial_of book) z → ⊥) (sym (hard_book book c.args.weights.now c.args.marks.items c.requires.marks)) c.requires.free

pub walk_over-requires-clause-kept : goal.walk_over-requires-clause-kept
walk_over-requires-clause-kept g c = hard_kept c.args.book.now c.args.weights.now c.args.kinds.now c.args.marks.items c.requires.marks c.requires.kept

pub walk_over-requires-clause-lent : goal.walk_over-requires-clause-lent
walk_over-requires-clause-lent g c =
    subst (λ (z : List Soft). All (λ s. IsKeptAt c.args.book.now s.place c.args.kinds.now) z) (sym c.as_slice.ensures.value)
    (softs_kept c.args.book.now c.args.weights.now c.args.kinds.now c.in_ok-order.order.items c.in_ok-order.ensures.are c.requires.kept)

pub returns : goal.returns
returns g c =
    let book = c.args.book.now in
    let ws = c.args.weights.now in
    let kept = active_of (marked book c.in_ok-walk.walk.marks.items) in record {
      free = c.requires.free;
      order = cons_at book.constraints c.in_ok-order.order.items;
      ordered = is_order book c.requires.book.rising ws c.requires.weights c.in_ok-order.order.items c.in_ok-order.ensures;
      kept = kept;
      walk = subst (λ (z : List Active). Walks (initial_of book) z (cons_at book.constraints c.in_ok-order.order.items) kept c.in_ok-walk.walk.left) (hard_book book ws c.args.marks.items c.requires.marks)
          (subst (λ (z : List Soft). Walks (initial_of book) (active_of (marked book c.args.marks.items)) (cons_at book.constraints z) kept c.in_ok-walk.walk.left) c.as_slice.ensures.value c.in_ok-walk.ensures.walked);
      named = c.in_ok-keep.ensures ∙ ap (λ z. cids_of (active_of (marked book z))) c.as_slice-2.ensures.value;
    }
