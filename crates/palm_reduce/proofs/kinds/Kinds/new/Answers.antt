use Rattle.std.proofs.Common.{◌∷◌, [], ◌+◌, Bor, List, Option, length, sym, ap, subst, arith}
use Rattle.std.proofs.lemmas.List.{length-append}
use Rattle.palm_kind.specs.declared.kind.Kind.{Kind}
use Rattle.palm_reduce.proofs.Keeping.{AreKeptBefore, can_lend_at, kept_next}
use Rattle.palm_reduce.proofs.kinds.Kinds.new.Goals as goal

pub loop-place-preserved : goal.loop-place-preserved
loop-place-preserved c =
    let book = c.args.book.now in
    let marks = c.args.marks.now in
    let place = c.loop-place.place in
    let entry = c.constraint.result.now in
    let at = c.constraint.ensures.at in
    let kept = c.loop-place.kept.items in
    let items = c.in_ok-push.ensures.items in (
      omega (arith, ap length items, length-append kept (c.kind_where.result ∷ []), c.loop-place.invariant.0),
      subst (λ (z : List (Option (Bor Kind))). AreKeptBefore book.constraints marks (place + 1) z) (sym {A = List (Option (Bor Kind))} items)
          (kept_next book.constraints marks place kept c.kind_where.result entry c.loop-place.invariant.0 at
          (λ on. c.kind_where.ensures on entry.con (can_lend_at book marks c.args.lender.now.state c.requires.whole c.requires.lends place entry at on)) c.loop-place.invariant.1),
    )
