use Rattle.std.proofs.Common.{◌<◌, ◌+◌, Vec, Global, length, not, sym, ap, subst, arith}
use Rattle.std.proofs.lemmas.List.Filters.{FiltersInPlace, FiltersInPlace-more_no, FiltersInPlace-more_swap}
use Rattle.palm_explain.specs.declared.entry.Entry.{Entry}
use Rattle.palm_explain.proofs.ClosingUp.{closing_start}
use Rattle.palm_explain.proofs.withdrawing.close_up.Goals as goal
use Rattle.palm_explain.proofs.withdrawing.close_up.Goals.{then-not-index, else-not-index}

pub loop-place-init : goal.loop-place-init
loop-place-init c = closing_start c.args.log.now.items c.args.start c.requires.within c.requires.before

pub loop-place-preserved : goal.loop-place-preserved
loop-place-preserved c =
    let old = c.args.log.now.items in
    let is = c.loop-place.invariant in
    let long = is.long in
    let within : c.loop-place.place < length c.loop-place.log.items = omega (arith, long, c.loop-place-test.true, c.len-place-end.ensures, c.args.log.now.ok.0) in
    elim c.if-not-index.branch [
      | then-not-index w ↦
          let is-log = ap (λ (v : Vec Entry Global). v.items) w.log-is in
          subst (λ es. FiltersInPlace (λ (e : Entry). not e.mark) old es c.if-not-index.kept (c.loop-place.place + 1)) (sym is-log)
          (subst (λ k. FiltersInPlace (λ (e : Entry). not e.mark) old w.swap.new.self.items k (c.loop-place.place + 1)) (sym w.kept-is)
          (FiltersInPlace-more_swap is within (ap not w.if-not-index.true) c.index.ensures w.swap.ensures.by_index))
      | else-not-index w ↦
          let is-log = ap (λ (v : Vec Entry Global). v.items) w.log-is in
          subst (λ es. FiltersInPlace (λ (e : Entry). not e.mark) old es c.if-not-index.kept (c.loop-place.place + 1)) (sym is-log)
          (subst (λ k. FiltersInPlace (λ (e : Entry). not e.mark) old c.loop-place.log.items k (c.loop-place.place + 1)) (sym w.kept-is)
          (FiltersInPlace-more_no is within (ap not w.if-not-index.false) c.index.ensures))
    ]
