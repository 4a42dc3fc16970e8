use Rattle.std.proofs.Common.{◌≡◌, ◌∙◌, ℕ, List, sym, subst, arith}
use Rattle.palm_base.specs.declared.terms.Cid.{Cid}
use Rattle.palm_book.specs.Book.{active_of, initial_of}
use Rattle.palm_model.specs.Minimal.{IsMinimal}
use Rattle.palm_reduce.specs.Marked.{marked}
use Rattle.palm_reduce.specs.Properties.{HasProperty}
use Rattle.palm_reduce.specs.Walked.{HasOnly, HasWalked}
use Rattle.palm_reduce.specs.declared.reduce.Found.{Found}
use Rattle.palm_reduce.proofs.cited.Marking.{marked_is_book, marked_length}
use Rattle.palm_reduce.proofs.Passing.{walk_ends, walk_only, walk_starts}
use Rattle.palm_reduce.proofs.reduce.walk.Goals as goal

pub loop-place-init : goal.loop-place-init
loop-place-init g c =
    let property = c.args.property.now in
    let book = marked c.args.book.now c.args.marks.now in
    let s = c.args.engine.now.state in
    let found : Found = record { cids = c.new.result; core = c.args.core } in (
      omega (arith, c.constraints-place.ensures.count),
      subst (λ (n : ℕ). HasWalked property book n found s) (sym (c.constraints-place.ensures.count ∙ sym (marked_length c.args.book.now.constraints c.args.marks.now)))
          (walk_starts property book found s c.new.ensures.items c.requires.initial c.requires.active c.requires.core),
    )

pub returns-clause-minimal : goal.returns-clause-minimal
returns-clause-minimal g c =
    let property = c.args.property.now in
    let book = marked c.args.book.now c.args.marks.now in
    let done : c.loop-place.place ≡ 0 = omega (arith, c.loop-place-test.false) in
    subst (IsMinimal (HasProperty property (initial_of book)) (active_of book)) (sym (c.from_vec.ensures ∙ c.reverse.ensures.items))
    (walk_ends property book c.loop-place.place c.args.core c.loop-place.found c.loop-place.engine.state done c.requires.core c.loop-place.invariant.1)

pub returns-clause-only : goal.returns-clause-only
returns-clause-only g c =
    let book = c.args.book.now in
    let marks = c.args.marks.now in
    let is = marked_is_book book marks c.constraints-place.ensures.valid in
    let done : c.loop-place.place ≡ 0 = omega (arith, c.loop-place-test.false) in
    subst (λ (cids : List Cid). HasOnly book marks cids c.loop-place.engine.state) (sym (c.from_vec.ensures ∙ c.reverse.ensures.items))
    (walk_only c.args.property.now book marks is c.loop-place.place c.loop-place.found c.loop-place.engine.state done c.loop-place.invariant.1)
