use Rattle.std.proofs.Common.{List, Contains, true, false, refl, subst, sym}
use Rattle.palm_base.proofs.cited.Telling.{tells_false}
use Rattle.palm_base.specs.Order.{Rises}
use Rattle.palm_base.specs.declared.terms.Cid.{Cid}
use Rattle.palm_base.specs.declared.terms.Cid.TheVariants.{User}
use Rattle.palm_book.specs.Book.{user_at}
use Rattle.palm_book.specs.declared.book.BookCon.{BookCon}
use Rattle.palm_model.specs.Domains.{Domains}
use Rattle.palm_model.specs.Log.{Active, IsActive}
use Rattle.palm_reduce.specs.Marked.{marked}
use Rattle.palm_reduce.specs.Properties.{IsCore}
use Rattle.palm_reduce.proofs.Filling.{entry_same}
use Rattle.palm_reduce.proofs.cited.Marking.{marked_here, marked_is_book}
use Rattle.palm_reduce.proofs.Passing.{allowed_rest, is_gone, is_there, passes_in, passes_out, passes_relaxed, rest_core, rest_initial, rest_tells}
use Rattle.palm_reduce.proofs.reduce.pass.Goals as goal

pub withdraw-requires : goal.withdraw-requires
withdraw-requires g c =
    let book = marked c.args.book.now c.args.marks.now in
    let is = marked_is_book c.args.book.now c.args.marks.now c.requires.book in
    let entry : BookCon = record c.constraint-entry.result.now { active = true } in
    let at = marked_here c.args.book.now.constraints c.args.marks.now c.args.place c.constraint-entry.result.now true c.requires.whole c.constraint-entry.ensures.at c.if-not-marks-place.false in
    is_there c.args.property.now book is c.args.place c.args.found.now c.args.engine.now.state c.requires.walked entry at refl

pub has_property-requires : goal.has_property-requires
has_property-requires g c =
    let book = marked c.args.book.now c.args.marks.now in
    let is = marked_is_book c.args.book.now c.args.marks.now c.requires.book in
    let entry : BookCon = record c.constraint-entry.result.now { active = true } in
    let at = marked_here c.args.book.now.constraints c.args.marks.now c.args.place c.constraint-entry.result.now true c.requires.whole c.constraint-entry.ensures.at c.if-not-marks-place.false in
    allowed_rest c.args.property.now book is c.args.place c.args.found.now c.args.engine.now.state c.requires.walked entry at refl
    c.withdraw.new.self.state c.withdraw.ensures.withdraws c.requires.allowed

pub returns-then-not-marks-place : goal.returns-then-not-marks-place
returns-then-not-marks-place g c =
    let book = marked c.args.book.now c.args.marks.now in
    let is = marked_is_book c.args.book.now c.args.marks.now c.requires.book in
    let entry : BookCon = record c.constraint-entry.result.now { active = false } in
    let at = marked_here c.args.book.now.constraints c.args.marks.now c.args.place c.constraint-entry.result.now false c.requires.whole c.constraint-entry.ensures.at c.if-not-marks-place.true in
    passes_relaxed c.args.property.now book is c.args.place c.args.found.now c.args.engine.now.state c.requires.walked entry at refl

pub is_among-requires : goal.is_among-requires
is_among-requires g c = subst Rises (sym c.as_slice.ensures) c.requires.walked.core.rising

pub returns-then-not-is_among : goal.returns-then-not-is_among
returns-then-not-is_among g c =
    let book = marked c.args.book.now c.args.marks.now in
    let is = marked_is_book c.args.book.now c.args.marks.now c.requires.book in
    let entry : BookCon = record c.constraint-entry.result.now { active = true } in
    let at = marked_here c.args.book.now.constraints c.args.marks.now c.args.place c.constraint-entry.result.now true c.requires.whole c.constraint-entry.ensures.at c.if-not-marks-place.false in
    passes_out c.args.property.now book is c.args.place c.args.found.now c.args.engine.now.state c.requires.walked entry at refl
    c.withdraw.new.self.state c.withdraw.ensures.withdraws c.withdraw.new.self.state refl refl c.args.found.now.core
    (rest_core c.args.property.now book is c.args.place c.args.found.now c.args.engine.now.state c.requires.walked entry at refl
    c.withdraw.new.self.state c.withdraw.ensures.withdraws (subst (λ (cids : List Cid). Contains cids (User entry.number) → ⊥) c.as_slice.ensures
    (tells_false _ c.is_among.result c.is_among.ensures c.if-not-is_among.true)))

pub returns-then-branch : goal.returns-then-branch
returns-then-branch g c =
    let book = marked c.args.book.now c.args.marks.now in
    let is = marked_is_book c.args.book.now c.args.marks.now c.requires.book in
    let entry : BookCon = record c.constraint-entry.result.now { active = true } in
    let at = marked_here c.args.book.now.constraints c.args.marks.now c.args.place c.constraint-entry.result.now true c.requires.whole c.constraint-entry.ensures.at c.if-not-marks-place.false in
    let initial = rest_initial c.args.property.now book is c.args.place c.args.found.now c.args.engine.now.state c.requires.walked entry at refl
    c.withdraw.new.self.state c.withdraw.ensures.withdraws in
    let told = c.in_ok-has_property.ensures.core c.if-branch.true in
    passes_out c.args.property.now book is c.args.place c.args.found.now c.args.engine.now.state c.requires.walked entry at refl
    c.withdraw.new.self.state c.withdraw.ensures.withdraws c.has_property.new.engine.state c.in_ok-has_property.ensures.initial c.in_ok-has_property.ensures.active c.has_property.new.core
    (subst (λ (d : Domains). IsCore c.args.property.now d c.has_property.new.engine.state.active c.has_property.new.core) initial
    (subst (λ (xs : List Active). IsCore c.args.property.now c.withdraw.new.self.state.initial xs c.has_property.new.core) (sym c.in_ok-has_property.ensures.active) told))

pub post-requires-clause-inactive : goal.post-requires-clause-inactive
post-requires-clause-inactive g c d too =
    let book = marked c.args.book.now c.args.marks.now in
    let is = marked_is_book c.args.book.now c.args.marks.now c.requires.book in
    let entry : BookCon = record c.constraint-entry.result.now { active = true } in
    let at = marked_here c.args.book.now.constraints c.args.marks.now c.args.place c.constraint-entry.result.now true c.requires.whole c.constraint-entry.ensures.at c.if-not-marks-place.false in
    let gone = is_gone c.args.property.now book is c.args.place c.args.found.now c.args.engine.now.state c.requires.walked entry at refl
    c.withdraw.new.self.state c.withdraw.ensures.withdraws c.has_property.new.engine.state c.in_ok-has_property.ensures.initial c.in_ok-has_property.ensures.active in
    subst (λ (z : BookCon). IsActive c.has_property.new.engine.state.active (user_at z).cid → ⊥)
    (entry_same c.args.book.now.constraints c.args.place c.constraint-entry.result.now d c.constraint-entry.ensures.at too) gone

pub post-requires-clause-kept : goal.post-requires-clause-kept
post-requires-clause-kept g c = c.requires.kept c.args.place c.if-not-marks-place.false

pub returns : goal.returns
returns g c =
    let book = marked c.args.book.now c.args.marks.now in
    let is = marked_is_book c.args.book.now c.args.marks.now c.requires.book in
    let entry : BookCon = record c.constraint-entry.result.now { active = true } in
    let at = marked_here c.args.book.now.constraints c.args.marks.now c.args.place c.constraint-entry.result.now true c.requires.whole c.constraint-entry.ensures.at c.if-not-marks-place.false in
    let told = rest_tells c.args.property.now book is c.args.place c.args.found.now c.args.engine.now.state c.requires.walked entry at refl
    c.withdraw.new.self.state c.withdraw.ensures.withdraws c.has_property.new.engine.state c.in_ok-has_property.ensures.initial c.in_ok-has_property.ensures.active c.in_ok-has_property.field-0 c.in_ok-has_property.ensures.tells in
    passes_in c.args.property.now book is c.args.place c.args.found.now c.args.engine.now.state c.requires.walked entry at refl
    c.withdraw.new.self.state c.withdraw.ensures.withdraws c.has_property.new.engine.state c.in_ok-has_property.ensures.initial c.in_ok-has_property.ensures.active c.post.new.engine.state (c.in_ok-post.ensures c.constraint-entry.result.now c.constraint-entry.ensures.at)
    (record { cids = c.push.new.self; core = c.has_property.new.core }) c.in_ok-push.ensures.items (c.in_ok-has_property.ensures.kept c.if-branch.false)
    (tells_false _ c.in_ok-has_property.field-0 told c.if-branch.false)
