use Rattle.std.proofs.Common.{Contains, refl, sym, ap, subst}
use Rattle.palm_engine.specs.declared.filtering.Filtering.{Filtering}
use Rattle.palm_engine.specs.Posted.{active_of}
use Rattle.palm_engine.specs.Revising.{IsRevising}
use Rattle.palm_engine.proofs.Revised.{owner_in_form, owner_filled, reasons_told, stated}
use Rattle.palm_engine.proofs.Progress.{taken_walked, taken_revising, on_ok, on_either}
use Rattle.palm_engine.proofs.Knowing.{knows_still}
use Rattle.palm_engine.proofs.values.take_out.Goals as goal

pub tells_spans-requires-clause-formed : goal.tells_spans-requires-clause-formed
tells_spans-requires-clause-formed g c = let r = c.requires.revising in owner_in_form c.args.filtering.now r.0 (active_of g.F.Filter.meaning c.args.constraint.now) r.1

pub tells_spans-requires-clause-goes : goal.tells_spans-requires-clause-goes
tells_spans-requires-clause-goes g c = let r = c.requires.revising in record {
  present = c.requires.present;
  unsupported = c.requires.lacking;
  filled = owner_filled c.args.filtering.now r.0 (active_of g.F.Filter.meaning c.args.constraint.now) r.1 c.requires.filled;
}

pub remove_for_spans-requires-clause-fits : goal.remove_for_spans-requires-clause-fits
remove_for_spans-requires-clause-fits g c = λ s m.
    (c.in_ok-tells_spans.ensures.told c.if-branch.true).fits s (subst (λ spans. Contains spans s) c.as_slice.ensures.value m)

pub returns-then-branch-clause-walked : goal.returns-then-branch-clause-walked
returns-then-branch-clause-walked g c = λ active r.
    let f = c.args.filtering.now in
    let owner = active_of g.F.Filter.meaning c.args.constraint.now in
    let told = reasons_told f active owner c.args.pair r c.requires.filled c.requires.present c.requires.lacking c.as_slice.result.now c.tells_spans.new.room.spans.items
    c.as_slice.ensures.value (c.in_ok-tells_spans.ensures.told c.if-branch.true).told in
    on_ok c.remove_for_spans.result (λ takes. taken_walked active owner c.args.pair f c.remove_for_spans.new.self c.cid.result (stated f owner c.args.pair) r
    c.requires.filled c.requires.present c.requires.lacking c.requires.over c.cid.ensures refl takes) (c.remove_for_spans.ensures.ok (stated f owner c.args.pair) told)

pub returns-then-branch-clause-revising : goal.returns-then-branch-clause-revising
returns-then-branch-clause-revising g c = λ active r.
    let f = c.args.filtering.now in
    let owner = active_of g.F.Filter.meaning c.args.constraint.now in
    let told = reasons_told f active owner c.args.pair r c.requires.filled c.requires.present c.requires.lacking c.as_slice.result.now c.tells_spans.new.room.spans.items
    c.as_slice.ensures.value (c.in_ok-tells_spans.ensures.told c.if-branch.true).told in
    on_either c.remove_for_spans.result
    (λ takes. taken_revising active owner c.args.pair f c.remove_for_spans.new.self c.cid.result (stated f owner c.args.pair) r
    c.requires.filled c.requires.present c.requires.lacking c.requires.over c.cid.ensures refl takes)
    (λ same. subst (λ (h : Filtering). IsRevising h active owner) (sym same) r)
    (c.remove_for_spans.ensures.ok (stated f owner c.args.pair) told) c.remove_for_spans.ensures.err

pub returns-then-branch-clause-gone : goal.returns-then-branch-clause-gone
returns-then-branch-clause-gone g c =
    let r = c.requires.revising in
    let f = c.args.filtering.now in
    let owner = active_of g.F.Filter.meaning c.args.constraint.now in
    let told = reasons_told f r.0 owner c.args.pair r.1 c.requires.filled c.requires.present c.requires.lacking c.as_slice.result.now c.tells_spans.new.room.spans.items
    c.as_slice.ensures.value (c.in_ok-tells_spans.ensures.told c.if-branch.true).told in
    on_ok c.remove_for_spans.result (λ takes. takes.loses) (c.remove_for_spans.ensures.ok (stated f owner c.args.pair) told)

pub returns-then-branch-clause-checks : goal.returns-then-branch-clause-checks
returns-then-branch-clause-checks g c =
    let r = c.requires.revising in
    let f = c.args.filtering.now in
    let owner = active_of g.F.Filter.meaning c.args.constraint.now in
    let told = reasons_told f r.0 owner c.args.pair r.1 c.requires.filled c.requires.present c.requires.lacking c.as_slice.result.now c.tells_spans.new.room.spans.items
    c.as_slice.ensures.value (c.in_ok-tells_spans.ensures.told c.if-branch.true).told in
    on_either c.remove_for_spans.result (λ takes. takes.checks) (λ same. ap (λ (h : Filtering). h.checks) same) (c.remove_for_spans.ensures.ok (stated f owner c.args.pair) told) c.remove_for_spans.ensures.err

pub returns-then-branch-clause-knows : goal.returns-then-branch-clause-knows
returns-then-branch-clause-knows g c =
    let r = c.requires.revising in
    let f = c.args.filtering.now in
    let owner = active_of g.F.Filter.meaning c.args.constraint.now in
    let told = reasons_told f r.0 owner c.args.pair r.1 c.requires.filled c.requires.present c.requires.lacking c.as_slice.result.now c.tells_spans.new.room.spans.items
    c.as_slice.ensures.value (c.in_ok-tells_spans.ensures.told c.if-branch.true).told in
    on_ok c.remove_for_spans.result
    (λ takes. knows_still f r.0 owner c.args.pair c.cid.result (stated f owner c.args.pair) c.remove_for_spans.new.self c.tells_spans.new.room r.1 takes c.in_ok-tells_spans.ensures.knows)
    (c.remove_for_spans.ensures.ok (stated f owner c.args.pair) told)

pub returns-clause-walked : goal.returns-clause-walked
returns-clause-walked g c = λ active r.
    let owner = active_of g.F.Filter.meaning c.args.constraint.now in
    on_ok c.take_out_listed.result (λ takes. taken_walked active owner c.args.pair c.args.filtering.now c.take_out_listed.new.filtering owner.cid (stated c.args.filtering.now owner c.args.pair) r
    c.requires.filled c.requires.present c.requires.lacking c.requires.over refl refl takes) c.take_out_listed.ensures.taken

pub returns-clause-revising : goal.returns-clause-revising
returns-clause-revising g c = λ active r.
    let owner = active_of g.F.Filter.meaning c.args.constraint.now in
    on_either c.take_out_listed.result
    (λ takes. taken_revising active owner c.args.pair c.args.filtering.now c.take_out_listed.new.filtering owner.cid (stated c.args.filtering.now owner c.args.pair) r
    c.requires.filled c.requires.present c.requires.lacking c.requires.over refl refl takes)
    (λ same. subst (λ (f : Filtering). IsRevising f active owner) (sym same) r)
    c.take_out_listed.ensures.taken c.take_out_listed.ensures.err

pub returns-clause-gone : goal.returns-clause-gone
returns-clause-gone g c = on_ok c.take_out_listed.result (λ takes. takes.loses) c.take_out_listed.ensures.taken

pub returns-clause-checks : goal.returns-clause-checks
returns-clause-checks g c = on_either c.take_out_listed.result (λ takes. takes.checks) (λ same. ap (λ (f : Filtering). f.checks) same) c.take_out_listed.ensures.taken c.take_out_listed.ensures.err

pub returns-clause-knows : goal.returns-clause-knows
returns-clause-knows g c =
    let r = c.requires.revising in
    let f = c.args.filtering.now in
    let owner = active_of g.F.Filter.meaning c.args.constraint.now in
    on_ok c.take_out_listed.result
    (λ takes. knows_still f r.0 owner c.args.pair owner.cid (stated f owner c.args.pair) c.take_out_listed.new.filtering c.tells_spans.new.room r.1 takes c.in_ok-tells_spans.ensures.knows)
    c.take_out_listed.ensures.taken
