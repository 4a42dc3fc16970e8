use Rattle.std.proofs.Common.{sym, subst}
use Rattle.palm_domain.specs.Rows.{initial_of, present_of}
use Rattle.palm_model.specs.Domains.{values_of}
use Rattle.palm_model.specs.Removed.{pairs_of}
use Rattle.palm_model.specs.State.{AllFilled}
use Rattle.palm_engine.specs.declared.filtering.Filtering.{Filtering}
use Rattle.palm_engine.specs.Advancing.{AreSupportedBut, LackBut}
use Rattle.palm_engine.specs.Posted.{active_of}
use Rattle.palm_engine.proofs.Others.{asked_counted, asked_others, asked_part, asked_revising, asked_walked}
use Rattle.palm_engine.proofs.Progress.{on_either, on_err, on_ok}
use Rattle.palm_engine.proofs.Quiet.{part_quiet, walked_quiet}
use Rattle.palm_engine.proofs.alike.revise_alike.Goals as goal

pub revise_one-requires-clause-revising : goal.revise_one-requires-clause-revising
revise_one-requires-clause-revising g c =
    let r = c.requires.revising in
    (r.0, asked_revising r.0 (active_of g.F.Filter.meaning c.args.constraint.now) c.args.filtering.now c.others_supported.new.filtering c.others_supported.ensures.same r.1)

pub revise_one-requires-clause-filled : goal.revise_one-requires-clause-filled
revise_one-requires-clause-filled g c = subst (λ (f : Filtering). AllFilled (present_of f.store)) (sym c.others_supported.ensures.same) c.requires.filled

pub revise_one-requires-clause-known : goal.revise_one-requires-clause-known
revise_one-requires-clause-known g c =
    let owner = active_of g.F.Filter.meaning c.args.constraint.now in
    subst (λ (f : Filtering). AreSupportedBut f owner c.args.var c.args.but) (sym c.others_supported.ensures.same) (c.others_supported.ensures.supported c.if-others_supported.true)

pub returns-then-others_supported-clause-walked : goal.returns-then-others_supported-clause-walked
returns-then-others_supported-clause-walked g c = λ active r.
    let owner = active_of g.F.Filter.meaning c.args.constraint.now in
    let f = c.args.filtering.now in
    let m = c.others_supported.new.filtering in
    let same = c.others_supported.ensures.same in
    on_ok c.revise_one.result (asked_walked active owner c.args.var f m c.revise_one.new.filtering same) (c.revise_one.ensures.walked active (asked_revising active owner f m same r))

pub returns-then-others_supported-clause-part : goal.returns-then-others_supported-clause-part
returns-then-others_supported-clause-part g c = λ active r.
    let owner = active_of g.F.Filter.meaning c.args.constraint.now in
    let f = c.args.filtering.now in
    let m = c.others_supported.new.filtering in
    let same = c.others_supported.ensures.same in
    on_err c.revise_one.result (asked_part active owner c.args.var f m c.revise_one.new.filtering same) (c.revise_one.ensures.part active (asked_revising active owner f m same r))

pub returns-then-others_supported-clause-revising : goal.returns-then-others_supported-clause-revising
returns-then-others_supported-clause-revising g c = λ active r.
    c.revise_one.ensures.revising active
    (asked_revising active (active_of g.F.Filter.meaning c.args.constraint.now) c.args.filtering.now c.others_supported.new.filtering c.others_supported.ensures.same r)

pub returns-then-others_supported-clause-counted : goal.returns-then-others_supported-clause-counted
returns-then-others_supported-clause-counted g c =
    asked_counted c.args.var c.args.but c.args.filtering.now c.others_supported.new.filtering c.revise_one.new.filtering c.args.steps.now c.others_supported.new.steps c.revise_one.new.steps
    c.others_supported.ensures.same c.others_supported.ensures.counted c.revise_one.ensures.counted

pub take_others_out-requires-clause-revising : goal.take_others_out-requires-clause-revising
take_others_out-requires-clause-revising g c =
    let r = c.requires.revising in
    (r.0, asked_revising r.0 (active_of g.F.Filter.meaning c.args.constraint.now) c.args.filtering.now c.others_supported.new.filtering c.others_supported.ensures.same r.1)

pub take_others_out-requires-clause-filled : goal.take_others_out-requires-clause-filled
take_others_out-requires-clause-filled g c = subst (λ (f : Filtering). AllFilled (present_of f.store)) (sym c.others_supported.ensures.same) c.requires.filled

pub take_others_out-requires-clause-known : goal.take_others_out-requires-clause-known
take_others_out-requires-clause-known g c =
    let owner = active_of g.F.Filter.meaning c.args.constraint.now in
    subst (λ (f : Filtering). LackBut f owner c.args.var c.args.but) (sym c.others_supported.ensures.same) (c.others_supported.ensures.lacking c.if-others_supported.false)

pub returns-else-others_supported-clause-walked : goal.returns-else-others_supported-clause-walked
returns-else-others_supported-clause-walked g c = λ active r.
    let owner = active_of g.F.Filter.meaning c.args.constraint.now in
    let f = c.args.filtering.now in
    let m = c.others_supported.new.filtering in
    let same = c.others_supported.ensures.same in
    on_ok c.take_others_out.result (asked_walked active owner c.args.var f m c.take_others_out.new.filtering same) (c.take_others_out.ensures.walked active (asked_revising active owner f m same r))

pub returns-else-others_supported-clause-part : goal.returns-else-others_supported-clause-part
returns-else-others_supported-clause-part g c = λ active r.
    let owner = active_of g.F.Filter.meaning c.args.constraint.now in
    let f = c.args.filtering.now in
    let m = c.others_supported.new.filtering in
    let same = c.others_supported.ensures.same in
    on_err c.take_others_out.result (asked_part active owner c.args.var f m c.take_others_out.new.filtering same) (c.take_others_out.ensures.part active (asked_revising active owner f m same r))

pub returns-else-others_supported-clause-revising : goal.returns-else-others_supported-clause-revising
returns-else-others_supported-clause-revising g c = λ active r.
    c.take_others_out.ensures.revising active
    (asked_revising active (active_of g.F.Filter.meaning c.args.constraint.now) c.args.filtering.now c.others_supported.new.filtering c.others_supported.ensures.same r)

pub returns-else-others_supported-clause-counted : goal.returns-else-others_supported-clause-counted
returns-else-others_supported-clause-counted g c =
    let owner = active_of g.F.Filter.meaning c.args.constraint.now in
    let m = c.others_supported.new.filtering in
    let end = c.take_others_out.new.filtering in
    let same = c.others_supported.ensures.same in
    let some = c.requires.revising in
    let r = asked_revising some.0 owner c.args.filtering.now m same some.1 in
    let pairs = pairs_of c.args.var (values_of (initial_of m.store) c.args.var) in
    asked_others owner c.args.var c.args.but c.args.filtering.now m end c.args.steps.now c.others_supported.new.steps c.take_others_out.new.steps
    same c.others_supported.ensures.counted (c.others_supported.ensures.asked c.if-others_supported.false) c.take_others_out.ensures.counted
    (on_either c.take_others_out.result (walked_quiet some.0 owner pairs m end) (part_quiet some.0 owner pairs m end) (c.take_others_out.ensures.walked some.0 r) (c.take_others_out.ensures.part some.0 r))
