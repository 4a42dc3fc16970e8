use Rattle.std.proofs.Common.{refl}
use Rattle.palm_domain.specs.Rows.{initial_of, present_of}
use Rattle.palm_model.specs.Domains.{values_of}
use Rattle.palm_engine.specs.Advancing.{asked_but}
use Rattle.palm_engine.specs.Posted.{active_of}
use Rattle.palm_engine.proofs.Others.{asked_other}
use Rattle.palm_engine.proofs.Progress.{counted_more, counted_one, has_declared_value}
use Rattle.palm_engine.proofs.Revised.{owner_in_form, var_present}
use Rattle.palm_engine.proofs.alike.others_supported.Goals as goal

pub other_value-requires : goal.other_value-requires
other_value-requires g c =
    let r = c.requires.revising in
    c.requires.filled c.args.var (var_present c.args.filtering.now r.0 (active_of g.F.Filter.meaning c.args.constraint.now) r.1 c.args.var c.requires.over)

pub returns-in_default-clause-supported : goal.returns-in_default-clause-supported
returns-in_default-clause-supported g c = λ t v has other. absurd (other (c.in_default.ensures.none v has))

pub is_supported-requires-clause-formed : goal.is_supported-requires-clause-formed
is_supported-requires-clause-formed g c = let r = c.requires.revising in owner_in_form c.args.filtering.now r.0 (active_of g.F.Filter.meaning c.args.constraint.now) r.1

pub returns-clause-supported : goal.returns-clause-supported
returns-clause-supported g c = λ t v has other.
    let d = present_of c.args.filtering.now.store in
    let value = c.in-Some.value in
    let some = c.in-Some.ensures.some in
    c.requires.alike.supports d value v some.0 has some.1 other (c.is_supported.ensures.supported t)

pub returns-clause-counted : goal.returns-clause-counted
returns-clause-counted g c =
    let f = c.args.filtering.now in
    let r = c.requires.revising in
    let vs = values_of (initial_of f.store) c.args.var in
    let some = c.in-Some.ensures.some in
    let declared = has_declared_value f r.0 r.1.kept c.args.var c.in-Some.value some.0 in
    counted_more 1 (asked_but c.args.but vs) f (record f { checks = c.is_supported.new.checks }) c.args.steps.now c.is_supported.new.steps (asked_other vs c.in-Some.value c.args.but declared some.1)
    (counted_one (active_of g.F.Filter.meaning c.args.constraint.now) f (record f { checks = c.is_supported.new.checks }) c.args.steps.now c.is_supported.new.steps c.is_supported.ensures.counted c.is_supported.ensures.checks (λ other. refl))
