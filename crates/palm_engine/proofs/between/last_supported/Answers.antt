use Rattle.std.proofs.Common.{◌<◌, ℤ, length, refl, sym, ◌∙◌, subst}
use Rattle.palm_domain.specs.Rows.{initial_of}
use Rattle.palm_domain.proofs.cited.Comparisons.{lt_from_is_lt}
use Rattle.palm_model.specs.Domains.{values_of}
use Rattle.palm_engine.specs.declared.filtering.Filtering.{Filtering}
use Rattle.palm_engine.specs.Advancing.{values_below}
use Rattle.palm_engine.specs.Posted.{active_of}
use Rattle.palm_engine.proofs.Progress.{counted_one}
use Rattle.palm_engine.proofs.Revised.{owner_in_form, var_stored}
use Rattle.palm_engine.proofs.Convex.{Sunk, sunk_start, sunk_revising, sunk_counted, sunk_more, sunk_fewer}
use Rattle.palm_engine.proofs.between.last_supported.Goals as goal

pub loop-var-init : goal.loop-var-init
loop-var-init g c =
    sunk_start (active_of g.F.Filter.meaning c.args.constraint.now) c.args.var c.args.known c.greatest-value.result c.args.filtering.now c.args.steps.now
    (record { member = c.greatest-value.ensures.member; greatest = c.greatest-value.ensures.greatest }) c.requires.present

pub is_supported-requires-clause-formed : goal.is_supported-requires-clause-formed
is_supported-requires-clause-formed g c =
    let r = c.requires.revising in
    let owner = active_of g.F.Filter.meaning c.args.constraint.now in
    owner_in_form c.loop-var.filtering r.0 owner (sunk_revising r.0 owner c.args.var c.args.known c.loop-var.value c.args.filtering.now c.loop-var.filtering c.args.steps.now c.loop-var.steps r.1 c.loop-var.invariant)

pub last_before-requires : goal.last_before-requires
last_before-requires g c =
    let r = c.requires.revising in
    let owner = active_of g.F.Filter.meaning c.args.constraint.now in
    var_stored c.loop-var.filtering r.0 owner (sunk_revising r.0 owner c.args.var c.args.known c.loop-var.value c.args.filtering.now c.loop-var.filtering c.args.steps.now c.loop-var.steps r.1 c.loop-var.invariant) c.args.var c.requires.over

pub returns-then-is_supported-clause-counted : goal.returns-then-is_supported-clause-counted
returns-then-is_supported-clause-counted g c =
    let r = c.requires.revising in
    let owner = active_of g.F.Filter.meaning c.args.constraint.now in
    let now = c.loop-var.filtering in
    let after : Filtering = record now { checks = c.is_supported.new.checks } in
    sunk_counted r.0 owner c.args.var c.args.known c.loop-var.value c.args.filtering.now now after c.args.steps.now c.loop-var.steps c.is_supported.new.steps r.1
    (lt_from_is_lt _ _ (sym c.loop-var-test.true ∙ c.lt.ensures)) c.loop-var.invariant (counted_one owner now after c.loop-var.steps c.is_supported.new.steps c.is_supported.ensures.counted c.is_supported.ensures.checks (λ other. refl))

pub loop-var-smaller : goal.loop-var-smaller
loop-var-smaller g c =
    let r = c.requires.revising in
    let owner = active_of g.F.Filter.meaning c.args.constraint.now in
    let fewer = sunk_fewer r.0 owner c.args.var c.args.known c.loop-var.value c.last_before.result c.args.filtering.now c.loop-var.filtering c.args.steps.now c.loop-var.steps r.1 c.requires.present
    (lt_from_is_lt _ _ (sym c.loop-var-test.true ∙ c.lt.ensures)) c.loop-var.invariant c.last_before.ensures in
    let vs = values_of (initial_of c.args.filtering.now.store) c.args.var in
    subst (λ (v : ℤ). length (values_below v vs) < length (values_below c.loop-var.value vs)) (sym c.unwrap_or-value.ensures) fewer

pub loop-var-preserved : goal.loop-var-preserved
loop-var-preserved g c =
    let r = c.requires.revising in
    let owner = active_of g.F.Filter.meaning c.args.constraint.now in
    let now = c.loop-var.filtering in
    let after : Filtering = record now { checks = c.is_supported.new.checks } in
    let more = sunk_more r.0 owner c.args.var c.args.known c.loop-var.value c.last_before.result c.args.filtering.now now after c.args.steps.now c.loop-var.steps c.is_supported.new.steps r.1 c.requires.present
    (lt_from_is_lt _ _ (sym c.loop-var-test.true ∙ c.lt.ensures)) c.loop-var.invariant (c.is_supported.ensures.lacking c.if-is_supported.false) refl
    (counted_one owner now after c.loop-var.steps c.is_supported.new.steps c.is_supported.ensures.counted c.is_supported.ensures.checks (λ other. refl)) c.last_before.ensures in
    subst (λ (v : ℤ). Sunk owner c.args.var c.args.known v c.args.filtering.now after c.args.steps.now c.is_supported.new.steps) (sym c.unwrap_or-value.ensures) more
