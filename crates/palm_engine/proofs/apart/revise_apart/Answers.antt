use Rattle.std.proofs.Common.{◌<◌, pos, ◌+ℤ◌, w32, sym, subst}
use Rattle.std.proofs.lemmas.Int.{to_z-of_z}
use Rattle.palm_domain.specs.Rows.{initial_of, present_of}
use Rattle.palm_model.specs.Constraint.{scope}
use Rattle.palm_model.specs.Domains.{values_of}
use Rattle.palm_model.specs.Removed.{pairs_of}
use Rattle.palm_engine.specs.declared.filtering.Filtering.{Filtering}
use Rattle.palm_engine.specs.Posted.{active_of}
use Rattle.palm_engine.specs.Revising.{WalkedPart}
use Rattle.palm_engine.proofs.Bounds.{left_from}
use Rattle.palm_engine.proofs.Hits.{up_answered, up_answered_after, up_read}
use Rattle.palm_engine.proofs.HitWalk.{have_values, filled_after, hits_start, hits_more, above_value}
use Rattle.palm_engine.proofs.Progress.{WalkedValues, values_done, values_supported, values_stopped, values_counted, values_filled, on_err_of}
use Rattle.palm_engine.proofs.Revised.{var_present}
use Rattle.palm_engine.proofs.Skipping.{skipped_fewer}
use Rattle.palm_engine.proofs.apart.revise_apart.Goals as goal

pub least-least-requires : goal.least-least-requires
least-least-requires g c =
    let r = c.requires.revising in
    c.requires.filled c.args.var (var_present c.args.filtering.now r.0 (active_of g.F.Filter.meaning c.args.constraint.now) r.1 c.args.var c.requires.over)

pub next_hit-next-requires-clause-values : goal.next_hit-next-requires-clause-values
next_hit-next-requires-clause-values g c =
    let r = c.requires.revising in
    let owner = active_of g.F.Filter.meaning c.args.constraint.now in
    let f = c.args.filtering.now in
    have_values f r.0 owner c.args.var c.scope.result.now c.scope.ensures.scope r.1 c.requires.over (λ y m other. c.requires.filled y (var_present f r.0 owner r.1 y m))

pub loop-next-init : goal.loop-next-init
loop-next-init g c = λ active r.
    let owner = active_of g.F.Filter.meaning c.args.constraint.now in
    let f = c.args.filtering.now in
    let d = present_of f.store in
    let least = c.least-least in
    let next = c.next_hit-next in
    let up = up_answered d c.scope.result.now c.args.var _ least.result next.result next.ensures.none next.ensures.some in
    hits_start active owner c.args.var c.args.by least.result next.result f c.args.steps.now r c.requires.filled
    (record { member = least.ensures.member; least = least.ensures.least }) c.requires.apart
    (up_read d c.scope.result.now (scope owner.con) c.args.var _ c.args.by least.result next.result c.scope.ensures.scope (to_z-of_z w32 c.args.by c.ranges.by) up)

pub examine-requires-clause-filled : goal.examine-requires-clause-filled
examine-requires-clause-filled g c =
    let r = c.requires.revising in
    let owner = active_of g.F.Filter.meaning c.args.constraint.now in
    let f = c.args.filtering.now in
    let w = subst (λ n. WalkedValues r.0 owner c.args.var n f c.loop-next.filtering c.args.steps.now c.loop-next.steps) c.in-Some.is (c.loop-next.invariant r.0 r.1) in
    values_filled r.0 owner c.args.var c.in-Some.value f c.loop-next.filtering w.advanced

pub returns-in_err-examine-clause-revising : goal.returns-in_err-examine-clause-revising
returns-in_err-examine-clause-revising g c = λ active r. let w = c.loop-next.invariant active r in c.examine.ensures.revising active w.advanced.revising

pub returns-in_err-examine-clause-part : goal.returns-in_err-examine-clause-part
returns-in_err-examine-clause-part g c = λ active r.
    let owner = active_of g.F.Filter.meaning c.args.constraint.now in
    let f = c.args.filtering.now in
    let w = subst (λ n. WalkedValues active owner c.args.var n f c.loop-next.filtering c.args.steps.now c.loop-next.steps) c.in-Some.is (c.loop-next.invariant active r) in
    on_err_of c.from_residual.result (subst (λ (z : Filtering). WalkedPart active owner (pairs_of c.args.var (values_of (initial_of f.store) c.args.var)) f z) (sym c.in_err-examine.ensures.err)
    (values_stopped active owner c.args.var c.in-Some.value f c.loop-next.filtering c.examine.new.filtering.checks w.advanced c.in_err-examine.ensures.due))

pub returns-in_err-examine-clause-counted : goal.returns-in_err-examine-clause-counted
returns-in_err-examine-clause-counted g c =
    let r = c.requires.revising in
    let owner = active_of g.F.Filter.meaning c.args.constraint.now in
    let f = c.args.filtering.now in
    let w = subst (λ n. WalkedValues r.0 owner c.args.var n f c.loop-next.filtering c.args.steps.now c.loop-next.steps) c.in-Some.is (c.loop-next.invariant r.0 r.1) in
    values_counted r.0 owner c.args.var c.in-Some.value f c.loop-next.filtering c.examine.new.filtering c.args.steps.now c.loop-next.steps c.examine.new.steps w.advanced w.counted c.examine.ensures.counted

pub hit_after-next-requires : goal.hit_after-next-requires
hit_after-next-requires g c =
    let r = c.requires.revising in
    let owner = active_of g.F.Filter.meaning c.args.constraint.now in
    let f = c.args.filtering.now in
    let w = subst (λ n. WalkedValues r.0 owner c.args.var n f c.loop-next.filtering c.args.steps.now c.loop-next.steps) c.in-Some.is (c.loop-next.invariant r.0 r.1) in
    let told = c.in_ok-examine.ensures in
    let still = told.revising r.0 w.advanced.revising in
    record {
      values = have_values c.examine.new.filtering r.0 owner c.args.var c.scope-in-Some.result.now c.scope-in-Some.ensures.scope still c.requires.over
          (filled_after r.0 owner c.args.var c.in-Some.value f c.loop-next.filtering c.examine.new.filtering w.advanced still (told.walked r.0 w.advanced.revising));
    }

pub loop-next-smaller : goal.loop-next-smaller
loop-next-smaller g c =
    let r = c.requires.revising in
    let owner = active_of g.F.Filter.meaning c.args.constraint.now in
    let f = c.args.filtering.now in
    let w = subst (λ n. WalkedValues r.0 owner c.args.var n f c.loop-next.filtering c.args.steps.now c.loop-next.steps) c.in-Some.is (c.loop-next.invariant r.0 r.1) in
    let vs = values_of (initial_of f.store) c.args.var in
    let next = c.hit_after-next in
    let up = up_answered_after (present_of c.examine.new.filtering.store) c.scope-in-Some.result.now c.args.var _ c.in-Some.value next.result next.ensures.none next.ensures.some in
    subst (λ n. left_from next.result vs < left_from n vs) (sym c.in-Some.is)
    (skipped_fewer r.0 owner c.args.var c.in-Some.value next.result f c.loop-next.filtering w.advanced (above_value c.in-Some.value next.result up.from))

pub loop-next-preserved : goal.loop-next-preserved
loop-next-preserved g c = λ active r.
    let owner = active_of g.F.Filter.meaning c.args.constraint.now in
    let f = c.args.filtering.now in
    let w = subst (λ n. WalkedValues active owner c.args.var n f c.loop-next.filtering c.args.steps.now c.loop-next.steps) c.in-Some.is (c.loop-next.invariant active r) in
    let told = c.in_ok-examine.ensures in
    let d = present_of c.examine.new.filtering.store in
    let vars = c.scope-in-Some in
    let v = c.in-Some.value in
    let next = c.hit_after-next in
    let up = up_answered_after d vars.result.now c.args.var _ v next.result next.ensures.none next.ensures.some in
    hits_more active owner c.args.var c.args.by v next.result f c.loop-next.filtering c.examine.new.filtering c.args.steps.now c.loop-next.steps c.examine.new.steps w
    (told.walked active w.advanced.revising) (told.revising active w.advanced.revising) told.supported told.counted c.requires.apart
    (up_read d vars.result.now (scope owner.con) c.args.var _ c.args.by (v +ℤ pos 1) next.result vars.ensures.scope (to_z-of_z w32 c.args.by c.ranges.by) up)

pub returns-clause-walked : goal.returns-clause-walked
returns-clause-walked g c = λ active r.
    let owner = active_of g.F.Filter.meaning c.args.constraint.now in
    let f = c.args.filtering.now in
    let w = subst (λ n. WalkedValues active owner c.args.var n f c.loop-next.filtering c.args.steps.now c.loop-next.steps) c.in_default.is (c.loop-next.invariant active r) in
    values_done active owner c.args.var f c.loop-next.filtering w.advanced

pub returns-clause-supported : goal.returns-clause-supported
returns-clause-supported g c =
    let r = c.requires.revising in
    let owner = active_of g.F.Filter.meaning c.args.constraint.now in
    let f = c.args.filtering.now in
    let w = subst (λ n. WalkedValues r.0 owner c.args.var n f c.loop-next.filtering c.args.steps.now c.loop-next.steps) c.in_default.is (c.loop-next.invariant r.0 r.1) in
    values_supported r.0 owner c.args.var f c.loop-next.filtering w.advanced
