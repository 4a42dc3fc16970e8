use Rattle.std.proofs.Common.{◌<◌, Some, IfSome, [], ◌∷◌, pos, ◌+ℤ◌, ◌∙◌, refl, sym, ap, subst, arith}
use Rattle.palm_domain.specs.Rows.{IsPlaced, initial_of, present_values}
use Rattle.palm_model.specs.Domains.{values_of}
use Rattle.palm_model.specs.Removed.{pairs_of}
use Rattle.palm_model.proofs.cited.Without.{pair_of}
use Rattle.palm_engine.specs.declared.filtering.Filtering.{Filtering}
use Rattle.palm_engine.specs.Advancing.{placed_value}
use Rattle.palm_engine.specs.Posted.{active_of}
use Rattle.palm_engine.specs.Revising.{WalkedPart}
use Rattle.palm_engine.proofs.Knowing.{knows_next}
use Rattle.palm_engine.specs.Reasons.{Knows}
use Rattle.palm_engine.proofs.Bounds.{left_from}
use Rattle.palm_engine.proofs.Revised.{owner_in_form, var_present, var_stored}
use Rattle.palm_engine.proofs.PlacedWalks.{next_value, walked_placed}
use Rattle.palm_engine.proofs.Progress.{WalkedValues, values_start, values_more, values_stopped, values_counted, values_fewer, values_filled, start_counted, more_counted, checks_walked, counted_one, revising_checks, on_err_of}
use Rattle.palm_engine.proofs.Convex.{advanced_checks, value_counted}
use Rattle.palm_engine.proofs.Quiet.{walked_quiet}
use Rattle.palm_engine.specs.Work.{users_removals}
use Rattle.palm_engine.proofs.between.rise.Goals as goal

pub first_placed-requires : goal.first_placed-requires
first_placed-requires g c =
    let r = c.requires.revising in
    c.requires.filled c.args.var (var_present c.args.filtering.now r.0 (active_of g.F.Filter.meaning c.args.constraint.now) r.1 c.args.var c.requires.over)

pub loop-next-init : goal.loop-next-init
loop-next-init g c = (
  λ active r. record {
    advanced = values_start active (active_of g.F.Filter.meaning c.args.constraint.now) c.args.var c.first_placed.result.value c.args.filtering.now r c.requires.filled (record { member = c.first_placed.ensures.least.member; least = c.first_placed.ensures.least.least });
    counted = start_counted c.args.var c.first_placed.result.value c.args.filtering.now c.args.steps.now;
  },
  c.first_placed.ensures.placed,
  tt,
)

pub is_supported-requires-clause-formed : goal.is_supported-requires-clause-formed
is_supported-requires-clause-formed g c =
    let r = c.requires.revising in
    let w = c.loop-next.invariant.0 r.0 r.1 in
    owner_in_form c.loop-next.filtering r.0 (active_of g.F.Filter.meaning c.args.constraint.now) w.advanced.revising

pub is_supported-requires-clause-present : goal.is_supported-requires-clause-present
is_supported-requires-clause-present g c =
    let r = c.requires.revising in
    let owner = active_of g.F.Filter.meaning c.args.constraint.now in
    let w = subst (λ n. WalkedValues r.0 owner c.args.var (placed_value n) c.args.filtering.now c.loop-next.filtering c.args.steps.now c.loop-next.steps) c.in-Some.is (c.loop-next.invariant.0 r.0 r.1) in
    w.advanced.present

pub returns-then-is_supported-clause-advanced : goal.returns-then-is_supported-clause-advanced
returns-then-is_supported-clause-advanced g c = λ active r.
    let owner = active_of g.F.Filter.meaning c.args.constraint.now in
    let f = c.args.filtering.now in
    let w = subst (λ n. WalkedValues active owner c.args.var (placed_value n) f c.loop-next.filtering c.args.steps.now c.loop-next.steps) c.in-Some.is (c.loop-next.invariant.0 active r) in
    advanced_checks active owner c.args.var (Some c.in-Some.placed.value) f c.loop-next.filtering c.is_supported.new.checks w.advanced

pub returns-then-is_supported-clause-revising : goal.returns-then-is_supported-clause-revising
returns-then-is_supported-clause-revising g c = λ active r.
    let w = c.loop-next.invariant.0 active r in
    revising_checks active (active_of g.F.Filter.meaning c.args.constraint.now) c.loop-next.filtering c.is_supported.new.checks w.advanced.revising

pub returns-then-is_supported-clause-counted : goal.returns-then-is_supported-clause-counted
returns-then-is_supported-clause-counted g c =
    let r = c.requires.revising in
    let owner = active_of g.F.Filter.meaning c.args.constraint.now in
    let f = c.args.filtering.now in
    let now = c.loop-next.filtering in
    let after : Filtering = record now { checks = c.is_supported.new.checks } in
    let w = subst (λ n. WalkedValues r.0 owner c.args.var (placed_value n) f now c.args.steps.now c.loop-next.steps) c.in-Some.is (c.loop-next.invariant.0 r.0 r.1) in
    values_counted r.0 owner c.args.var c.in-Some.placed.value f now after c.args.steps.now c.loop-next.steps c.is_supported.new.steps w.advanced w.counted
    (counted_one owner now after c.loop-next.steps c.is_supported.new.steps c.is_supported.ensures.counted c.is_supported.ensures.checks (λ other. refl))

pub returns-then-is_supported-clause-first : goal.returns-then-is_supported-clause-first
returns-then-is_supported-clause-first g c =
    let r = c.requires.revising in
    let owner = active_of g.F.Filter.meaning c.args.constraint.now in
    let f = c.args.filtering.now in
    let now = c.loop-next.filtering in
    let after : Filtering = record now { checks = c.is_supported.new.checks } in
    let w = subst (λ n. WalkedValues r.0 owner c.args.var (placed_value n) f now c.args.steps.now c.loop-next.steps) c.in-Some.is (c.loop-next.invariant.0 r.0 r.1) in
    value_counted r.0 owner c.args.var c.in-Some.placed.value f now after c.args.steps.now c.loop-next.steps c.is_supported.new.steps w.advanced w.counted
    (counted_one owner now after c.loop-next.steps c.is_supported.new.steps c.is_supported.ensures.counted c.is_supported.ensures.checks (λ other. refl))

pub returns-then-is_supported-clause-asked : goal.returns-then-is_supported-clause-asked
returns-then-is_supported-clause-asked g c =
    let r = c.requires.revising in
    let w = c.loop-next.invariant.0 r.0 r.1 in
    let later = w.counted.ticked.later in
    let asked = c.is_supported.ensures.counted in
    omega (arith, later, asked)

pub take_out-requires-clause-revising : goal.take_out-requires-clause-revising
take_out-requires-clause-revising g c =
    let r = c.requires.revising in
    let w = c.loop-next.invariant.0 r.0 r.1 in
    (r.0, revising_checks r.0 (active_of g.F.Filter.meaning c.args.constraint.now) c.loop-next.filtering c.is_supported.new.checks w.advanced.revising)

pub take_out-requires-clause-filled : goal.take_out-requires-clause-filled
take_out-requires-clause-filled g c =
    let r = c.requires.revising in
    let owner = active_of g.F.Filter.meaning c.args.constraint.now in
    let f = c.args.filtering.now in
    let w = subst (λ n. WalkedValues r.0 owner c.args.var (placed_value n) f c.loop-next.filtering c.args.steps.now c.loop-next.steps) c.in-Some.is (c.loop-next.invariant.0 r.0 r.1) in
    values_filled r.0 owner c.args.var c.in-Some.placed.value f c.loop-next.filtering w.advanced

pub take_out-requires-clause-present : goal.take_out-requires-clause-present
take_out-requires-clause-present g c =
    let r = c.requires.revising in
    let owner = active_of g.F.Filter.meaning c.args.constraint.now in
    let w = subst (λ n. WalkedValues r.0 owner c.args.var (placed_value n) c.args.filtering.now c.loop-next.filtering c.args.steps.now c.loop-next.steps) c.in-Some.is (c.loop-next.invariant.0 r.0 r.1) in
    w.advanced.present

pub take_out-requires-clause-lacking : goal.take_out-requires-clause-lacking
take_out-requires-clause-lacking g c = c.is_supported.ensures.lacking c.if-is_supported.false

pub take_out-requires-clause-knows : goal.take_out-requires-clause-knows
take_out-requires-clause-knows g c =
    let con = (active_of g.F.Filter.meaning c.args.constraint.now).con in
    subst (λ n. IfSome n (λ p. Knows c.loop-next.filtering.store con c.args.var p.value c.loop-next.room)) c.in-Some.is c.loop-next.invariant.2

pub returns-in_err-take_out-clause-part : goal.returns-in_err-take_out-clause-part
returns-in_err-take_out-clause-part g c = λ active r.
    let owner = active_of g.F.Filter.meaning c.args.constraint.now in
    let f = c.args.filtering.now in
    let w = subst (λ n. WalkedValues active owner c.args.var (placed_value n) f c.loop-next.filtering c.args.steps.now c.loop-next.steps) c.in-Some.is (c.loop-next.invariant.0 active r) in
    on_err_of c.from_residual.result (subst (λ (z : Filtering). WalkedPart active owner (pairs_of c.args.var (values_of (initial_of f.store) c.args.var)) f z) (sym c.in_err-take_out.ensures.err)
    (values_stopped active owner c.args.var c.in-Some.placed.value f c.loop-next.filtering c.is_supported.new.checks w.advanced
    (record { filled = values_filled active owner c.args.var c.in-Some.placed.value f c.loop-next.filtering w.advanced; has = w.advanced.present; lacks = c.is_supported.ensures.lacking c.if-is_supported.false })))

pub returns-in_err-take_out-clause-revising : goal.returns-in_err-take_out-clause-revising
returns-in_err-take_out-clause-revising g c = λ active r.
    let w = c.loop-next.invariant.0 active r in
    c.take_out.ensures.revising active (revising_checks active (active_of g.F.Filter.meaning c.args.constraint.now) c.loop-next.filtering c.is_supported.new.checks w.advanced.revising)

pub returns-in_err-take_out-clause-counted : goal.returns-in_err-take_out-clause-counted
returns-in_err-take_out-clause-counted g c =
    let r = c.requires.revising in
    let owner = active_of g.F.Filter.meaning c.args.constraint.now in
    let f = c.args.filtering.now in
    let w = subst (λ n. WalkedValues r.0 owner c.args.var (placed_value n) f c.loop-next.filtering c.args.steps.now c.loop-next.steps) c.in-Some.is (c.loop-next.invariant.0 r.0 r.1) in
    values_counted r.0 owner c.args.var c.in-Some.placed.value f c.loop-next.filtering c.take_out.new.filtering c.args.steps.now c.loop-next.steps c.is_supported.new.steps w.advanced w.counted
    (counted_one owner c.loop-next.filtering c.take_out.new.filtering c.loop-next.steps c.is_supported.new.steps c.is_supported.ensures.counted (c.take_out.ensures.checks ∙ c.is_supported.ensures.checks)
    (λ other. ap (λ (z : Filtering). users_removals z.log.log) c.in_err-take_out.ensures.err))

pub next_placed-next-requires-clause-var : goal.next_placed-next-requires-clause-var
next_placed-next-requires-clause-var g c =
    let r = c.requires.revising in
    let owner = active_of g.F.Filter.meaning c.args.constraint.now in
    let w = c.loop-next.invariant.0 r.0 r.1 in
    var_stored c.take_out.new.filtering r.0 owner (c.take_out.ensures.revising r.0 (revising_checks r.0 owner c.loop-next.filtering c.is_supported.new.checks w.advanced.revising)) c.args.var c.requires.over

pub next_placed-next-requires-clause-placed : goal.next_placed-next-requires-clause-placed
next_placed-next-requires-clause-placed g c =
    let r = c.requires.revising in
    let owner = active_of g.F.Filter.meaning c.args.constraint.now in
    let now = c.loop-next.filtering in
    let w = c.loop-next.invariant.0 r.0 r.1 in
    let here = subst (λ n. IfSome n (λ p. IsPlaced now.store c.args.var p)) c.in-Some.is c.loop-next.invariant.1 in
    walked_placed r.0 owner (pair_of c.args.var c.in-Some.placed.value ∷ []) (record now { checks = c.is_supported.new.checks }) c.take_out.new.filtering c.args.var c.in-Some.placed
    (c.in_ok-take_out.ensures.walked r.0 (revising_checks r.0 owner now c.is_supported.new.checks w.advanced.revising)) here

pub loop-next-smaller : goal.loop-next-smaller
loop-next-smaller g c =
    let r = c.requires.revising in
    let owner = active_of g.F.Filter.meaning c.args.constraint.now in
    let f = c.args.filtering.now in
    let w = subst (λ n. WalkedValues r.0 owner c.args.var (placed_value n) f c.loop-next.filtering c.args.steps.now c.loop-next.steps) c.in-Some.is (c.loop-next.invariant.0 r.0 r.1) in
    let vs = values_of (initial_of f.store) c.args.var in
    let is_next = next_value c.next_placed-next.result (present_values c.take_out.new.filtering.store c.args.var) (c.in-Some.placed.value +ℤ pos 1) c.next_placed-next.ensures.next in
    subst (λ n. left_from (placed_value c.next_placed-next.result) vs < left_from (placed_value n) vs) (sym c.in-Some.is)
    (values_fewer r.0 owner c.args.var c.in-Some.placed.value (placed_value c.next_placed-next.result) f c.loop-next.filtering (present_values c.take_out.new.filtering.store c.args.var) w.advanced is_next)

pub loop-next-preserved : goal.loop-next-preserved
loop-next-preserved g c = (
  λ active r.
      let owner = active_of g.F.Filter.meaning c.args.constraint.now in
      let f = c.args.filtering.now in
      let now = c.loop-next.filtering in
      let after = c.take_out.new.filtering in
      let w = subst (λ n. WalkedValues active owner c.args.var (placed_value n) f now c.args.steps.now c.loop-next.steps) c.in-Some.is (c.loop-next.invariant.0 active r) in
      let revising = revising_checks active owner now c.is_supported.new.checks w.advanced.revising in
      let told = c.in_ok-take_out.ensures in
      let is_next = next_value c.next_placed-next.result (present_values c.take_out.new.filtering.store c.args.var) (c.in-Some.placed.value +ℤ pos 1) c.next_placed-next.ensures.next in
      record {
        advanced = values_more active owner c.args.var c.in-Some.placed.value (placed_value c.next_placed-next.result) f now after w.advanced
            (checks_walked active owner (pair_of c.args.var c.in-Some.placed.value ∷ []) now after c.is_supported.new.checks (told.walked active revising)) (told.revising active revising)
            (λ has. absurd (told.gone.gone has)) is_next;
        counted = more_counted active owner c.args.var c.in-Some.placed.value (placed_value c.next_placed-next.result) f now after c.args.steps.now c.loop-next.steps c.is_supported.new.steps w.advanced w.counted
            (counted_one owner now after c.loop-next.steps c.is_supported.new.steps c.is_supported.ensures.counted (told.checks ∙ c.is_supported.ensures.checks)
            (walked_quiet active owner (pair_of c.args.var c.in-Some.placed.value ∷ []) (record now { checks = c.is_supported.new.checks }) after (told.walked active revising))) is_next;
      },
  c.next_placed-next.ensures.placed,
  knows_next c.take_out.new.filtering.store (active_of g.F.Filter.meaning c.args.constraint.now).con c.args.var c.in-Some.placed.value c.next_placed-next.result c.take_out.new.room c.next_placed-next.ensures.next c.in_ok-take_out.ensures.knows,
)

pub returns-clause-advanced : goal.returns-clause-advanced
returns-clause-advanced g c = λ active r.
    let owner = active_of g.F.Filter.meaning c.args.constraint.now in
    let f = c.args.filtering.now in
    let w = subst (λ n. WalkedValues active owner c.args.var (placed_value n) f c.loop-next.filtering c.args.steps.now c.loop-next.steps) c.in_default.is (c.loop-next.invariant.0 active r) in
    w.advanced

pub returns-clause-revising : goal.returns-clause-revising
returns-clause-revising g c = λ active r. let w = c.loop-next.invariant.0 active r in w.advanced.revising

pub returns-clause-counted : goal.returns-clause-counted
returns-clause-counted g c =
    let r = c.requires.revising in
    let owner = active_of g.F.Filter.meaning c.args.constraint.now in
    let f = c.args.filtering.now in
    let w = subst (λ n. WalkedValues r.0 owner c.args.var (placed_value n) f c.loop-next.filtering c.args.steps.now c.loop-next.steps) c.in_default.is (c.loop-next.invariant.0 r.0 r.1) in
    w.counted
