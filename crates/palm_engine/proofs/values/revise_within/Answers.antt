use Rattle.std.proofs.Common.{◌<◌, [], ◌∷◌, pos, ◌+ℤ◌, IfSome, sym, ◌∙◌, subst}
use Rattle.palm_domain.specs.Rows.{IsPlaced, initial_of, present_values}
use Rattle.palm_domain.proofs.cited.Comparisons.{ge_from_is_lt, lt_from_is_lt}
use Rattle.palm_model.specs.Domains.{values_of}
use Rattle.palm_model.specs.Removed.{pairs_of}
use Rattle.palm_model.proofs.cited.Without.{pair_of}
use Rattle.palm_engine.specs.declared.filtering.Filtering.{Filtering}
use Rattle.palm_engine.specs.Advancing.{placed_value}
use Rattle.palm_engine.specs.Posted.{active_of}
use Rattle.palm_engine.specs.Revising.{WalkedPart}
use Rattle.palm_engine.proofs.Bounds.{left_from}
use Rattle.palm_engine.proofs.PlacedWalks.{next_value, walked_placed}
use Rattle.palm_engine.proofs.Revised.{var_stored}
use Rattle.palm_engine.proofs.Progress.{values_done, values_supported, values_stopped, values_counted, values_fewer, values_filled, on_err_of}
use Rattle.palm_engine.proofs.Within.{WalkedWithin, within_start, within_more, within_ended}
use Rattle.palm_engine.proofs.values.revise_within.Goals as goal

pub placed_from-next-requires : goal.placed_from-next-requires
placed_from-next-requires g c =
    let r = c.requires.revising in
    var_stored c.args.filtering.now r.0 (active_of g.F.Filter.meaning c.args.constraint.now) r.1 c.args.var c.requires.over

pub loop-next-init : goal.loop-next-init
loop-next-init g c = (
  λ active r.
      let is_next = next_value c.placed_from-next.result (present_values c.args.filtering.now.store c.args.var) c.args.low c.placed_from-next.ensures.next in
      within_start active (active_of g.F.Filter.meaning c.args.constraint.now) c.args.var c.args.low c.args.high (placed_value c.placed_from-next.result) c.args.filtering.now c.args.steps.now r c.requires.filled
      c.requires.known is_next,
  c.placed_from-next.ensures.placed,
)

pub examine-requires-clause-revising : goal.examine-requires-clause-revising
examine-requires-clause-revising g c = let r = c.requires.revising in let w = c.loop-next.invariant.0 r.0 r.1 in (r.0, w.values.advanced.revising)

pub examine-requires-clause-filled : goal.examine-requires-clause-filled
examine-requires-clause-filled g c =
    let r = c.requires.revising in
    let owner = active_of g.F.Filter.meaning c.args.constraint.now in
    let f = c.args.filtering.now in
    let w = subst (λ n. WalkedWithin r.0 owner c.args.var c.args.high (placed_value n) f c.loop-next.filtering c.args.steps.now c.loop-next.steps) c.in-Some.is (c.loop-next.invariant.0 r.0 r.1) in
    values_filled r.0 owner c.args.var c.in-Some.placed.value f c.loop-next.filtering w.values.advanced

pub examine-requires-clause-present : goal.examine-requires-clause-present
examine-requires-clause-present g c =
    let r = c.requires.revising in
    let owner = active_of g.F.Filter.meaning c.args.constraint.now in
    let f = c.args.filtering.now in
    let w = subst (λ n. WalkedWithin r.0 owner c.args.var c.args.high (placed_value n) f c.loop-next.filtering c.args.steps.now c.loop-next.steps) c.in-Some.is (c.loop-next.invariant.0 r.0 r.1) in
    w.values.advanced.present

pub returns-in_err-examine-clause-revising : goal.returns-in_err-examine-clause-revising
returns-in_err-examine-clause-revising g c = λ active r. let w = c.loop-next.invariant.0 active r in c.examine.ensures.revising active w.values.advanced.revising

pub returns-in_err-examine-clause-part : goal.returns-in_err-examine-clause-part
returns-in_err-examine-clause-part g c = λ active r.
    let owner = active_of g.F.Filter.meaning c.args.constraint.now in
    let f = c.args.filtering.now in
    let w = subst (λ n. WalkedWithin active owner c.args.var c.args.high (placed_value n) f c.loop-next.filtering c.args.steps.now c.loop-next.steps) c.in-Some.is (c.loop-next.invariant.0 active r) in
    on_err_of c.from_residual.result (subst (λ (z : Filtering). WalkedPart active owner (pairs_of c.args.var (values_of (initial_of f.store) c.args.var)) f z) (sym c.in_err-examine.ensures.err)
    (values_stopped active owner c.args.var c.in-Some.placed.value f c.loop-next.filtering c.examine.new.filtering.checks w.values.advanced c.in_err-examine.ensures.due))

pub returns-in_err-examine-clause-counted : goal.returns-in_err-examine-clause-counted
returns-in_err-examine-clause-counted g c =
    let r = c.requires.revising in
    let owner = active_of g.F.Filter.meaning c.args.constraint.now in
    let f = c.args.filtering.now in
    let w = subst (λ n. WalkedWithin r.0 owner c.args.var c.args.high (placed_value n) f c.loop-next.filtering c.args.steps.now c.loop-next.steps) c.in-Some.is (c.loop-next.invariant.0 r.0 r.1) in
    values_counted r.0 owner c.args.var c.in-Some.placed.value f c.loop-next.filtering c.examine.new.filtering c.args.steps.now c.loop-next.steps c.examine.new.steps w.values.advanced w.values.counted c.examine.ensures.counted

pub next_placed-next-requires-clause-var : goal.next_placed-next-requires-clause-var
next_placed-next-requires-clause-var g c =
    let r = c.requires.revising in
    let owner = active_of g.F.Filter.meaning c.args.constraint.now in
    let w = c.loop-next.invariant.0 r.0 r.1 in
    var_stored c.examine.new.filtering r.0 owner (c.examine.ensures.revising r.0 w.values.advanced.revising) c.args.var c.requires.over

pub next_placed-next-requires-clause-placed : goal.next_placed-next-requires-clause-placed
next_placed-next-requires-clause-placed g c =
    let r = c.requires.revising in
    let owner = active_of g.F.Filter.meaning c.args.constraint.now in
    let w = c.loop-next.invariant.0 r.0 r.1 in
    let here = subst (λ n. IfSome n (λ p. IsPlaced c.loop-next.filtering.store c.args.var p)) c.in-Some.is c.loop-next.invariant.1 in
    walked_placed r.0 owner (pair_of c.args.var c.in-Some.placed.value ∷ []) c.loop-next.filtering c.examine.new.filtering c.args.var c.in-Some.placed (c.in_ok-examine.ensures.walked r.0 w.values.advanced.revising) here

pub loop-next-smaller : goal.loop-next-smaller
loop-next-smaller g c =
    let r = c.requires.revising in
    let owner = active_of g.F.Filter.meaning c.args.constraint.now in
    let f = c.args.filtering.now in
    let w = subst (λ n. WalkedWithin r.0 owner c.args.var c.args.high (placed_value n) f c.loop-next.filtering c.args.steps.now c.loop-next.steps) c.in-Some.is (c.loop-next.invariant.0 r.0 r.1) in
    let vs = values_of (initial_of f.store) c.args.var in
    let is_next = next_value c.next_placed-next.result (present_values c.examine.new.filtering.store c.args.var) (c.in-Some.placed.value +ℤ pos 1) c.next_placed-next.ensures.next in
    subst (λ n. left_from (placed_value c.next_placed-next.result) vs < left_from (placed_value n) vs) (sym c.in-Some.is)
    (values_fewer r.0 owner c.args.var c.in-Some.placed.value (placed_value c.next_placed-next.result) f c.loop-next.filtering (present_values c.examine.new.filtering.store c.args.var) w.values.advanced is_next)

pub loop-next-preserved : goal.loop-next-preserved
loop-next-preserved g c = (
  λ active r.
      let owner = active_of g.F.Filter.meaning c.args.constraint.now in
      let f = c.args.filtering.now in
      let w = subst (λ n. WalkedWithin active owner c.args.var c.args.high (placed_value n) f c.loop-next.filtering c.args.steps.now c.loop-next.steps) c.in-Some.is (c.loop-next.invariant.0 active r) in
      let told = c.in_ok-examine.ensures in
      let is_next = next_value c.next_placed-next.result (present_values c.examine.new.filtering.store c.args.var) (c.in-Some.placed.value +ℤ pos 1) c.next_placed-next.ensures.next in
      within_more active owner c.args.var c.args.high c.in-Some.placed.value (placed_value c.next_placed-next.result) f c.loop-next.filtering c.examine.new.filtering c.args.steps.now c.loop-next.steps c.examine.new.steps w
      (ge_from_is_lt _ _ (sym c.if-lt.false ∙ c.lt.ensures)) (told.walked active w.values.advanced.revising) (told.revising active w.values.advanced.revising) told.supported told.counted is_next,
  c.next_placed-next.ensures.placed,
)

pub returns-then-lt-clause-walked : goal.returns-then-lt-clause-walked
returns-then-lt-clause-walked g c = λ active r.
    let owner = active_of g.F.Filter.meaning c.args.constraint.now in
    let f = c.args.filtering.now in
    let w = subst (λ n. WalkedWithin active owner c.args.var c.args.high (placed_value n) f c.loop-next.filtering c.args.steps.now c.loop-next.steps) c.in-Some.is (c.loop-next.invariant.0 active r) in
    let ended = within_ended active owner c.args.var c.args.high c.in-Some.placed.value f c.loop-next.filtering c.args.steps.now c.loop-next.steps w (lt_from_is_lt _ _ (sym c.if-lt.true ∙ c.lt.ensures)) in
    values_done active owner c.args.var f c.loop-next.filtering ended.advanced

pub returns-then-lt-clause-supported : goal.returns-then-lt-clause-supported
returns-then-lt-clause-supported g c =
    let r = c.requires.revising in
    let owner = active_of g.F.Filter.meaning c.args.constraint.now in
    let f = c.args.filtering.now in
    let w = subst (λ n. WalkedWithin r.0 owner c.args.var c.args.high (placed_value n) f c.loop-next.filtering c.args.steps.now c.loop-next.steps) c.in-Some.is (c.loop-next.invariant.0 r.0 r.1) in
    let ended = within_ended r.0 owner c.args.var c.args.high c.in-Some.placed.value f c.loop-next.filtering c.args.steps.now c.loop-next.steps w (lt_from_is_lt _ _ (sym c.if-lt.true ∙ c.lt.ensures)) in
    values_supported r.0 owner c.args.var f c.loop-next.filtering ended.advanced

pub returns-then-lt-clause-revising : goal.returns-then-lt-clause-revising
returns-then-lt-clause-revising g c = λ active r. let w = c.loop-next.invariant.0 active r in w.values.advanced.revising

pub returns-then-lt-clause-counted : goal.returns-then-lt-clause-counted
returns-then-lt-clause-counted g c =
    let r = c.requires.revising in
    let owner = active_of g.F.Filter.meaning c.args.constraint.now in
    let f = c.args.filtering.now in
    let w = subst (λ n. WalkedWithin r.0 owner c.args.var c.args.high (placed_value n) f c.loop-next.filtering c.args.steps.now c.loop-next.steps) c.in-Some.is (c.loop-next.invariant.0 r.0 r.1) in
    let ended = within_ended r.0 owner c.args.var c.args.high c.in-Some.placed.value f c.loop-next.filtering c.args.steps.now c.loop-next.steps w (lt_from_is_lt _ _ (sym c.if-lt.true ∙ c.lt.ensures)) in
    ended.counted

pub returns-clause-walked : goal.returns-clause-walked
returns-clause-walked g c = λ active r.
    let owner = active_of g.F.Filter.meaning c.args.constraint.now in
    let f = c.args.filtering.now in
    let w = subst (λ n. WalkedWithin active owner c.args.var c.args.high (placed_value n) f c.loop-next.filtering c.args.steps.now c.loop-next.steps) c.in_default.is (c.loop-next.invariant.0 active r) in
    values_done active owner c.args.var f c.loop-next.filtering w.values.advanced

pub returns-clause-supported : goal.returns-clause-supported
returns-clause-supported g c =
    let r = c.requires.revising in
    let owner = active_of g.F.Filter.meaning c.args.constraint.now in
    let f = c.args.filtering.now in
    let w = subst (λ n. WalkedWithin r.0 owner c.args.var c.args.high (placed_value n) f c.loop-next.filtering c.args.steps.now c.loop-next.steps) c.in_default.is (c.loop-next.invariant.0 r.0 r.1) in
    values_supported r.0 owner c.args.var f c.loop-next.filtering w.values.advanced

pub returns-clause-revising : goal.returns-clause-revising
returns-clause-revising g c = λ active r. let w = c.loop-next.invariant.0 active r in w.values.advanced.revising

pub returns-clause-counted : goal.returns-clause-counted
returns-clause-counted g c =
    let r = c.requires.revising in
    let owner = active_of g.F.Filter.meaning c.args.constraint.now in
    let f = c.args.filtering.now in
    let w = subst (λ n. WalkedWithin r.0 owner c.args.var c.args.high (placed_value n) f c.loop-next.filtering c.args.steps.now c.loop-next.steps) c.in_default.is (c.loop-next.invariant.0 r.0 r.1) in
    w.values.counted
