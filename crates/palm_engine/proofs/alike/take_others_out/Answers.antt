use Rattle.std.proofs.Common.{◌<◌, [], ◌∷◌, pos, ◌+ℤ◌, IfSome, sym, subst}
use Rattle.palm_domain.specs.Rows.{IsPlaced, initial_of, present_values}
use Rattle.palm_model.specs.Domains.{values_of}
use Rattle.palm_model.specs.Removed.{pairs_of}
use Rattle.palm_model.proofs.cited.Without.{pair_of}
use Rattle.palm_engine.specs.declared.filtering.Filtering.{Filtering}
use Rattle.palm_engine.specs.Advancing.{placed_value}
use Rattle.palm_engine.specs.Posted.{active_of}
use Rattle.palm_engine.specs.Revising.{WalkedPart}
use Rattle.palm_engine.proofs.Others.{WalkedOthers, lack_still, others_counted, others_start, others_stopped}
use Rattle.palm_engine.proofs.Bounds.{left_from}
use Rattle.palm_engine.proofs.PlacedWalks.{next_value, walked_placed}
use Rattle.palm_engine.proofs.Progress.{values_done, values_fewer, values_filled, values_more, values_start, values_stopped, values_supported, on_err_of}
use Rattle.palm_engine.proofs.Revised.{var_present, var_stored}
use Rattle.palm_engine.proofs.alike.take_others_out.Goals as goal

pub first_placed-requires : goal.first_placed-requires
first_placed-requires g c =
    let r = c.requires.revising in
    c.requires.filled c.args.var (var_present c.args.filtering.now r.0 (active_of g.F.Filter.meaning c.args.constraint.now) r.1 c.args.var c.requires.over)

pub loop-next-init : goal.loop-next-init
loop-next-init g c = (
  λ active r. record {
    advanced = values_start active (active_of g.F.Filter.meaning c.args.constraint.now) c.args.var c.first_placed.result.value c.args.filtering.now r c.requires.filled (record { member = c.first_placed.ensures.least.member; least = c.first_placed.ensures.least.least });
    lacking = c.requires.known;
    counted = others_start c.args.var c.args.but c.first_placed.result.value c.args.filtering.now c.args.steps.now;
  },
  c.first_placed.ensures.placed,
)

pub take_out_unless-requires-clause-revising : goal.take_out_unless-requires-clause-revising
take_out_unless-requires-clause-revising g c = let r = c.requires.revising in let w = c.loop-next.invariant.0 r.0 r.1 in (r.0, w.advanced.revising)

pub take_out_unless-requires-clause-filled : goal.take_out_unless-requires-clause-filled
take_out_unless-requires-clause-filled g c =
    let r = c.requires.revising in
    let owner = active_of g.F.Filter.meaning c.args.constraint.now in
    let f = c.args.filtering.now in
    let w = subst (λ n. WalkedOthers r.0 owner c.args.var c.args.but (placed_value n) f c.loop-next.filtering c.args.steps.now c.loop-next.steps) c.in-Some.is (c.loop-next.invariant.0 r.0 r.1) in
    values_filled r.0 owner c.args.var c.in-Some.placed.value f c.loop-next.filtering w.advanced

pub take_out_unless-requires-clause-present : goal.take_out_unless-requires-clause-present
take_out_unless-requires-clause-present g c =
    let r = c.requires.revising in
    let owner = active_of g.F.Filter.meaning c.args.constraint.now in
    let f = c.args.filtering.now in
    let w = subst (λ n. WalkedOthers r.0 owner c.args.var c.args.but (placed_value n) f c.loop-next.filtering c.args.steps.now c.loop-next.steps) c.in-Some.is (c.loop-next.invariant.0 r.0 r.1) in
    w.advanced.present

pub take_out_unless-requires-clause-lacking : goal.take_out_unless-requires-clause-lacking
take_out_unless-requires-clause-lacking g c =
    let r = c.requires.revising in
    let owner = active_of g.F.Filter.meaning c.args.constraint.now in
    let f = c.args.filtering.now in
    let w = subst (λ n. WalkedOthers r.0 owner c.args.var c.args.but (placed_value n) f c.loop-next.filtering c.args.steps.now c.loop-next.steps) c.in-Some.is (c.loop-next.invariant.0 r.0 r.1) in
    w.lacking c.in-Some.placed.value w.advanced.present

pub returns-in_err-take_out_unless-clause-revising : goal.returns-in_err-take_out_unless-clause-revising
returns-in_err-take_out_unless-clause-revising g c = λ active r. let w = c.loop-next.invariant.0 active r in c.take_out_unless.ensures.revising active w.advanced.revising

pub returns-in_err-take_out_unless-clause-part : goal.returns-in_err-take_out_unless-clause-part
returns-in_err-take_out_unless-clause-part g c = λ active r.
    let owner = active_of g.F.Filter.meaning c.args.constraint.now in
    let f = c.args.filtering.now in
    let w = subst (λ n. WalkedOthers active owner c.args.var c.args.but (placed_value n) f c.loop-next.filtering c.args.steps.now c.loop-next.steps) c.in-Some.is (c.loop-next.invariant.0 active r) in
    on_err_of c.from_residual.result (subst (λ (z : Filtering). WalkedPart active owner (pairs_of c.args.var (values_of (initial_of f.store) c.args.var)) f z) (sym c.in_err-take_out_unless.ensures.err)
    (values_stopped active owner c.args.var c.in-Some.placed.value f c.loop-next.filtering c.take_out_unless.new.filtering.checks w.advanced c.in_err-take_out_unless.ensures.due))

pub returns-in_err-take_out_unless-clause-counted : goal.returns-in_err-take_out_unless-clause-counted
returns-in_err-take_out_unless-clause-counted g c =
    let r = c.requires.revising in
    let owner = active_of g.F.Filter.meaning c.args.constraint.now in
    let f = c.args.filtering.now in
    let w = subst (λ n. WalkedOthers r.0 owner c.args.var c.args.but (placed_value n) f c.loop-next.filtering c.args.steps.now c.loop-next.steps) c.in-Some.is (c.loop-next.invariant.0 r.0 r.1) in
    others_stopped r.0 owner c.args.var c.args.but c.in-Some.placed.value f c.loop-next.filtering c.take_out_unless.new.filtering c.args.steps.now c.loop-next.steps c.take_out_unless.new.steps w.advanced w.counted
    c.take_out_unless.ensures.counted

pub next_placed-next-requires-clause-var : goal.next_placed-next-requires-clause-var
next_placed-next-requires-clause-var g c =
    let r = c.requires.revising in
    let owner = active_of g.F.Filter.meaning c.args.constraint.now in
    let w = c.loop-next.invariant.0 r.0 r.1 in
    var_stored c.take_out_unless.new.filtering r.0 owner (c.take_out_unless.ensures.revising r.0 w.advanced.revising) c.args.var c.requires.over

pub next_placed-next-requires-clause-placed : goal.next_placed-next-requires-clause-placed
next_placed-next-requires-clause-placed g c =
    let r = c.requires.revising in
    let owner = active_of g.F.Filter.meaning c.args.constraint.now in
    let w = c.loop-next.invariant.0 r.0 r.1 in
    let here = subst (λ n. IfSome n (λ p. IsPlaced c.loop-next.filtering.store c.args.var p)) c.in-Some.is c.loop-next.invariant.1 in
    walked_placed r.0 owner (pair_of c.args.var c.in-Some.placed.value ∷ []) c.loop-next.filtering c.take_out_unless.new.filtering c.args.var c.in-Some.placed (c.in_ok-take_out_unless.ensures.walked r.0 w.advanced.revising) here

pub loop-next-smaller : goal.loop-next-smaller
loop-next-smaller g c =
    let r = c.requires.revising in
    let owner = active_of g.F.Filter.meaning c.args.constraint.now in
    let f = c.args.filtering.now in
    let w = subst (λ n. WalkedOthers r.0 owner c.args.var c.args.but (placed_value n) f c.loop-next.filtering c.args.steps.now c.loop-next.steps) c.in-Some.is (c.loop-next.invariant.0 r.0 r.1) in
    let vs = values_of (initial_of f.store) c.args.var in
    let is_next = next_value c.next_placed-next.result (present_values c.take_out_unless.new.filtering.store c.args.var) (c.in-Some.placed.value +ℤ pos 1) c.next_placed-next.ensures.next in
    subst (λ n. left_from (placed_value c.next_placed-next.result) vs < left_from (placed_value n) vs) (sym c.in-Some.is)
    (values_fewer r.0 owner c.args.var c.in-Some.placed.value (placed_value c.next_placed-next.result) f c.loop-next.filtering (present_values c.take_out_unless.new.filtering.store c.args.var) w.advanced is_next)

pub loop-next-preserved : goal.loop-next-preserved
loop-next-preserved g c = (
  λ active r.
      let owner = active_of g.F.Filter.meaning c.args.constraint.now in
      let f = c.args.filtering.now in
      let m = c.loop-next.filtering in
      let w = subst (λ n. WalkedOthers active owner c.args.var c.args.but (placed_value n) f m c.args.steps.now c.loop-next.steps) c.in-Some.is (c.loop-next.invariant.0 active r) in
      let told = c.in_ok-take_out_unless.ensures in
      let now = w.advanced.revising in
      let is_next = next_value c.next_placed-next.result (present_values c.take_out_unless.new.filtering.store c.args.var) (c.in-Some.placed.value +ℤ pos 1) c.next_placed-next.ensures.next in
      record {
        advanced = values_more active owner c.args.var c.in-Some.placed.value (placed_value c.next_placed-next.result) f m c.take_out_unless.new.filtering w.advanced
            (told.walked active now) (told.revising active now) told.supported is_next;
        lacking = lack_still active owner (pair_of c.args.var c.in-Some.placed.value ∷ []) c.args.var c.args.but m c.take_out_unless.new.filtering now (told.revising active now) (told.walked active now) w.lacking;
        counted = others_counted active owner c.args.var c.args.but c.in-Some.placed.value (placed_value c.next_placed-next.result) f m c.take_out_unless.new.filtering c.args.steps.now c.loop-next.steps c.take_out_unless.new.steps w.advanced
            w.counted told.counted is_next;
      },
  c.next_placed-next.ensures.placed,
)

pub returns-clause-walked : goal.returns-clause-walked
returns-clause-walked g c = λ active r.
    let owner = active_of g.F.Filter.meaning c.args.constraint.now in
    let f = c.args.filtering.now in
    let w = subst (λ n. WalkedOthers active owner c.args.var c.args.but (placed_value n) f c.loop-next.filtering c.args.steps.now c.loop-next.steps) c.in_default.is (c.loop-next.invariant.0 active r) in
    values_done active owner c.args.var f c.loop-next.filtering w.advanced

pub returns-clause-supported : goal.returns-clause-supported
returns-clause-supported g c =
    let r = c.requires.revising in
    let owner = active_of g.F.Filter.meaning c.args.constraint.now in
    let f = c.args.filtering.now in
    let w = subst (λ n. WalkedOthers r.0 owner c.args.var c.args.but (placed_value n) f c.loop-next.filtering c.args.steps.now c.loop-next.steps) c.in_default.is (c.loop-next.invariant.0 r.0 r.1) in
    values_supported r.0 owner c.args.var f c.loop-next.filtering w.advanced

pub returns-clause-revising : goal.returns-clause-revising
returns-clause-revising g c = λ active r. let w = c.loop-next.invariant.0 active r in w.advanced.revising

pub returns-clause-counted : goal.returns-clause-counted
returns-clause-counted g c =
    let r = c.requires.revising in
    let owner = active_of g.F.Filter.meaning c.args.constraint.now in
    let f = c.args.filtering.now in
    let w = subst (λ n. WalkedOthers r.0 owner c.args.var c.args.but (placed_value n) f c.loop-next.filtering c.args.steps.now c.loop-next.steps) c.in_default.is (c.loop-next.invariant.0 r.0 r.1) in
    w.counted
