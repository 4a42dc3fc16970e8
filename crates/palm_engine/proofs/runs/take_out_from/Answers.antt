use Rattle.std.proofs.Common.{◌<◌, None, Some, sym, subst, arith}
use Rattle.std.proofs.lemmas.Int.{ints}
use Rattle.palm_domain.specs.Rows.{initial_of}
use Rattle.palm_model.specs.Domains.{values_of}
use Rattle.palm_model.specs.Removed.{pairs_of}
use Rattle.palm_engine.specs.declared.filtering.Filtering.{Filtering}
use Rattle.palm_engine.specs.Advancing.{TakenFrom, placed_value}
use Rattle.palm_engine.specs.Posted.{active_of}
use Rattle.palm_engine.specs.Revising.{WalkedPart}
use Rattle.palm_engine.proofs.Bounds.{left_from}
use Rattle.palm_engine.proofs.Convex.{later_fewer, taken_start, taken_then}
use Rattle.palm_engine.proofs.Progress.{values_stopped, values_filled, on_err_of}
use Rattle.palm_engine.proofs.runs.take_out_from.Goals as goal

pub loop-next-init : goal.loop-next-init
loop-next-init g c = record {
  taken = taken_start (active_of g.F.Filter.meaning c.args.constraint.now) c.args.var None (placed_value c.args.from) c.args.filtering.now c.requires.lacking;
  placed = c.requires.placed;
}

pub take_out_some-requires-clause-advanced : goal.take_out_some-requires-clause-advanced
take_out_some-requires-clause-advanced g c =
    let owner = active_of g.F.Filter.meaning c.args.constraint.now in
    let some = c.requires.advanced in
    let t = subst (λ n. TakenFrom owner c.args.var None (placed_value c.args.from) (placed_value n) c.args.filtering.now c.loop-next.filtering) c.in-Some.is c.loop-next.invariant.taken in
    (some.0, some.1, t.advanced some.0 some.1 some.2)

pub returns-in_err-next-clause-part : goal.returns-in_err-next-clause-part
returns-in_err-next-clause-part g c = λ active start w.
    let owner = active_of g.F.Filter.meaning c.args.constraint.now in
    let now = c.loop-next.filtering in
    let t = subst (λ n. TakenFrom owner c.args.var None (placed_value c.args.from) (placed_value n) c.args.filtering.now now) c.in-Some.is c.loop-next.invariant.taken in
    let at = t.advanced active start w in
    let v = c.in-Some.placed.value in
    on_err_of c.from_residual.result (subst (λ (z : Filtering). WalkedPart active owner (pairs_of c.args.var (values_of (initial_of start.store) c.args.var)) start z) (sym c.in_err-next.ensures.err)
    (values_stopped active owner c.args.var v start now now.checks at
    (record { filled = values_filled active owner c.args.var v start now at; has = at.present; lacks = t.lacking v at.present (omega (arith, ints)) tt })))

pub loop-next-smaller : goal.loop-next-smaller
loop-next-smaller g c =
    let owner = active_of g.F.Filter.meaning c.args.constraint.now in
    let f = c.args.filtering.now in
    let vs = values_of (initial_of f.store) c.args.var in
    let t = subst (λ n. TakenFrom owner c.args.var None (placed_value c.args.from) (placed_value n) f c.loop-next.filtering) c.in-Some.is c.loop-next.invariant.taken in
    subst (λ n. left_from (placed_value c.in_ok-next.next) vs < left_from (placed_value n) vs) (sym c.in-Some.is)
    (later_fewer owner c.args.var c.in-Some.placed.value None (placed_value c.args.from) (placed_value c.in_ok-next.next) f c.loop-next.filtering t c.in_ok-next.ensures.later c.requires.advanced)

pub loop-next-preserved : goal.loop-next-preserved
loop-next-preserved g c =
    let owner = active_of g.F.Filter.meaning c.args.constraint.now in
    let t = subst (λ n. TakenFrom owner c.args.var None (placed_value c.args.from) (placed_value n) c.args.filtering.now c.loop-next.filtering) c.in-Some.is c.loop-next.invariant.taken in
    record {
      taken = taken_then owner c.args.var None (placed_value c.args.from) (Some c.in-Some.placed.value) (placed_value c.in_ok-next.next) c.args.filtering.now c.loop-next.filtering c.take_out_some.new.filtering t c.in_ok-next.ensures.taken;
      placed = c.in_ok-next.ensures.placed;
    }

pub returns-clause-advanced : goal.returns-clause-advanced
returns-clause-advanced g c = λ active start w.
    let owner = active_of g.F.Filter.meaning c.args.constraint.now in
    let t = subst (λ n. TakenFrom owner c.args.var None (placed_value c.args.from) (placed_value n) c.args.filtering.now c.loop-next.filtering) c.in_default.is c.loop-next.invariant.taken in
    t.advanced active start w
