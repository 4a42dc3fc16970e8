use Rattle.std.proofs.Common.{◌+◌, ◌≤◌, ℤ, ◌+ℤ◌, Option, IfSome, List, length, pos, ap, sym, subst}
use Rattle.palm_domain.specs.Rows.{Row, initial_of, present_of, present_values}
use Rattle.palm_model.specs.Domains.{Has, values_of}
use Rattle.palm_model.specs.Removed.{pairs_of}
use Rattle.palm_model.specs.Support.{IsSupported}
use Rattle.palm_engine.specs.declared.filtering.Filtering.{Filtering}
use Rattle.palm_engine.specs.Advancing.{Advanced, placed_value, values_before, values_below}
use Rattle.palm_engine.specs.Posted.{active_of}
use Rattle.palm_engine.specs.Revising.{HasCounted, IsRevising}
use Rattle.palm_engine.proofs.Revised.{some_length, var_stored}
use Rattle.palm_engine.specs.Work.{asks_of}
use Rattle.palm_engine.proofs.PlacedWalks.{next_value}
use Rattle.palm_engine.proofs.Progress.{values_done, values_supported, revising_checks, on_either, on_ok, on_err_of}
use Rattle.palm_engine.proofs.Quiet.{later_quiet, part_quiet, walked_quiet}
use Rattle.palm_engine.proofs.Convex.{ends_advanced, ends_lacking, ends_counted}
use Rattle.palm_engine.proofs.between.revise_between.Goals as goal

pub returns-in_err-first-clause-part : goal.returns-in_err-first-clause-part
returns-in_err-first-clause-part g c = λ active r. on_err_of c.from_residual.result (c.in_err-first.ensures.part active r)

pub returns-in_default-clause-walked : goal.returns-in_default-clause-walked
returns-in_default-clause-walked g c = λ active r.
    let owner = active_of g.F.Filter.meaning c.args.constraint.now in
    let f = c.args.filtering.now in
    values_done active owner c.args.var f c.rise.new.filtering (subst (λ n. Advanced active owner c.args.var n f c.rise.new.filtering) c.in_default.is (c.in_ok-first.ensures.advanced active r))

pub returns-in_default-clause-supported : goal.returns-in_default-clause-supported
returns-in_default-clause-supported g c =
    let r = c.requires.revising in
    let owner = active_of g.F.Filter.meaning c.args.constraint.now in
    let f = c.args.filtering.now in
    values_supported r.0 owner c.args.var f c.rise.new.filtering (subst (λ n. Advanced r.0 owner c.args.var n f c.rise.new.filtering) c.in_default.is (c.in_ok-first.ensures.advanced r.0 r.1))

pub last_supported-last-requires-clause-present : goal.last_supported-last-requires-clause-present
last_supported-last-requires-clause-present g c =
    let r = c.requires.revising in
    let w = subst (λ n. Advanced r.0 (active_of g.F.Filter.meaning c.args.constraint.now) c.args.var n c.args.filtering.now c.rise.new.filtering) c.in-Some.is (c.in_ok-first.ensures.advanced r.0 r.1) in
    w.present

pub placed_after-above-requires-clause-declared : goal.placed_after-above-requires-clause-declared
placed_after-above-requires-clause-declared g c =
    let r = c.requires.revising in
    let owner = active_of g.F.Filter.meaning c.args.constraint.now in
    let now = c.rise.new.filtering in
    let revising = revising_checks r.0 owner now c.last_supported-last.new.filtering.checks (c.rise.ensures.revising r.0 r.1) in
    var_stored c.last_supported-last.new.filtering r.0 owner (subst (λ (z : Filtering). IsRevising z r.0 owner) (sym c.last_supported-last.ensures.same) revising) c.args.var c.requires.over

pub placed_after-above-requires-clause-filled : goal.placed_after-above-requires-clause-filled
placed_after-above-requires-clause-filled g c =
    let last = c.last_supported-last.ensures in
    let store = ap (λ (f : Filtering). f.store) last.same in
    some_length (present_values c.last_supported-last.new.filtering.store c.args.var) c.last_supported-last.result
    (subst (λ (rows : List Row). Has (present_of rows) c.args.var c.last_supported-last.result) (sym store) last.present)

pub take_out_from-requires-clause-advanced : goal.take_out_from-requires-clause-advanced
take_out_from-requires-clause-advanced g c =
    let r = c.requires.revising in
    let owner = active_of g.F.Filter.meaning c.args.constraint.now in
    let f = c.args.filtering.now in
    let now = c.rise.new.filtering in
    let w = subst (λ n. Advanced r.0 owner c.args.var n f now) c.in-Some.is (c.in_ok-first.ensures.advanced r.0 r.1) in
    let low = subst (λ n. IfSome n (IsSupported (present_of now.store) owner.con c.args.var)) c.in-Some.is c.in_ok-first.ensures.supported in
    let last = c.last_supported-last.ensures in
    let is_next = next_value c.placed_after-above.result (present_values c.last_supported-last.new.filtering.store c.args.var) (c.last_supported-last.result +ℤ pos 1) c.placed_after-above.ensures.next in
    let on = ends_advanced r.0 owner c.args.var c.in-Some.first c.last_supported-last.result (placed_value c.placed_after-above.result) f now c.last_supported-last.new.filtering w last.same last.above low last.supported
    c.requires.convex is_next in
    (r.0, f, on)

pub take_out_from-requires-clause-lacking : goal.take_out_from-requires-clause-lacking
take_out_from-requires-clause-lacking g c =
    let last = c.last_supported-last.ensures in
    let is_next = next_value c.placed_after-above.result (present_values c.last_supported-last.new.filtering.store c.args.var) (c.last_supported-last.result +ℤ pos 1) c.placed_after-above.ensures.next in
    ends_lacking (active_of g.F.Filter.meaning c.args.constraint.now) c.args.var c.last_supported-last.result (placed_value c.placed_after-above.result) c.rise.new.filtering c.last_supported-last.new.filtering last.same last.lacking is_next

pub returns-clause-walked : goal.returns-clause-walked
returns-clause-walked g c = λ active r.
    let owner = active_of g.F.Filter.meaning c.args.constraint.now in
    let f = c.args.filtering.now in
    let now = c.rise.new.filtering in
    let w = subst (λ n. Advanced active owner c.args.var n f now) c.in-Some.is (c.in_ok-first.ensures.advanced active r) in
    let low = subst (λ n. IfSome n (IsSupported (present_of now.store) owner.con c.args.var)) c.in-Some.is c.in_ok-first.ensures.supported in
    let last = c.last_supported-last.ensures in
    let is_next = next_value c.placed_after-above.result (present_values c.last_supported-last.new.filtering.store c.args.var) (c.last_supported-last.result +ℤ pos 1) c.placed_after-above.ensures.next in
    let on = ends_advanced active owner c.args.var c.in-Some.first c.last_supported-last.result (placed_value c.placed_after-above.result) f now c.last_supported-last.new.filtering w last.same last.above low last.supported
    c.requires.convex is_next in
    on_ok c.take_out_from.result (λ end. values_done active owner c.args.var f c.take_out_from.new.filtering end) (c.take_out_from.ensures.advanced active f on)

pub returns-clause-part : goal.returns-clause-part
returns-clause-part g c = λ active r.
    let owner = active_of g.F.Filter.meaning c.args.constraint.now in
    let f = c.args.filtering.now in
    let now = c.rise.new.filtering in
    let w = subst (λ n. Advanced active owner c.args.var n f now) c.in-Some.is (c.in_ok-first.ensures.advanced active r) in
    let low = subst (λ n. IfSome n (IsSupported (present_of now.store) owner.con c.args.var)) c.in-Some.is c.in_ok-first.ensures.supported in
    let last = c.last_supported-last.ensures in
    let is_next = next_value c.placed_after-above.result (present_values c.last_supported-last.new.filtering.store c.args.var) (c.last_supported-last.result +ℤ pos 1) c.placed_after-above.ensures.next in
    let on = ends_advanced active owner c.args.var c.in-Some.first c.last_supported-last.result (placed_value c.placed_after-above.result) f now c.last_supported-last.new.filtering w last.same last.above low last.supported
    c.requires.convex is_next in
    c.take_out_from.ensures.part active f on

pub returns-clause-revising : goal.returns-clause-revising
returns-clause-revising g c = λ active r.
    let owner = active_of g.F.Filter.meaning c.args.constraint.now in
    let revising = revising_checks active owner c.rise.new.filtering c.last_supported-last.new.filtering.checks (c.rise.ensures.revising active r) in
    c.take_out_from.ensures.revising active (subst (λ (z : Filtering). IsRevising z active owner) (sym c.last_supported-last.ensures.same) revising)

pub returns-clause-supported : goal.returns-clause-supported
returns-clause-supported g c =
    let r = c.requires.revising in
    let owner = active_of g.F.Filter.meaning c.args.constraint.now in
    let f = c.args.filtering.now in
    let now = c.rise.new.filtering in
    let w = subst (λ n. Advanced r.0 owner c.args.var n f now) c.in-Some.is (c.in_ok-first.ensures.advanced r.0 r.1) in
    let low = subst (λ n. IfSome n (IsSupported (present_of now.store) owner.con c.args.var)) c.in-Some.is c.in_ok-first.ensures.supported in
    let last = c.last_supported-last.ensures in
    let is_next = next_value c.placed_after-above.result (present_values c.last_supported-last.new.filtering.store c.args.var) (c.last_supported-last.result +ℤ pos 1) c.placed_after-above.ensures.next in
    let on = ends_advanced r.0 owner c.args.var c.in-Some.first c.last_supported-last.result (placed_value c.placed_after-above.result) f now c.last_supported-last.new.filtering w last.same last.above low last.supported
    c.requires.convex is_next in
    on_ok c.take_out_from.result (λ end. values_supported r.0 owner c.args.var f c.take_out_from.new.filtering end) (c.take_out_from.ensures.advanced r.0 f on)

pub returns-clause-counted : goal.returns-clause-counted
returns-clause-counted g c =
    let r = c.requires.revising in
    let owner = active_of g.F.Filter.meaning c.args.constraint.now in
    let f = c.args.filtering.now in
    let now = c.rise.new.filtering in
    let w = subst (λ n. Advanced r.0 owner c.args.var n f now) c.in-Some.is (c.in_ok-first.ensures.advanced r.0 r.1) in
    let low = subst (λ n. IfSome n (λ v. HasCounted (length (values_below (v +ℤ pos 1) (values_of (initial_of f.store) c.args.var))) f now c.args.steps.now c.rise.new.steps)) c.in-Some.is c.in_ok-first.ensures.first in
    let asked = subst (λ (n : Option ℤ). IfSome n (λ v. c.args.steps.now + asks_of owner ≤ c.rise.new.steps)) c.in-Some.is c.in_ok-first.ensures.asked in
    let high = subst (λ n. IfSome n (IsSupported (present_of now.store) owner.con c.args.var)) c.in-Some.is c.in_ok-first.ensures.supported in
    let last = c.last_supported-last.ensures in
    let is_next = next_value c.placed_after-above.result (present_values c.last_supported-last.new.filtering.store c.args.var) (c.last_supported-last.result +ℤ pos 1) c.placed_after-above.ensures.next in
    let after = c.last_supported-last.new.filtering in
    let end = c.take_out_from.new.filtering in
    let on = ends_advanced r.0 owner c.args.var c.in-Some.first c.last_supported-last.result (placed_value c.placed_after-above.result) f now after w last.same last.above high last.supported
    c.requires.convex is_next in
    let pairs = pairs_of c.args.var (values_of (initial_of f.store) c.args.var) in
    let quiet = later_quiet owner f after end (walked_quiet r.0 owner (pairs_of c.args.var (values_before (placed_value c.placed_after-above.result) (values_of (initial_of f.store) c.args.var))) f after on.walked)
    (on_either c.take_out_from.result (λ done. walked_quiet r.0 owner pairs f end done.walked) (part_quiet r.0 owner pairs f end) (c.take_out_from.ensures.advanced r.0 f on) (c.take_out_from.ensures.part r.0 f on)) in
    ends_counted r.0 owner c.args.var c.in-Some.first f now c.last_supported-last.new.filtering c.take_out_from.new.filtering c.args.steps.now c.rise.new.steps c.last_supported-last.new.steps w
    low c.last_supported-last.ensures.counted c.take_out_from.ensures.checks asked quiet
