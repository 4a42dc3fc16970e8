use Rattle.std.proofs.Common.{ℕ, ◌≤◌, List, length, sym, subst, ◌∙◌, arith}
use Rattle.palm_domain.specs.Rows.{present_of}
use Rattle.palm_model.specs.Constraint.{scope}
use Rattle.palm_engine.specs.Kept.{IsEmptyKept}
use Rattle.palm_engine.specs.Posted.{active_of}
use Rattle.palm_engine.proofs.Progress.{on_err_of}
use Rattle.palm_engine.proofs.Places.{places_start, places_more, places_done, places_emptied, places_stopped, places_counted, places_part_counted, kept_empty, place_at}
use Rattle.palm_engine.proofs.Settles.{none_of}
use Rattle.palm_engine.proofs.Scopes.{standing_stays}
use Rattle.palm_engine.proofs.revise.revise.Goals as goal

pub loop-place-init : goal.loop-place-init
loop-place-init g c = λ active r. places_start active (active_of g.F.Filter.meaning c.args.constraint.now) c.args.filtering.now c.args.steps.now r

pub returns-then-is_some-clause-walked : goal.returns-then-is_some-clause-walked
returns-then-is_some-clause-walked g c = λ active r.
    let w = c.loop-place.invariant active r in
    let now = c.loop-place.filtering in
    places_emptied active (active_of g.F.Filter.meaning c.args.constraint.now) c.loop-place.place c.args.filtering.now now c.args.steps.now c.loop-place.steps
    (kept_empty (present_of now.store) now.empty (sym c.is_some.ensures ∙ c.if-is_some.true) w.revising.kept.empty) w

pub returns-then-is_some-clause-revising : goal.returns-then-is_some-clause-revising
returns-then-is_some-clause-revising g c = λ active r. (c.loop-place.invariant active r).revising

pub returns-then-is_some-clause-counted : goal.returns-then-is_some-clause-counted
returns-then-is_some-clause-counted g c =
    let r = c.requires.revising in
    places_counted r.0 (active_of g.F.Filter.meaning c.args.constraint.now) c.loop-place.place c.args.filtering.now c.loop-place.filtering c.args.steps.now c.loop-place.steps (c.loop-place.invariant r.0 r.1)

pub revise_place-requires-clause-at : goal.revise_place-requires-clause-at
revise_place-requires-clause-at g c =
    place_at c.scope-scope.result.now (scope (active_of g.F.Filter.meaning c.args.constraint.now).con) c.scope-scope.result.now c.loop-place.place c.index-scope-place.result
    c.scope-scope.ensures.scope c.scope-scope.ensures.scope c.loop-place-test.true c.index-scope-place.is

pub revise_place-requires-clause-revising : goal.revise_place-requires-clause-revising
revise_place-requires-clause-revising g c = let r = c.requires.revising in (r.0, (c.loop-place.invariant r.0 r.1).revising)

pub revise_place-requires-clause-standing : goal.revise_place-requires-clause-standing
revise_place-requires-clause-standing g c =
    let r = c.requires.revising in
    standing_stays r.0 c.args.filtering.now.agenda.connected c.loop-place.filtering.agenda.connected r.1.kept.connected (c.loop-place.invariant r.0 r.1).revising.kept.connected c.args.taken.now c.requires.standing

pub revise_place-requires-clause-filled : goal.revise_place-requires-clause-filled
revise_place-requires-clause-filled g c =
    let r = c.requires.revising in
    let w = c.loop-place.invariant r.0 r.1 in
    let now = c.loop-place.filtering in
    let kept = w.revising.kept in
    subst (IsEmptyKept (present_of now.store)) (none_of now.empty (sym c.is_some.ensures ∙ c.if-is_some.false)) kept.empty

pub returns-in_err-revise_place-clause-part : goal.returns-in_err-revise_place-clause-part
returns-in_err-revise_place-clause-part g c = λ active r.
    let owner = active_of g.F.Filter.meaning c.args.constraint.now in
    let w = c.loop-place.invariant active r in
    let at = place_at c.scope-scope.result.now (scope owner.con) c.scope-scope.result.now c.loop-place.place c.index-scope-place.result c.scope-scope.ensures.scope c.scope-scope.ensures.scope c.loop-place-test.true c.index-scope-place.is in
    on_err_of c.from_residual.result (places_stopped active owner c.loop-place.place c.index-scope-place.result c.args.filtering.now c.loop-place.filtering c.revise_place.new.filtering c.args.steps.now c.loop-place.steps
    at w (c.in_err-revise_place.ensures.part active w.revising))

pub returns-in_err-revise_place-clause-revising : goal.returns-in_err-revise_place-clause-revising
returns-in_err-revise_place-clause-revising g c = λ active r. c.revise_place.ensures.revising active (c.loop-place.invariant active r).revising

pub returns-in_err-revise_place-clause-counted : goal.returns-in_err-revise_place-clause-counted
returns-in_err-revise_place-clause-counted g c =
    let owner = active_of g.F.Filter.meaning c.args.constraint.now in
    let r = c.requires.revising in
    let at = place_at c.scope-scope.result.now (scope owner.con) c.scope-scope.result.now c.loop-place.place c.index-scope-place.result c.scope-scope.ensures.scope c.scope-scope.ensures.scope c.loop-place-test.true c.index-scope-place.is in
    places_part_counted r.0 owner c.loop-place.place c.index-scope-place.result c.args.filtering.now c.loop-place.filtering c.revise_place.new.filtering c.args.steps.now c.loop-place.steps c.revise_place.new.steps
    at (c.loop-place.invariant r.0 r.1) c.revise_place.ensures.counted

pub loop-place-preserved : goal.loop-place-preserved
loop-place-preserved g c = λ active r.
    let owner = active_of g.F.Filter.meaning c.args.constraint.now in
    let w = c.loop-place.invariant active r in
    let told = c.in_ok-revise_place.ensures in
    let at = place_at c.scope-scope.result.now (scope owner.con) c.scope-scope.result.now c.loop-place.place c.index-scope-place.result c.scope-scope.ensures.scope c.scope-scope.ensures.scope c.loop-place-test.true c.index-scope-place.is in
    places_more active owner c.loop-place.place c.index-scope-place.result c.args.filtering.now c.loop-place.filtering c.revise_place.new.filtering c.args.steps.now c.loop-place.steps c.revise_place.new.steps
    at w (told.walked active w.revising) (told.revising active w.revising) told.counted

pub returns-clause-walked : goal.returns-clause-walked
returns-clause-walked g c = λ active r.
    let owner = active_of g.F.Filter.meaning c.args.constraint.now in
    places_done active owner c.loop-place.place c.args.filtering.now c.loop-place.filtering c.args.steps.now c.loop-place.steps
    (subst (λ (l : List ℕ). length l ≤ c.loop-place.place) c.scope-scope.ensures.scope (omega (arith, c.loop-place-test.false))) (c.loop-place.invariant active r)

pub returns-clause-counted : goal.returns-clause-counted
returns-clause-counted g c =
    let r = c.requires.revising in
    places_counted r.0 (active_of g.F.Filter.meaning c.args.constraint.now) c.loop-place.place c.args.filtering.now c.loop-place.filtering c.args.steps.now c.loop-place.steps (c.loop-place.invariant r.0 r.1)

pub returns-clause-revising : goal.returns-clause-revising
returns-clause-revising g c = λ active r. (c.loop-place.invariant active r).revising
