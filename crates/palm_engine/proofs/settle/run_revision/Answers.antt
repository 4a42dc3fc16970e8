use Rattle.std.proofs.Common.{◌≡◌, List, Some, slice_get, sym, ap, subst, ◌∙◌}
use Rattle.palm_domain.specs.Rows.{initial_of}
use Rattle.palm_model.specs.Log.{Active}
use Rattle.palm_engine.specs.Posted.{active_of, actives_of}
use Rattle.palm_agenda.specs.declared.taken.Taken.{Taken}
use Rattle.palm_agenda.specs.Agenda.{IsStanding}
use Rattle.palm_engine.specs.declared.filtering.Filtering.{Filtering}
use Rattle.palm_engine.specs.Revising.{IsRevising, IsTaken}
use Rattle.palm_engine.specs.Settling.{walk_order}
use Rattle.palm_engine.proofs.Settles.{walked_revised, woken_kept, part_revised, get_mapped, mapped_within, revision_counted, counted_agenda, err_of, ok_of, log_grows, log_counts, taken_as}
use Rattle.palm_engine.proofs.Scopes.{active_standing, standing_stays}
use Rattle.palm_engine.proofs.settle.run_revision.Goals as goal

-- the constraint that was taken, among the posted ones
found : (f : Filtering) (active : List Active) (t : Taken) (taken : IsTaken f active t.cid) → IsStanding f.agenda.connected t → slice_get active t.at ≡ Some taken.owner
found f active t taken standing =
    active_standing active f.agenda.connected taken.revising.valid.rising taken.revising.kept.connected taken.owner taken.revising.posted t taken.named standing

pub at-constraint-requires : goal.at-constraint-requires
at-constraint-requires g c =
    let taken = c.requires.taken in
    mapped_within (active_of g.F.Filter.meaning) c.args.posted.now.items c.args.taken.now.at taken.owner (found c.args.filtering.now (actives_of g.F.Filter.meaning c.args.posted.now.items) c.args.taken.now taken c.requires.standing)

pub revise-requires-clause-revising : goal.revise-requires-clause-revising
revise-requires-clause-revising g c =
    let taken = c.requires.taken in
    let same = get_mapped (active_of g.F.Filter.meaning) c.args.posted.now.items c.args.taken.now.at c.at-constraint.result.now c.at-constraint.result.now taken.owner (found c.args.filtering.now (actives_of g.F.Filter.meaning c.args.posted.now.items) c.args.taken.now taken c.requires.standing) c.at-constraint.ensures in
    (actives_of g.F.Filter.meaning c.args.posted.now.items, subst (λ (a : Active). IsRevising c.args.filtering.now (actives_of g.F.Filter.meaning c.args.posted.now.items) a) same taken.revising)

pub revise-requires-clause-named : goal.revise-requires-clause-named
revise-requires-clause-named g c =
    let same = get_mapped (active_of g.F.Filter.meaning) c.args.posted.now.items c.args.taken.now.at c.at-constraint.result.now c.at-constraint.result.now c.requires.taken.owner (found c.args.filtering.now (actives_of g.F.Filter.meaning c.args.posted.now.items) c.args.taken.now c.requires.taken c.requires.standing) c.at-constraint.ensures in
    ap (λ (a : Active). a.cid) (sym same) ∙ c.requires.taken.named

pub wake_taken-requires : goal.wake_taken-requires
wake_taken-requires g c =
    let active = actives_of g.F.Filter.meaning c.args.posted.now.items in
    let same = get_mapped (active_of g.F.Filter.meaning) c.args.posted.now.items c.args.taken.now.at c.at-constraint.result.now c.at-constraint.result.now c.requires.taken.owner (found c.args.filtering.now (actives_of g.F.Filter.meaning c.args.posted.now.items) c.args.taken.now c.requires.taken c.requires.standing) c.at-constraint.ensures in
    let taken = taken_as c.args.filtering.now active c.args.taken.now.cid c.requires.taken (active_of g.F.Filter.meaning c.at-constraint.result.now) same in
    standing_stays active c.args.filtering.now.agenda.connected c.revise.new.filtering.agenda.connected c.requires.taken.revising.kept.connected (c.revise.ensures.revising active taken.revising).kept.connected c.args.taken.now c.requires.standing

pub returns-then-is_err-clause-err : goal.returns-then-is_err-clause-err
returns-then-is_err-clause-err g c =
    let active = actives_of g.F.Filter.meaning c.args.posted.now.items in
    let m = c.revise.new.filtering in
    let same = get_mapped (active_of g.F.Filter.meaning) c.args.posted.now.items c.args.taken.now.at c.at-constraint.result.now c.at-constraint.result.now c.requires.taken.owner (found c.args.filtering.now (actives_of g.F.Filter.meaning c.args.posted.now.items) c.args.taken.now c.requires.taken c.requires.standing) c.at-constraint.ensures in
    let taken = taken_as c.args.filtering.now active c.args.taken.now.cid c.requires.taken (active_of g.F.Filter.meaning c.at-constraint.result.now) same in
    let r = c.revise.ensures.revising active taken.revising in
    part_revised c.args.filtering.now m c.wake_taken.new.self active c.args.taken.now.cid taken r (err_of c.revise.result (sym c.is_err.ensures.value ∙ c.if-is_err.true) (c.revise.ensures.part active taken.revising))
    (woken_kept m c.wake_taken.new.self active r.kept c.wake_taken.ensures.connected c.wake_taken.ensures.formed) c.wake_taken.ensures.pending

pub returns-then-is_err-clause-kept : goal.returns-then-is_err-clause-kept
returns-then-is_err-clause-kept g c =
    let active = actives_of g.F.Filter.meaning c.args.posted.now.items in
    let m = c.revise.new.filtering in
    let same = get_mapped (active_of g.F.Filter.meaning) c.args.posted.now.items c.args.taken.now.at c.at-constraint.result.now c.at-constraint.result.now c.requires.taken.owner (found c.args.filtering.now (actives_of g.F.Filter.meaning c.args.posted.now.items) c.args.taken.now c.requires.taken c.requires.standing) c.at-constraint.ensures in
    let taken = taken_as c.args.filtering.now active c.args.taken.now.cid c.requires.taken (active_of g.F.Filter.meaning c.at-constraint.result.now) same in
    woken_kept m c.wake_taken.new.self active (c.revise.ensures.revising active taken.revising).kept c.wake_taken.ensures.connected c.wake_taken.ensures.formed

pub returns-then-is_err-clause-counted : goal.returns-then-is_err-clause-counted
returns-then-is_err-clause-counted g c =
    let active = actives_of g.F.Filter.meaning c.args.posted.now.items in
    let m = c.revise.new.filtering in
    let same = get_mapped (active_of g.F.Filter.meaning) c.args.posted.now.items c.args.taken.now.at c.at-constraint.result.now c.at-constraint.result.now c.requires.taken.owner (found c.args.filtering.now (actives_of g.F.Filter.meaning c.args.posted.now.items) c.args.taken.now c.requires.taken c.requires.standing) c.at-constraint.ensures in
    let taken = taken_as c.args.filtering.now active c.args.taken.now.cid c.requires.taken (active_of g.F.Filter.meaning c.at-constraint.result.now) same in
    counted_agenda _ c.args.filtering.now m c.wake_taken.new.self c.args.steps.now c.revise.new.steps
    (revision_counted c.args.filtering.now m active c.args.taken.now.cid taken c.args.steps.now c.revise.new.steps c.revise.ensures.counted)

pub overflow_sub-result : goal.overflow_sub-result
overflow_sub-result g c =
    let active = actives_of g.F.Filter.meaning c.args.posted.now.items in
    let m = c.revise.new.filtering in
    let same = get_mapped (active_of g.F.Filter.meaning) c.args.posted.now.items c.args.taken.now.at c.at-constraint.result.now c.at-constraint.result.now c.requires.taken.owner (found c.args.filtering.now (actives_of g.F.Filter.meaning c.args.posted.now.items) c.args.taken.now c.requires.taken c.requires.standing) c.at-constraint.ensures in
    let taken = taken_as c.args.filtering.now active c.args.taken.now.cid c.requires.taken (active_of g.F.Filter.meaning c.at-constraint.result.now) same in
    let w = ok_of c.revise.result (sym c.is_err.ensures.value ∙ c.if-is_err.false) (c.revise.ensures.walked active taken.revising) in
    log_grows c.args.filtering.now m active (active_of g.F.Filter.meaning c.at-constraint.result.now) (walk_order (initial_of c.args.filtering.now.store) (active_of g.F.Filter.meaning c.at-constraint.result.now).con)
    c.removals-before.result c.removals.result w c.removals-before.ensures.count c.removals.ensures.count

pub returns-clause-ok : goal.returns-clause-ok
returns-clause-ok g c =
    let active = actives_of g.F.Filter.meaning c.args.posted.now.items in
    let m = c.revise.new.filtering in
    let same = get_mapped (active_of g.F.Filter.meaning) c.args.posted.now.items c.args.taken.now.at c.at-constraint.result.now c.at-constraint.result.now c.requires.taken.owner (found c.args.filtering.now (actives_of g.F.Filter.meaning c.args.posted.now.items) c.args.taken.now c.requires.taken c.requires.standing) c.at-constraint.ensures in
    let taken = taken_as c.args.filtering.now active c.args.taken.now.cid c.requires.taken (active_of g.F.Filter.meaning c.at-constraint.result.now) same in
    let w = ok_of c.revise.result (sym c.is_err.ensures.value ∙ c.if-is_err.false) (c.revise.ensures.walked active taken.revising) in
    let count = log_counts c.args.filtering.now m active (active_of g.F.Filter.meaning c.at-constraint.result.now) (walk_order (initial_of c.args.filtering.now.store) (active_of g.F.Filter.meaning c.at-constraint.result.now).con)
    c.removals-before.result c.removals.result w c.removals-before.ensures.count c.removals.ensures.count in
    walked_revised c.args.filtering.now m active c.args.taken.now.cid taken _ (c.revise.ensures.revising active taken.revising) w count

pub returns-clause-kept : goal.returns-clause-kept
returns-clause-kept g c =
    let active = actives_of g.F.Filter.meaning c.args.posted.now.items in
    let same = get_mapped (active_of g.F.Filter.meaning) c.args.posted.now.items c.args.taken.now.at c.at-constraint.result.now c.at-constraint.result.now c.requires.taken.owner (found c.args.filtering.now (actives_of g.F.Filter.meaning c.args.posted.now.items) c.args.taken.now c.requires.taken c.requires.standing) c.at-constraint.ensures in
    let taken = taken_as c.args.filtering.now active c.args.taken.now.cid c.requires.taken (active_of g.F.Filter.meaning c.at-constraint.result.now) same in
    (c.revise.ensures.revising active taken.revising).kept

pub returns-clause-counted : goal.returns-clause-counted
returns-clause-counted g c =
    let active = actives_of g.F.Filter.meaning c.args.posted.now.items in
    let m = c.revise.new.filtering in
    let same = get_mapped (active_of g.F.Filter.meaning) c.args.posted.now.items c.args.taken.now.at c.at-constraint.result.now c.at-constraint.result.now c.requires.taken.owner (found c.args.filtering.now (actives_of g.F.Filter.meaning c.args.posted.now.items) c.args.taken.now c.requires.taken c.requires.standing) c.at-constraint.ensures in
    let taken = taken_as c.args.filtering.now active c.args.taken.now.cid c.requires.taken (active_of g.F.Filter.meaning c.at-constraint.result.now) same in
    revision_counted c.args.filtering.now m active c.args.taken.now.cid taken c.args.steps.now c.revise.new.steps c.revise.ensures.counted
