use Rattle.std.proofs.Common.{◌∙◌, ℤ, pos, ◌+ℤ◌, ◌≤ℤ◌, ◌∷◌, Contains, Some, inl, inr, refl, sym, subst, arith}
use Rattle.std.proofs.lemmas.Int.{ints}
use Rattle.palm_base.specs.Ascending.{Ascends}
use Rattle.palm_base.specs.declared.terms.Pair.{Pair}
use Rattle.palm_base.proofs.cited.Members.{member_cases}
use Rattle.palm_domain.specs.Rows.{present_values}
use Rattle.palm_explain.specs.Explanations.{Explanations, IsRunOf}
use Rattle.palm_engine.specs.Advancing.{IsBefore, TakenFrom, placed_value}
use Rattle.palm_engine.specs.Changed.{HasLostEach}
use Rattle.palm_engine.specs.Posted.{active_of}
use Rattle.palm_engine.proofs.Convex.{taken_more, taken_start}
use Rattle.palm_engine.proofs.InTurn.{next_later, turn_above, turn_ascends, turn_later}
use Rattle.palm_engine.proofs.LosingEach.{lost_initial}
use Rattle.palm_engine.proofs.PlacedWalks.{next_value, placed_next}
use Rattle.palm_engine.proofs.Progress.{taken_revising, taken_walked, values_filled}
use Rattle.palm_engine.proofs.Revised.{owner_filled, stated}
use Rattle.palm_engine.proofs.RunWalks.{gathered_known, run_taken}
use Rattle.palm_engine.proofs.runs.take_out_some.Goals as goal

pub tells_spans-requires-clause-goes : goal.tells_spans-requires-clause-goes
tells_spans-requires-clause-goes g c =
    let owner = active_of g.F.Filter.meaning c.args.constraint.now in
    let f = c.args.filtering.now in
    let some = c.requires.advanced in
    record {
      present = some.2.present;
      unsupported = c.requires.lacking c.args.first.value some.2.present (omega (arith, ints)) c.requires.before;
      filled = owner_filled f some.0 owner some.2.revising (values_filled some.0 owner c.args.var c.args.first.value some.1 f some.2);
    }

pub returns-then-not-branch-clause-taken : goal.returns-then-not-branch-clause-taken
returns-then-not-branch-clause-taken g c =
    let owner = active_of g.F.Filter.meaning c.args.constraint.now in
    let f = c.args.filtering.now in
    let x = c.args.var in
    let v = c.args.first.value in
    let p : Pair = record { var = x; value = v } in
    let some = c.requires.advanced in
    let after = c.take_out_listed.new.filtering in
    let filled = values_filled some.0 owner x v some.1 f some.2 in
    let lacks = c.requires.lacking v some.2.present (omega (arith, ints)) c.requires.before in
    let takes = c.in_ok-take_out_listed.ensures.taken in
    taken_more owner x v c.args.until.now (Some v) (placed_value c.next_placed.result) f f after (taken_start owner x c.args.until.now (Some v) f c.requires.lacking)
    (λ a q. taken_walked a owner p f after owner.cid (stated f owner p) q filled some.2.present lacks c.requires.over refl refl takes)
    (λ a q. taken_revising a owner p f after owner.cid (stated f owner p) q filled some.2.present lacks c.requires.over refl refl takes)
    takes.loses takes.checks (next_value c.next_placed.result (present_values after.store x) (v +ℤ pos 1) c.next_placed.ensures.next) some

pub remove_run-requires-clause-ascend : goal.remove_run-requires-clause-ascend
remove_run-requires-clause-ascend g c =
    let here = present_values c.args.filtering.now.store c.args.var in
    let v = c.args.first.value in
    let told = c.in_ok-next.ensures.gathered in
    subst (λ vs. Ascends vs) (sym (c.as_slice.ensures.value ∙ told.values)) (turn_ascends here v told.rest (placed_value c.in_ok-next.next) told.turn)

pub remove_run-requires-clause-present : goal.remove_run-requires-clause-present
remove_run-requires-clause-present g c = λ w m.
    let here = present_values c.args.filtering.now.store c.args.var in
    let v = c.args.first.value in
    let told = c.in_ok-next.ensures.gathered in
    let some = c.requires.advanced in
    elim (member_cases v told.rest w (subst (λ vs. Contains vs w) (c.as_slice.ensures.value ∙ told.values) m)) [
      | inl e ↦ subst (Contains here) e some.2.present
      | inr k ↦ (turn_above here v told.rest (placed_value c.in_ok-next.next) told.turn w k).1
    ]

pub remove_run-requires-clause-fits : goal.remove_run-requires-clause-fits
remove_run-requires-clause-fits g c = λ s w m n.
    let owner = active_of g.F.Filter.meaning c.args.constraint.now in
    let here = present_values c.args.filtering.now.store c.args.var in
    let v = c.args.first.value in
    let told = c.in_ok-next.ensures.gathered in
    let room = c.tells_spans.new.room in
    let known = gathered_known c.args.filtering.now.store owner.con c.args.var v here (placed_value c.in_ok-next.next) c.args.until.now room c.gather.new.room (c.in_ok-tells_spans.ensures.told c.if-not-branch.false) c.in_ok-tells_spans.ensures.knows c.in_ok-next.ensures.known told in
    let upto = known.upto w (subst (λ vs. Contains vs w) (c.as_slice.ensures.value ∙ told.values) n) in
    known.known.fits w upto.0 upto.1 s (subst (λ ss. Contains ss s) (c.as_slice-2.ensures.value ∙ c.in_ok-next.ensures.spans) m)

pub returns-clause-taken : goal.returns-clause-taken
returns-clause-taken g c =
    let owner = active_of g.F.Filter.meaning c.args.constraint.now in
    let f = c.args.filtering.now in
    let x = c.args.var in
    let v = c.args.first.value in
    let here = present_values f.store x in
    let next = placed_value c.in_ok-next.next in
    let until = c.args.until.now in
    let some = c.requires.advanced in
    let told = c.in_ok-next.ensures.gathered in
    let room = c.tells_spans.new.room in
    let spans = room.spans.items in
    let new = c.remove_run.new.self in
    let values = c.as_slice.ensures.value ∙ told.values in
    let known = gathered_known f.store owner.con x v here next until room c.gather.new.room (c.in_ok-tells_spans.ensures.told c.if-not-branch.false) c.in_ok-tells_spans.ensures.knows c.in_ok-next.ensures.known told in
    let each : (w : ℤ) → Contains (v ∷ told.rest) w → (w ≤ℤ known.last) × IsBefore until w = λ w m. ((known.upto w m).1, elim (member_cases v told.rest w m) [ inl e ↦ subst (IsBefore until) e c.requires.before | inr k ↦ told.before w k ]) in
    let lost = subst (λ vs. HasLostEach (record f { log = new.log }) x vs new) values c.in_ok-remove_run.ensures.lost in
    let run = run_taken owner x c.requires.over spans until (Some v) next f some.0 some.1 known.last new.log f v told.rest new some.2 (taken_start owner x until (Some v) f c.requires.lacking) known.known each told.turn lost in
    let is = subst (λ d. IsRunOf x d c.as_slice-2.result.now f.log.log c.as_slice.result.now run.run) (sym c.cid.ensures)
    (subst (λ ss. IsRunOf x owner.cid ss f.log.log c.as_slice.result.now run.run) (sym (c.as_slice-2.ensures.value ∙ c.in_ok-next.ensures.spans)) (subst (λ vs. IsRunOf x owner.cid spans f.log.log vs run.run) (sym values) run.is)) in
    let logged = c.in_ok-remove_run.ensures.logged run.run is in
    subst (λ (l : Explanations). TakenFrom owner x until (Some v) next f (record new { log = l })) (sym logged) run.taken

pub returns-clause-placed : goal.returns-clause-placed
returns-clause-placed g c =
    let f = c.args.filtering.now in
    let new = c.remove_run.new.self in
    let same = lost_initial (record f { log = new.log }) c.args.var c.as_slice.result.now new c.in_ok-remove_run.ensures.lost in
    placed_next f.store new.store c.args.var c.in_ok-next.next same c.in_ok-next.ensures.placed

pub returns-then-not-branch-clause-later : goal.returns-then-not-branch-clause-later
returns-then-not-branch-clause-later g c =
    let after = c.take_out_listed.new.filtering in
    let here = present_values after.store c.args.var in
    next_later here c.args.first.value (placed_value c.next_placed.result) (next_value c.next_placed.result here (c.args.first.value +ℤ pos 1) c.next_placed.ensures.next)

pub returns-clause-later : goal.returns-clause-later
returns-clause-later g c =
    let told = c.in_ok-next.ensures.gathered in
    turn_later (present_values c.args.filtering.now.store c.args.var) c.args.first.value told.rest (placed_value c.in_ok-next.next) told.turn
