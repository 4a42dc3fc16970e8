use Rattle.std.proofs.Common.{◌+◌, ◌<◌, ◌≤◌, length, Contains, sym, ap, ◌∙◌, subst, arith}
use Rattle.std.proofs.lemmas.Option.{get_or_from_slice_get}
use Rattle.palm_base.proofs.cited.Members.{member_get}
use Rattle.palm_model.specs.Constraint.{Distinct}
use Rattle.palm_model.specs.Event.{vars_of}
use Rattle.palm_model.specs.State.{EngineState}
use Rattle.palm_model.proofs.cited.Narrowing.{has_declared}
use Rattle.palm_search.specs.Calls.{search_state}
use Rattle.palm_search.specs.Kept.{HasDecisions}
use Rattle.palm_search.proofs.cited.Results.{on_err}
use Rattle.palm_repair.specs.Learned.{Forces, LearnedView, ShowsDecisions, left_open, repair_state}
use Rattle.palm_repair.specs.Posting.{PostsSome}
use Rattle.palm_repair.proofs.Learning.{IsPosting, forced_has, listed_forced, none_forced, posting_cut, posting_ends, posting_kept, posting_more, posting_starts, posting_stops, posts_none, rows_length}
use Rattle.palm_repair.proofs.learned.Learned.post.Goals as goal
use Rattle.palm_repair.proofs.learned.Learned.post.Goals.{in-Some+in_ok-note, in_default}

pub decided_values-requires-clause-within : goal.decided_values-requires-clause-within
decided_values-requires-clause-within g c = λ p m.
    let has = c.requires.repairing.searching.declared.decided p (subst (λ l. Contains l p) c.decisions.ensures m) in
    let lt = has_declared c.args.engine.now.state.initial p.var p.value has in
    let count = c.variables.ensures.count in
    let rows = rows_length c.store.result.now c.args.engine.now.state.initial c.store.ensures.initial in
    omega (arith, lt, count, rows)

pub decided_values-requires-clause-distinct : goal.decided_values-requires-clause-distinct
decided_values-requires-clause-distinct g c = subst (λ l. Distinct (vars_of l)) (sym c.decisions.ensures) c.requires.repairing.searching.decisions.distinct

pub returns-in_err-values-clause-err : goal.returns-in_err-values-clause-err
returns-in_err-values-clause-err g c = on_err _ c.from_residual.result (posts_none (repair_state c.args.engine.now.state c.args.search.now.decisions c.args.self.now))

pub returns-in_err-values-clause-decisions : goal.returns-in_err-values-clause-decisions
returns-in_err-values-clause-decisions g c = c.requires.repairing.searching.decisions

pub loop-index-init : goal.loop-index-init
loop-index-init g c = posting_starts c.args.search.now.decisions c.args.engine.now c.args.self.now c.requires.repairing

pub nogood-requires : goal.nogood-requires
nogood-requires g c =
    let same = ap length c.loop-index.invariant.leaves.nogoods in
    let lt = c.loop-index-test.true in
    let end = c.listed-index-end.ensures in
    omega (arith, same, lt, end)

pub force-requires : goal.force-requires
force-requires g c = λ p one.
    let decisions = c.args.search.now.decisions in
    let values = c.deref.result.now in
    let nogood = c.nogood.result.now in
    let shows = subst (ShowsDecisions decisions) (sym c.deref.ensures.value) (subst (λ l. ShowsDecisions l c.in_ok-values.values.items) c.decisions.ensures c.in_ok-values.ensures) in
    listed_forced decisions c.loop-index.engine.state c.loop-index.self values nogood p c.loop-index.invariant.repairing shows
    (member_get c.loop-index.self.nogoods c.loop-index.index nogood c.nogood.ensures) one

pub returns-in_err-posted-clause-err : goal.returns-in_err-posted-clause-err
returns-in_err-posted-clause-err g c =
    let decisions = c.args.search.now.decisions in
    let start = c.args.engine.now in
    let stops = posting_stops decisions start c.args.self.now c.loop-index.index c.loop-index.engine c.loop-index.self c.loop-index.invariant in
    on_err _ c.from_residual-in_err-posted.result (subst (PostsSome (repair_state start.state decisions c.args.self.now)) (sym c.in_err-posted.ensures.err) stops)

pub returns-in_err-posted-clause-decisions : goal.returns-in_err-posted-clause-decisions
returns-in_err-posted-clause-decisions g c =
    subst (λ (z : EngineState). HasDecisions (search_state z c.args.search.now)) (sym c.in_err-posted.ensures.err) c.loop-index.invariant.repairing.searching.decisions

pub returns-in_err-note-clause-err : goal.returns-in_err-note-clause-err
returns-in_err-note-clause-err g c =
    let decisions = c.args.search.now.decisions in
    let first = c.args.self.now in
    let index = c.loop-index.index in
    let engine = c.loop-index.engine in
    let next = c.force.new.engine in
    let learned = c.loop-index.self in
    let values = c.deref.result.now in
    let nogood = c.nogood.result.now in
    let left = left_open values nogood in
    let shows = subst (ShowsDecisions decisions) (sym c.deref.ensures.value) (subst (λ l. ShowsDecisions l c.in_ok-values.values.items) c.decisions.ensures c.in_ok-values.ensures) in
    let test = c.loop-index-test.true in
    let end = c.listed-index-end.ensures in
    let lt : index < length first.nogoods = omega (arith, test, end) in
    let is = sym (get_or_from_slice_get learned.nogoods index nogood nogood c.nogood.ensures) in
    let forces = subst (Forces nogood left engine.state next.state) c.in-Some.is c.in_ok-posted.ensures.ok in
    on_err _ c.from_residual-in_err-note.result (posting_cut decisions c.args.engine.now first index engine next learned values nogood c.in-Some.pair lt is shows forces c.force.ensures.counts c.loop-index.invariant)

pub returns-in_err-note-clause-decisions : goal.returns-in_err-note-clause-decisions
returns-in_err-note-clause-decisions g c =
    let nogood = c.nogood.result.now in
    let left = left_open c.deref.result.now nogood in
    let m = c.loop-index.engine.state in
    let t = c.force.new.engine.state in
    forced_has m t c.args.search.now nogood left c.in-Some.pair (subst (Forces nogood left m t) c.in-Some.is c.in_ok-posted.ensures.ok) c.loop-index.invariant.repairing.searching.decisions

pub loop-index-preserved : goal.loop-index-preserved
loop-index-preserved g c =
    let decisions = c.args.search.now.decisions in
    let start = c.args.engine.now in
    let first = c.args.self.now in
    let index = c.loop-index.index in
    let engine = c.loop-index.engine in
    let next = c.force.new.engine in
    let learned = c.loop-index.self in
    let values = c.deref.result.now in
    let nogood = c.nogood.result.now in
    let left = left_open values nogood in
    let posting = c.loop-index.invariant in
    let shows = subst (ShowsDecisions decisions) (sym c.deref.ensures.value) (subst (λ l. ShowsDecisions l c.in_ok-values.values.items) c.decisions.ensures c.in_ok-values.ensures) in
    let test = c.loop-index-test.true in
    let end = c.listed-index-end.ensures in
    let lt : index < length first.nogoods = omega (arith, test, end) in
    let is = sym (get_or_from_slice_get learned.nogoods index nogood nogood c.nogood.ensures) in
    elim c.match-posted.branch [
      | in-Some+in_ok-note w ↦
          let dropped = ap (λ (v : LearnedView). v.dropped) w.note.view_is in
          posting_more decisions start first index engine next learned c.match-posted.self values nogood w.in-Some.pair (w.note.inside.dropped + index) lt is shows
          (subst (Forces nogood left engine.state next.state) w.in-Some.is c.in_ok-posted.ensures.ok) c.force.ensures.counts (ap (λ k. k + index) dropped) (w.self-is ∙ w.in_ok-note.ensures.ok) posting
      | in_default w ↦
          subst (IsPosting decisions start first (index + 1) next) (sym w.self-is)
          (posting_kept decisions start first index engine next learned values nogood lt is shows
          (none_forced nogood left engine.state next.state c.in_ok-posted.posted w.in_default.not-Some c.in_ok-posted.ensures.ok) c.force.ensures.counts posting)
    ]

pub returns-clause-ok : goal.returns-clause-ok
returns-clause-ok g c =
    let test = c.loop-index-test.false in
    let end = c.listed-index-end.ensures in
    let le : length c.args.self.now.nogoods ≤ c.loop-index.index = omega (arith, test, end) in
    posting_ends c.args.search.now.decisions c.args.engine.now c.args.self.now c.loop-index.index c.loop-index.engine c.loop-index.self le c.loop-index.invariant

pub returns-clause-decisions : goal.returns-clause-decisions
returns-clause-decisions g c = c.loop-index.invariant.repairing.searching.decisions
