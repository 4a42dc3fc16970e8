use Rattle.std.proofs.Common.{◌≡◌, ℕ, ◌+◌, ◌-◌, ◌≤◌, min, Bool, List, Option, Result, IfOk, OnErr, is_some, refl, sym, ap, ◌∙◌, subst, arith}
use Rattle.palm_base.specs.declared.errors.NoMemory.{NoMemory}
use Rattle.palm_base.specs.declared.limits.TheConstants.{LAST_COUNT}
use Rattle.palm_base.specs.declared.terms.Cid.{Cid}
use Rattle.palm_model.specs.State.{EngineState}
use Rattle.palm_engine.specs.declared.filtering.Filtering.{Filtering}
use Rattle.palm_engine.specs.Engine.{View, HasAsked}
use Rattle.palm_engine.specs.Following.{Hearing, IsInterruptedBy, OrderAnswers, OrderFollows}
use Rattle.palm_engine.specs.Kept.{state_of, state_in_revision}
use Rattle.palm_engine.specs.Posted.{actives_of}
use Rattle.palm_engine.specs.Revising.{HasPartlyRevised, HasRevised, TakesNext, TakesNone}
use Rattle.palm_engine.proofs.Passing.{hears_none, run_passed}
use Rattle.palm_engine.proofs.Progress.{on_err_of}
use Rattle.palm_engine.proofs.Running.{HasRunBy, HasTried, run_start, run_more, run_falls, run_settled, run_asked, run_stopped, taken_is, stopped_engine, stopped_asked, tried_checks}
use Rattle.palm_engine.proofs.engine.Engine.settle.Given as given
use Rattle.palm_engine.proofs.engine.Engine.settle.Goals as goal
use Rattle.palm_engine.proofs.engine.Engine.settle.Goals.{After-take_next, After-run_revision-removed, In_err-removed, In_ok-removed, In_default}

-- the state before, as it was seen
seen : (g : given.Over) (c : After-take_next g) → c.args.self.now.state ≡ state_of c.self.inside.filtering (actives_of g.F.Filter.meaning c.loop-taken.self-inside.posted.items)
seen g c =
    sym (ap (λ (v : View). v.state) c.self.view_is)
    ∙ ap (λ ys. state_of c.self.inside.filtering (actives_of g.F.Filter.meaning ys)) (sym (ap (λ p. p.items) c.loop-taken.invariant.same))

-- the order's own relations
abbrev answering : (g : given.Over) → List Cid → ℕ → Option g.row.O.Denot → Option g.row.O.Denot → Type 0
answering g = OrderAnswers g.O.Order.answers g.O.Order.state

abbrev following : (g : given.Over) → Hearing → Option g.row.O.Denot → Option g.row.O.Denot → Type 0
following g = OrderFollows g.O.Order.answers g.O.Order.hears g.O.Order.state

-- the constraint that was taken, and what the order was asked for it
abbrev taking : (g : given.Over) (c : After-run_revision-removed g)
    → (takes : TakesNext c.args.limit (is_some c.args.order.now) c.loop-taken.self-inside.revisions c.loop-taken.self-inside.filtering c.take_next.new.filtering c.in-Some.taken.cid)
    × answering g c.loop-taken.self-inside.filtering.agenda.pending takes.answer c.loop-taken.order c.take_next.new.order
taking g c =
    let now = c.loop-taken.self-inside.filtering in
    let after = c.take_next.new.filtering in
    subst (λ (o : Bool). (takes : TakesNext c.args.limit o c.loop-taken.self-inside.revisions now after c.in-Some.taken.cid) × answering g now.agenda.pending takes.answer c.loop-taken.order c.take_next.new.order)
    c.loop-taken.invariant.stays c.in-Some.ensures.some

-- after the call that revises the constraint that was taken
abbrev tried : (g : given.Over) (c : After-run_revision-removed g) → HasTried c.args.limit (is_some c.args.order.now) (actives_of g.F.Filter.meaning c.loop-taken.self-inside.posted.items) c.self.inside.filtering c.loop-taken.self-inside.filtering
    c.take_next.new.filtering c.run_revision-removed.new.filtering c.loop-taken.self-inside.revisions c.args.steps.now c.loop-taken.steps c.run_revision-removed.new.steps c.in-Some.taken.cid
tried g c =
    let meaning = g.F.Filter.meaning in
    let before = c.take_next.new.filtering in
    let after = c.run_revision-removed.new.filtering in
    let cid = c.in-Some.taken.cid in
    record {
      run = c.loop-taken.invariant.by.run;
      takes = (taking g c).0;
      kept = c.run_revision-removed.ensures.kept;
      counted = c.run_revision-removed.ensures.counted;
    }

pub loop-taken-init : goal.loop-taken-init
loop-taken-init g c = record {
  by = run_start (following g) c.args.limit (actives_of g.F.Filter.meaning c.self.inside.posted.items) c.self.inside.filtering c.args.steps.now c.args.order.now c.self.invariant;
  stays = refl;
  same = refl;
}

pub run_revision-removed-requires-clause-taken : goal.run_revision-removed-requires-clause-taken
run_revision-removed-requires-clause-taken g c =
    let meaning = g.F.Filter.meaning in
    let now = c.loop-taken.self-inside.filtering in
    let after = c.take_next.new.filtering in
    let takes = subst (λ (o : Bool). TakesNext c.args.limit o c.loop-taken.self-inside.revisions now after c.in-Some.taken.cid) c.loop-taken.invariant.stays c.in-Some.ensures.some.0 in
    (taken_is c.args.limit (is_some c.args.order.now) c.loop-taken.self-inside.revisions (actives_of meaning c.loop-taken.self-inside.posted.items) now after c.in-Some.taken.cid takes c.loop-taken.invariant.by.run.engine)

-- ---- where memory ran out

part : (g : given.Over) (c : In_err-removed g) → HasPartlyRevised (actives_of g.F.Filter.meaning c.loop-taken.self-inside.posted.items) c.in-Some.taken.cid
    (state_in_revision c.take_next.new.filtering (actives_of g.F.Filter.meaning c.loop-taken.self-inside.posted.items) c.in-Some.taken.cid) (state_of c.run_revision-removed.new.filtering (actives_of g.F.Filter.meaning c.loop-taken.self-inside.posted.items))
part g c =
    let active = actives_of g.F.Filter.meaning c.loop-taken.self-inside.posted.items in
    let cid = c.in-Some.taken.cid in
    subst (λ (r : Result ℕ NoMemory). OnErr r (HasPartlyRevised active cid (state_in_revision c.take_next.new.filtering active cid) (state_of c.run_revision-removed.new.filtering active))) c.in_err-removed.was c.run_revision-removed.ensures.err

pub invariant_of-self : goal.invariant_of-self
invariant_of-self g c =
    let at = goal.at.invariant_of-self g c in
    stopped_engine (tried g at.After-run_revision-removed) (part g at.In_err-removed)

pub returns-in_err-removed-clause-err : goal.returns-in_err-removed-clause-err
returns-in_err-removed-clause-err g c =
    let at = goal.at.returns-in_err-removed-clause-err g c in
    let after = c.run_revision-removed.new.filtering in
    let left = λ (n : ℕ). let v : View = record { state = state_of after (actives_of g.F.Filter.meaning c.loop-taken.self-inside.posted.items); revisions = n; checks = after.checks } in v in
    on_err_of c.from_residual.result
    (subst (λ (n : ℕ). IsInterruptedBy (answering g) (following g) c.args.limit c.args.order.now c.take_next.new.order c.args.self.now (left n)) (sym c.saturating_add-self-inside.ensures)
    (run_stopped c.loop-taken.order (tried g at.After-run_revision-removed) c.args.self.now (seen g at.After-take_next) (part g at.In_err-removed) c.loop-taken.invariant.by.followed (taking g at.After-run_revision-removed).1))

pub returns-in_err-removed-clause-asked : goal.returns-in_err-removed-clause-asked
returns-in_err-removed-clause-asked g c =
    let at = goal.at.returns-in_err-removed-clause-asked g c in
    let active = actives_of g.F.Filter.meaning c.loop-taken.self-inside.posted.items in
    subst (λ (s : EngineState). HasAsked s (state_of c.run_revision-removed.new.filtering active) c.args.steps.now c.run_revision-removed.new.steps) (sym (seen g at.After-take_next))
    (stopped_asked (tried g at.After-run_revision-removed) (part g at.In_err-removed))

pub returns-in_err-removed-clause-checks : goal.returns-in_err-removed-clause-checks
returns-in_err-removed-clause-checks g c =
    let le : c.self.inside.filtering.checks ≤ LAST_COUNT = omega arith in
    let is = ap (λ (v : View). v.checks) c.self.view_is in
    tried_checks (tried g (goal.at.returns-in_err-removed-clause-checks g c).After-run_revision-removed) le
    ∙ ap (λ (k : ℕ). min (k + (c.run_revision-removed.new.steps - c.args.steps.now)) LAST_COUNT) is

pub returns-in_err-removed-clause-valid : goal.returns-in_err-removed-clause-valid
returns-in_err-removed-clause-valid g c =
    let at = goal.at.returns-in_err-removed-clause-valid g c in
    (stopped_engine (tried g at.After-run_revision-removed) (part g at.In_err-removed)).valid

-- ---- where the revision ended

revised : (g : given.Over) (c : In_ok-removed g) → HasRevised (actives_of g.F.Filter.meaning c.loop-taken.self-inside.posted.items) c.in-Some.taken.cid
    (state_in_revision c.take_next.new.filtering (actives_of g.F.Filter.meaning c.loop-taken.self-inside.posted.items) c.in-Some.taken.cid) (state_of c.run_revision-removed.new.filtering (actives_of g.F.Filter.meaning c.loop-taken.self-inside.posted.items)) c.in_ok-removed.field-0
revised g c =
    let active = actives_of g.F.Filter.meaning c.loop-taken.self-inside.posted.items in
    let cid = c.in-Some.taken.cid in
    subst (λ (r : Result ℕ NoMemory). IfOk r (HasRevised active cid (state_in_revision c.take_next.new.filtering active cid) (state_of c.run_revision-removed.new.filtering active))) c.in_ok-removed.was c.run_revision-removed.ensures.ok

pub loop-taken-smaller : goal.loop-taken-smaller
loop-taken-smaller g c =
    let at = goal.at.loop-taken-smaller g c in
    let tells = tried g at.After-run_revision-removed in
    let ended = revised g at.In_ok-removed in
    let active = actives_of g.F.Filter.meaning c.loop-taken.self-inside.posted.items in
    let by = subst (λ (n : ℕ). HasRunBy (following g) c.args.limit active c.self.inside.filtering c.run_revision-removed.new.filtering n c.args.steps.now c.run_revision-removed.new.steps c.args.order.now c.tell.new.order)
    (sym c.saturating_add-self-inside.ensures)
    (run_more c.loop-taken.order tells c.in_ok-removed.field-0 ended c.loop-taken.invariant.by.followed (record { between = c.take_next.new.order; asked = (taking g at.After-run_revision-removed).1; told = c.tell.ensures.told })) in
    let falls = run_falls tells c.in_ok-removed.field-0 ended in
    let more = (run_passed c.pass_clear-self-inside.ensures (hears_none g.O.Order.answers g.O.Order.hears g.O.Order.state c.tell.new.order) by).effort in
    omega (arith, falls, more)

pub loop-taken-preserved : goal.loop-taken-preserved
loop-taken-preserved g c =
    let at = goal.at.loop-taken-preserved g c in
    let active = actives_of g.F.Filter.meaning c.loop-taken.self-inside.posted.items in
    let by = subst (λ (n : ℕ). HasRunBy (following g) c.args.limit active c.self.inside.filtering c.run_revision-removed.new.filtering n c.args.steps.now c.run_revision-removed.new.steps c.args.order.now c.tell.new.order)
    (sym c.saturating_add-self-inside.ensures)
    (run_more c.loop-taken.order (tried g at.After-run_revision-removed) c.in_ok-removed.field-0 (revised g at.In_ok-removed) c.loop-taken.invariant.by.followed
    (record { between = c.take_next.new.order; asked = (taking g at.After-run_revision-removed).1; told = c.tell.ensures.told })) in
    record {
      by = (run_passed c.pass_clear-self-inside.ensures (hears_none g.O.Order.answers g.O.Order.hears g.O.Order.state c.tell.new.order) by).by;
      stays = c.tell.ensures.stays ∙ c.take_next.ensures.stays ∙ c.loop-taken.invariant.stays;
      same = c.loop-taken.invariant.same;
    }

-- ---- where the settling ended

ended : (g : given.Over) (c : In_default g) → HasRunBy (following g) c.args.limit (actives_of g.F.Filter.meaning c.loop-taken.self-inside.posted.items) c.self.inside.filtering c.take_next.new.filtering
    c.loop-taken.self-inside.revisions c.args.steps.now c.loop-taken.steps c.args.order.now c.take_next.new.order
ended g c =
    let active = actives_of g.F.Filter.meaning c.loop-taken.self-inside.posted.items in
    let first = c.args.order.now in
    let count = c.loop-taken.self-inside.revisions in
    subst (λ (o : Option g.row.O.Denot). HasRunBy (following g) c.args.limit active c.self.inside.filtering c.take_next.new.filtering count c.args.steps.now c.loop-taken.steps first o) (sym c.in_default.ensures.none.2)
    (subst (λ (z : Filtering). HasRunBy (following g) c.args.limit active c.self.inside.filtering z count c.args.steps.now c.loop-taken.steps first c.loop-taken.order) (sym c.in_default.ensures.none.0) c.loop-taken.invariant.by)

pub returns-clause-ok : goal.returns-clause-ok
returns-clause-ok g c =
    let at = goal.at.returns-clause-ok g c in
    let active = actives_of g.F.Filter.meaning c.loop-taken.self-inside.posted.items in
    let count = c.loop-taken.self-inside.revisions in
    let run = ended g at.In_default in
    let none = subst (λ (z : Filtering). TakesNone c.args.limit count z) (sym c.in_default.ensures.none.0) c.in_default.ensures.none.1 in
    run_settled (following g) c.args.limit active c.self.inside.filtering c.take_next.new.filtering count c.args.steps.now c.loop-taken.steps c.args.order.now c.take_next.new.order c.outcome.result c.args.self.now
    (seen g at.After-take_next) run none (c.outcome.ensures active run.run.engine.kept)

pub returns-clause-asked : goal.returns-clause-asked
returns-clause-asked g c =
    let at = goal.at.returns-clause-asked g c in
    let active = actives_of g.F.Filter.meaning c.loop-taken.self-inside.posted.items in
    subst (λ (s : EngineState). HasAsked s (state_of c.take_next.new.filtering active) c.args.steps.now c.loop-taken.steps) (sym (seen g at.After-take_next))
    (run_asked c.args.limit (is_some c.args.order.now) active c.self.inside.filtering c.take_next.new.filtering c.loop-taken.self-inside.revisions c.args.steps.now c.loop-taken.steps c.loop-taken.invariant.by.run.engine.valid.rising (ended g at.In_default).run)

pub returns-clause-checks : goal.returns-clause-checks
returns-clause-checks g c =
    let le : c.self.inside.filtering.checks ≤ LAST_COUNT = omega arith in
    let is = ap (λ (v : View). v.checks) c.self.view_is in
    (ended g (goal.at.returns-clause-checks g c).In_default).run.asked.ticked.checks le ∙ ap (λ (k : ℕ). min (k + (c.loop-taken.steps - c.args.steps.now)) LAST_COUNT) is
