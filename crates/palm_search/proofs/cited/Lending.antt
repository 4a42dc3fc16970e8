-- A machine that is lent along a loop: what it holds, what its settlings asked, and what its turns left of the order.
use Rattle.std.proofs.Common.{◌≡◌, ℕ, ◌+◌, ◌-◌, ◌≤◌, Bool, None, Option, is_some, List, min, refl, sym, ap, ◌∙◌, subst}
use Rattle.palm_base.specs.declared.limits.TheConstants.{LAST_COUNT}
use Rattle.palm_base.specs.declared.terms.Cid.{Cid}
use Rattle.palm_model.specs.State.{IsValid}
use Rattle.palm_engine.specs.Engine.{IsInterrupted}
use Rattle.palm_engine.specs.Following.{Hearing, HasSettledBy, IsInterruptedBy}
use Rattle.palm_engine.specs.declared.settle.Settle.{Settle}
use Rattle.palm_search.specs.declared.machine.Machine.{Machine}
use Rattle.palm_search.specs.Following.{Moment}
use Rattle.palm_search.specs.Machine.{HasRunOn, HoldsSame, KeepsDecisions, KeepsOrder, RunsOn}
use Rattle.palm_search.proofs.cited.Following.{SettlesOn, settled_alike}
use Rattle.palm_search.proofs.cited.Running.{counts_then}
use Rattle.palm_search.proofs.cited.Taking.{HasTaken}

holds_then : {F G O L : Type 0} {a m n : Machine F G O L} → HoldsSame a m → HoldsSame m n → HoldsSame a n
holds_then first then = record {
  engine = then.engine ∙ first.engine;
  search = then.search ∙ first.search;
  guide = then.guide ∙ first.guide;
  order = then.order ∙ first.order;
  steps = then.steps ∙ first.steps;
}

-- behind what settles nothing
pub runs_turned : {F G O L : Type 0} {a m t : Machine F G O L} → RunsOn a m → KeepsOrder m t → RunsOn a t
runs_turned {a = a} {m = m} {t = t} so_far keeps = record {
  holds = holds_then so_far.holds keeps.holds;
  counts = record {
    later = subst (λ k. a.steps.now ≤ k) (sym keeps.steps) so_far.counts.later;
    checks = keeps.counts.checks ∙ subst (λ k. m.engine.now.checks ≡ min (a.engine.now.checks + (k - a.steps.now)) LAST_COUNT) (sym keeps.steps) so_far.counts.checks;
  };
  lent = record { guide = keeps.stays ∙ so_far.lent.guide; order = ap is_some keeps.order ∙ so_far.lent.order };
}

-- behind a settling
pub runs_settled : {F G O L : Type 0} {a m n : Machine F G O L} → RunsOn a m → RunsOn m n → RunsOn a n
runs_settled {a = a} {m = m} {n = n} so_far settled = record {
  holds = holds_then so_far.holds settled.holds;
  counts = counts_then a.engine.now m.engine.now m.engine.now n.engine.now a.steps.now m.steps.now n.steps.now so_far.counts refl settled.counts.later settled.counts.checks;
  lent = record { guide = settled.lent.guide ∙ so_far.lent.guide; order = settled.lent.order ∙ so_far.lent.order };
}

-- behind a turn and its settling
pub runs_then : {F G O L : Type 0} {a m t n : Machine F G O L} → RunsOn a m → KeepsOrder m t → RunsOn t n → RunsOn a n
runs_then so_far keeps settled = runs_settled (runs_turned so_far keeps) settled

-- ---- a turn

-- memory ran out in one
pub has_run_on : {F G O L : Type 0} {a m t : Machine F G O L} → IsValid a.engine.now.state → RunsOn a m → KeepsDecisions m t → HasRunOn a t
has_run_on valid so_far keeps = record { before = valid; on = runs_turned so_far keeps.quiet; decisions = keeps.decisions }

pub record HasTakenOn {F G O L : Type 0} (guiding : Moment → Option G → Option G → Type 0) (budget : ℕ) (m t : Machine F G O L) : Type 0 where
  pub taken : HasTaken guiding budget m.engine.now t.engine.now m.search.now t.search.now m.guide.now t.guide.now
  pub keeps : KeepsOrder m t

-- ---- the settling behind it

-- it led the order on from where it was before the turn
pub settled_on : {F G O L : Type 0} (ordering : Hearing → Option O → Option O → Type 0) (ordered : Bool) (answer : Settle) (m t n : Machine F G O L) → is_some m.order.now ≡ ordered → KeepsOrder m t
    → HasSettledBy ordering None t.order.now n.order.now answer t.engine.now n.engine.now → SettlesOn ordering ordered answer t.engine.now n.engine.now m.order.now n.order.now
settled_on ordering ordered answer m t n is keeps by =
    settled_alike ordering ordered answer t.engine.now n.engine.now m.order.now n.order.now is (subst (λ o. HasSettledBy ordering None o n.order.now answer t.engine.now n.engine.now) keeps.order by)

-- or memory ran out in it
pub broken_on : {F G O L : Type 0} {answering : List Cid → ℕ → Option O → Option O → Type 0} {ordering : Hearing → Option O → Option O → Type 0} (m t n : Machine F G O L) → KeepsOrder m t
    → IsInterruptedBy answering ordering None t.order.now n.order.now t.engine.now n.engine.now → IsInterruptedBy answering ordering None m.order.now n.order.now t.engine.now n.engine.now
broken_on {answering = answering} {ordering = ordering} m t n keeps cut = subst (λ o. IsInterruptedBy answering ordering None o n.order.now t.engine.now n.engine.now) keeps.order cut

pub interrupted_on : {F G O L : Type 0} {answering : List Cid → ℕ → Option O → Option O → Type 0} {ordering : Hearing → Option O → Option O → Type 0} (ordered : Bool) (m t n : Machine F G O L) → is_some m.order.now ≡ ordered → KeepsOrder m t
    → IsInterruptedBy answering ordering None t.order.now n.order.now t.engine.now n.engine.now → IsInterrupted None ordered t.engine.now n.engine.now
interrupted_on ordered m t n is keeps cut = subst (λ b. IsInterrupted None b t.engine.now n.engine.now) (ap is_some keeps.order ∙ is) cut.interrupted
