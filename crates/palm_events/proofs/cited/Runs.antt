-- Runs of the machine: every state is valid, includes the greatest closed domains, and has exactly these where nothing is pending.
use Rattle.std.proofs.Common.{◌≡◌, List, [], ◌∷◌, Contains, sym, subst}
use Rattle.palm_base.specs.declared.terms.Pair.{Pair}
use Rattle.palm_base.specs.declared.terms.Cid.{Cid}
use Rattle.palm_base.proofs.cited.Members.{member_nil, member_map, member_unmap}
use Rattle.palm_model.specs.Domains.{Domains, AllAscend, Has, IsInside}
use Rattle.palm_model.specs.Closure.{IsClosed, IsGreatest}
use Rattle.palm_model.specs.Log.{Active, Named, Names, cons_of, log_pairs}
use Rattle.palm_model.specs.Closure.{IsClosedBy}
use Rattle.palm_model.specs.State.{EngineState, IsValid, present, blank}
use Rattle.palm_model.specs.Event.{Step, StepLeads, Runs}
use Rattle.palm_model.specs.Event.Event.{Post, Withdraw, Remove}
use Rattle.palm_model.specs.Event.Step.{Happens, Calm, Declare}
use Rattle.palm_model.specs.declared.constraint.Con.{Con}
use Rattle.palm_model.proofs.cited.Without.{pair_of, ascend_without, length_without, without_inside, has_without}
use Rattle.palm_laws.proofs.cited.Uniqueness.{greatest_unique}
use Rattle.palm_events.specs.Reasons.{ReasonsAreRight}
use Rattle.palm_events.proofs.cited.Logs.{removal_explained, logged}
use Rattle.palm_events.proofs.cited.Valid.{blank_valid, posts_valid, withdraws_valid, removes_valid, calms_valid, declares_valid}

-- ---- steps and runs

pub step_valid : ReasonsAreRight → (s : EngineState) (step : Step) (t : EngineState) → StepLeads s step t → IsValid s → IsValid t
step_valid right s (Happens (Post a)) t h valid = posts_valid s t a h valid
step_valid right s (Happens (Withdraw cid)) t h valid = withdraws_valid s t cid h valid
step_valid right s (Happens (Remove a p)) t h valid = removes_valid right s t a p h valid
step_valid right s (Calm a) t h valid = calms_valid s t a h valid
step_valid right s (Declare values) t h valid = declares_valid s t values h valid

pub run_valid : ReasonsAreRight → (s : EngineState) (steps : List Step) (t : EngineState) → Runs s steps t → IsValid s → IsValid t
run_valid right s [] t run valid = subst IsValid (sym run) valid
run_valid right s (step ∷ steps) t run valid = run_valid right run.0 steps t run.2 (step_valid right s step run.0 run.1 valid)

pub blank_run_valid : ReasonsAreRight → (initial : Domains) (steps : List Step) (t : EngineState) → AllAscend initial → Runs (blank initial) steps t → IsValid t
blank_run_valid right initial steps t ascend run = run_valid right (blank initial) steps t run (blank_valid initial ascend)

-- ---- domains

pub named_con : (active : List Active) (P : Cid → Type 0) (c : Con) → Named active P c → Contains (cons_of active) c
named_con active P c named = subst (λ d. Contains (cons_of active) d) named.is (member_map (λ (a : Active). a.con) active named.owner named.posted)

-- closed domains inside the declared ones lie inside the present ones
pub present_includes : (s : EngineState) → IsValid s → (d : Domains) → IsInside d s.initial → IsClosed (Contains (cons_of s.active)) d → IsInside d (present s)
present_includes s valid d inside closed x v has =
    has_without s.initial (log_pairs s.log) x v (inside x v has) (λ m.
    let r = logged s.log (pair_of x v) m in
    let explained = removal_explained s.initial s.active s.log r.0 valid.founded r.1 in
    explained d inside (λ c p named k. closed c p (named_con s.active (λ cid. Names s.log cid r.0) c named) k)
    (subst (λ (p : Pair). Has d p.var p.value) (sym r.2) has))

-- where nothing is pending, the present domains are closed
pub quiet_closed : (s : EngineState) → IsValid s → s.pending ≡ [] → IsClosed (Contains (cons_of s.active)) (present s)
quiet_closed s valid quiet c p m k =
    let r = member_unmap (λ (a : Active). a.con) s.active c m in
    let closed : IsClosedBy c (present s) = subst (λ d. IsClosedBy d (present s)) r.2 (valid.closed r.0 r.1 (λ n. member_nil r.0.cid (subst (λ cs. Contains cs r.0.cid) quiet n))) in
    closed p k

pub quiet_greatest : (s : EngineState) → IsValid s → s.pending ≡ [] → IsGreatest s.initial (Contains (cons_of s.active)) (present s)
quiet_greatest s valid quiet = record {
  ascend = ascend_without s.initial (log_pairs s.log) valid.ascend;
  variables = length_without s.initial (log_pairs s.log);
  inside = without_inside s.initial (log_pairs s.log);
  closed = quiet_closed s valid quiet;
  includes = present_includes s valid;
}

-- ---- from the state without constraints

pub run_includes_greatest : ReasonsAreRight → (initial : Domains) (steps : List Step) (t : EngineState) (d : Domains) → AllAscend initial → Runs (blank initial) steps t → IsGreatest t.initial (Contains (cons_of t.active)) d → IsInside d (present t)
run_includes_greatest right initial steps t d ascend run greatest =
    present_includes t (blank_run_valid right initial steps t ascend run) d greatest.inside greatest.closed

pub run_has_greatest : ReasonsAreRight → (initial : Domains) (steps : List Step) (t : EngineState) (d : Domains) → AllAscend initial → Runs (blank initial) steps t → IsGreatest t.initial (Contains (cons_of t.active)) d → t.pending ≡ [] → present t ≡ d
run_has_greatest right initial steps t d ascend run greatest quiet =
    greatest_unique t.initial (Contains (cons_of t.active)) (present t) d (quiet_greatest t (blank_run_valid right initial steps t ascend run) quiet) greatest
