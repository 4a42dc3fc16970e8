-- Settlings: validity, domains that do not depend on the order, and what is left when a posting is undone.
use Rattle.std.proofs.Common.{◌≡◌, ℕ, ◌<◌, Option, None, Bool, false, List, [], ◌∷◌, length, Contains, ℤ, inl, inr, sym, ap, ◌∙◌, subst, arith}
use Rattle.palm_base.proofs.cited.Members.{member_nil, member_here}
use Rattle.palm_model.specs.Domains.{Domains, IsInside, values_of}
use Rattle.palm_model.specs.Closure.{IsGreatest}
use Rattle.palm_model.specs.Log.{Active, cons_of, log_pairs}
use Rattle.palm_model.specs.State.{EngineState, HasEmpty, AllFilled, IsValid, IsSettled, present}
use Rattle.palm_model.specs.Event.{Posts, Withdraws}
use Rattle.palm_model.proofs.cited.Without.{length_without}
use Rattle.palm_laws.proofs.cited.Uniqueness.{greatest_unique}
use Rattle.palm_events.specs.Along.{IsStill}
use Rattle.palm_events.specs.Reasons.{ReasonsAreRight}
use Rattle.palm_events.proofs.cited.Runs.{run_valid, quiet_greatest, present_includes}
use Rattle.palm_events.proofs.cited.Undone.{posting_undone}
use Rattle.palm_engine.specs.Engine.{View, IsInterrupted}
use Rattle.palm_engine.specs.Settling.{Revision, Settles, FitsOrder, SettlesPlainly, IsSameSettling, Filters}
use Rattle.palm_engine.specs.Settling.IsEnded.{ended_empty, ended_quiet, ended_limit}
use Rattle.palm_engine.proofs.Ending.{settling_exists}
use Rattle.palm_engine.proofs.Same.{settling_same, answered_none, none_answered}
use Rattle.palm_engine.proofs.cited.Walking.{filters_then, revisions_filter, walk_filters}

pub filters_valid : ReasonsAreRight → (s t : EngineState) → Filters s t → IsValid s → IsValid t
filters_valid right s t filters valid = run_valid right s filters.steps t filters.run valid

pub settling_filters : (limit : Option ℕ) (s : EngineState) (rs : List Revision) (t : EngineState) → Settles limit s rs t → Filters s t
settling_filters limit s rs t settles = revisions_filter s rs t settles.revisions

pub interrupted_filters : {limit : Option ℕ} (ordered : Bool) (before after : View) → IsInterrupted limit ordered before after → Filters before.state after.state
interrupted_filters ordered before after cut =
    filters_then before.state cut.middle after.state (revisions_filter before.state cut.revisions cut.middle cut.ended) (walk_filters cut.owner cut.walked cut.middle cut.removed after.state cut.walk)

pub settling_valid : ReasonsAreRight → (limit : Option ℕ) (s : EngineState) (rs : List Revision) (t : EngineState) → Settles limit s rs t → IsValid s → IsValid t
settling_valid right limit s rs t settles valid = filters_valid right s t (settling_filters limit s rs t settles) valid

-- the greatest domains of the constraints of s are those that a quiet state after filtering has
after_greatest : ReasonsAreRight → (s t : EngineState) → Filters s t → IsValid s → t.pending ≡ [] → IsGreatest s.initial (Contains (cons_of s.active)) (present t)
after_greatest right s t filters valid quiet =
    subst (λ d. IsGreatest d (Contains (cons_of s.active)) (present t)) filters.initial
    (subst (λ l. IsGreatest t.initial (Contains (cons_of l)) (present t)) filters.active (quiet_greatest t (filters_valid right s t filters valid) quiet))

after_includes : ReasonsAreRight → (s t : EngineState) → Filters s t → IsValid s → (d : Domains) → IsGreatest s.initial (Contains (cons_of s.active)) d → IsInside d (present t)
after_includes right s t filters valid d greatest =
    let g : IsGreatest t.initial (Contains (cons_of t.active)) d =
    subst (λ i. IsGreatest i (Contains (cons_of t.active)) d) (sym filters.initial) (subst (λ l. IsGreatest s.initial (Contains (cons_of l)) d) (sym filters.active) greatest) in
    present_includes t (filters_valid right s t filters valid) d g.inside g.closed

some_value : (vs : List ℤ) → 0 < length vs → (v : ℤ) × Contains vs v
some_value [] lt = absurd (omega arith)
some_value (v ∷ vs) lt = (v, member_here v vs)

-- where the greatest domains are filled, so are the present ones
filled_inside : (d e : Domains) → length d ≡ length e → IsInside d e → AllFilled d → HasEmpty e → ⊥
filled_inside d e len inside filled empty =
    let some = some_value (values_of d empty.0) (filled empty.0 (subst (λ n. empty.0 < n) (sym len) empty.1.exists)) in
    member_nil some.0 (subst (λ vs. Contains vs some.0) empty.1.empty (inside empty.0 some.0 some.1))

same_length : (s t u : EngineState) → Filters s t → Filters s u → length (present t) ≡ length (present u)
same_length s t u one other =
    length_without t.initial (log_pairs t.log) ∙ ap length (one.initial ∙ sym other.initial) ∙ sym (length_without u.initial (log_pairs u.log))

-- every settling without a limit ends in the domains of a settled state that filtering reaches
pub settled_same : ReasonsAreRight → (s t : EngineState) (rs : List Revision) (u : EngineState) → IsValid s → Filters s t → IsSettled t → Settles None s rs u → present u ≡ present t
settled_same right s t rs u valid filters settled settles =
    let other = settling_filters None s rs u settles in
    let greatest = after_greatest right s t filters valid settled.quiet in
    elim settles.ended [
      | ended_empty empty ↦ absurd (filled_inside (present t) (present u) (same_length s t u filters other) (after_includes right s u other valid (present t) greatest) settled.filled empty)
      | ended_quiet quiet ↦ greatest_unique s.initial (Contains (cons_of s.active)) (present u) (present t) (after_greatest right s u other valid quiet) greatest
      | ended_limit reached ↦ absurd reached
    ]

-- ---- without an order object

pub plainly_exists : (limit : Option ℕ) (s : EngineState) → IsValid s → SettlesPlainly limit s
plainly_exists limit s valid =
    let r = settling_exists limit (λ k. 0) s valid in
    record { revisions = r.revisions; state = r.state; fits = none_answered r.revisions r.answered; settles = r.settles }

pub plainly_same : (limit : Option ℕ) (s : EngineState) (qs : List Revision) (t : EngineState) (rs : List Revision) (u : EngineState) → IsValid s
    → FitsOrder false qs → FitsOrder false rs → Settles limit s qs t → Settles limit s rs u → IsSameSettling qs t rs u
plainly_same limit s qs t rs u valid fq fr one other = settling_same limit (λ k. 0) s qs t rs u valid.rising (answered_none qs fq) (answered_none rs fr) one other

-- ---- posting, settling, withdrawing

pub settling_undone : ReasonsAreRight → (limit : Option ℕ) (s m n t : EngineState) (a : Active) (rs : List Revision) → IsValid s → IsStill s → Posts s a m → Settles limit m rs n → Withdraws n a.cid t → t.log ≡ s.log
settling_undone right limit s m n t a rs valid still posts settles withdraws =
    let filters = settling_filters limit m rs n settles in
    posting_undone right s m n t a filters.steps valid still posts filters.run filters.filtering withdraws

-- ---- without a limit

pub settling_still : (s : EngineState) (rs : List Revision) (t : EngineState) → Settles None s rs t → IsStill t
settling_still s rs t settles = elim settles.ended [
  | ended_empty empty ↦ inr empty
  | ended_quiet quiet ↦ inl quiet
  | ended_limit reached ↦ absurd reached
]
