-- A revision and a settling are runs of removals and of closed constraints that stop being pending.
use Rattle.std.proofs.Common.{◌≡◌, ℕ, zero, suc, ◌<◌, List, [], ◌∷◌, ◌++◌, length, Contains, ℤ, ◌⊎◌, inl, inr, refl, sym, ap, ◌∙◌, subst, arith}
use Rattle.std.proofs.lemmas.List.Elements.{All-nil, All-cons, All-append}
use Rattle.palm_base.specs.declared.terms.Pair.{Pair}
use Rattle.palm_base.specs.declared.terms.Cid.{Cid}
use Rattle.palm_base.proofs.cited.Members.{member_nil, member_cases, member_same, member_get, nat_known, member_known, int_known, any_known, known_both, known_not}
use Rattle.palm_model.specs.Domains.{Domains, Has, values_of}
use Rattle.palm_model.specs.Constraint.{scope}
use Rattle.palm_model.specs.Part.{scope_of, parts}
use Rattle.palm_model.specs.Support.{HasSupport, IsSupported, LacksSupport}
use Rattle.palm_model.specs.Log.{Active, log_pairs}
use Rattle.palm_model.specs.Closure.{IsClosedBy}
use Rattle.palm_model.specs.State.{EngineState, HasEmpty, AllFilled, present}
use Rattle.palm_model.specs.Event.{Removes, Calms, Step, Runs, removed, calmed}
use Rattle.palm_model.specs.Event.Event.{Remove}
use Rattle.palm_model.specs.Event.Step.{Happens, Calm}
use Rattle.palm_model.specs.declared.constraint.Con.{Con}
use Rattle.palm_model.proofs.cited.Formed.{part_scope}
use Rattle.palm_model.proofs.cited.Reasons.{member_all_pairs}
use Rattle.palm_model.proofs.cited.Trials.{support_known}
use Rattle.palm_model.proofs.cited.Without.{pair_of, without_has}
use Rattle.palm_events.specs.Along.{IsFiltering}
use Rattle.palm_engine.specs.Settling.{Filters, Walks, Revision, Revises, Revisions, walk_order, rested, index_within}
use Rattle.palm_engine.specs.Settling.Walks.{walked_all, walked_empty, walked_past, walked_out}

-- ---- runs of runs

pub run_then : (s : EngineState) (steps : List Step) (m : EngineState) (more : List Step) (t : EngineState) → Runs s steps m → Runs m more t → Runs s (steps ++ more) t
run_then s [] m more t run rest = subst (λ z. Runs z more t) run rest
run_then s (step ∷ steps) m more t run rest = (run.0, run.1, run_then run.0 steps m more t run.2 rest)

pub filters_none : (s : EngineState) → Filters s s
filters_none s = record { steps = []; run = refl; filtering = All-nil IsFiltering; active = refl; initial = refl }

pub filters_then : (s m t : EngineState) → Filters s m → Filters m t → Filters s t
filters_then s m t first rest = record {
  steps = first.steps ++ rest.steps;
  run = run_then s first.steps m rest.steps t first.run rest.run;
  filtering = All-append IsFiltering first.steps rest.steps first.filtering rest.filtering;
  active = rest.active ∙ first.active;
  initial = rest.initial ∙ first.initial;
}

pub filters_removed : (s : EngineState) (a : Active) (p : Pair) (t : EngineState) → Removes s a p t → Filters s t
filters_removed s a p t removes = record {
  steps = Happens (Remove a p) ∷ [];
  run = (t, removes, refl);
  filtering = All-cons IsFiltering (Happens (Remove a p)) [] tt (All-nil IsFiltering);
  active = ap (λ (z : EngineState). z.active) removes.after;
  initial = ap (λ (z : EngineState). z.initial) removes.after;
}

pub filters_calmed : (s : EngineState) (a : Active) (t : EngineState) → Calms s a t → Filters s t
filters_calmed s a t calms = record {
  steps = Calm a ∷ [];
  run = (t, calms, refl);
  filtering = All-cons IsFiltering (Calm a) [] tt (All-nil IsFiltering);
  active = ap (λ (z : EngineState). z.active) calms.after;
  initial = ap (λ (z : EngineState). z.initial) calms.after;
}

-- ---- walks

pub walk_filters : (a : Active) (pairs : List Pair) (s : EngineState) (n : ℕ) (t : EngineState) → Walks a pairs s n t → Filters s t
walk_filters a _ _ _ _ (walked_all s) = filters_none s
walk_filters a _ _ _ _ (walked_empty pairs s empty) = filters_none s
walk_filters a _ _ _ _ (walked_past p pairs s n t supported walk) = walk_filters a pairs s n t walk
walk_filters a _ _ _ _ (walked_out p pairs s m n t removes walk) = filters_then s m t (filters_removed s a p m removes) (walk_filters a pairs m n t walk)

-- no domain is empty where all are filled
pub not_empty : (d : Domains) → AllFilled d → HasEmpty d → ⊥
not_empty d filled empty = let some = filled empty.0 empty.1.exists in omega (arith, some, ap length empty.1.empty)

-- a walk that took nothing out, while no domain was empty
pub record TookNone (a : Active) (pairs : List Pair) (s t : EngineState) : Type 0 where
  pub same : t ≡ s
  pub supported : (p : Pair) → Contains pairs p → Has (present s) p.var p.value → IsSupported (present s) a.con p.var p.value

pub took_none : (a : Active) (pairs : List Pair) (s : EngineState) (n : ℕ) (t : EngineState) → Walks a pairs s n t → n ≡ 0 → AllFilled (present s) → TookNone a pairs s t
took_none a _ _ _ _ (walked_all s) e filled = record { same = refl; supported = λ p m. absurd (member_nil p m) }
took_none a _ _ _ _ (walked_empty pairs s empty) e filled = absurd (not_empty (present s) filled empty)
took_none a _ _ _ _ (walked_past p pairs s n t supported walk) e filled =
    let rest = took_none a pairs s n t walk e filled in
    record {
      same = rest.same;
      supported = λ q m. elim (member_cases p pairs q m) [
        | inl f ↦ subst (λ (r : Pair). Has (present s) r.var r.value → IsSupported (present s) a.con r.var r.value) f supported
        | inr k ↦ rest.supported q k
      ];
    }
took_none a _ _ _ _ (walked_out p pairs s m n t removes walk) e filled = absurd (omega arith)

-- each present value of the constraint's variables is walked over
pub walked_member : (initial : Domains) (c : Con) (x : ℕ) (v : ℤ) → Contains (scope c) x → Has initial x v → Contains (walk_order initial c) (pair_of x v)
walked_member initial c x v m h = member_all_pairs (λ y. values_of initial y) (scope c) x v m h

-- so the constraint is closed
pub none_closed : (a : Active) (s t : EngineState) → TookNone a (walk_order s.initial a.con) s t → IsClosedBy a.con (present s)
none_closed a s t none p m x v over has =
    let at = walked_member s.initial a.con x v (part_scope a.con p x m over) (without_has s.initial (log_pairs s.log) x v has).0 in
    (none.supported (pair_of x v) at has).each p m over

-- ---- revisions

pub chosen_pending : (s : EngineState) (r : Revision) (t : EngineState) → Revises s r t → Contains s.pending r.cid
chosen_pending s r t revises = member_get s.pending (index_within r.answer (length s.pending)) r.cid revises.chosen

rest_filters : (s m t : EngineState) (a : Active) (cid : Cid) (n : ℕ) → a.cid ≡ cid → Contains s.active a → Contains s.pending cid → AllFilled (present s)
    → Walks a (walk_order s.initial a.con) s n m → t ≡ rested n cid m → Filters s t
rest_filters s m t a cid zero named posted pending filled walk after =
    let none = took_none a (walk_order s.initial a.con) s zero m walk refl filled in
    filters_calmed s a t (record {
      posted = posted;
      pending = member_same s.pending cid a.cid (sym named) pending;
      closed = none_closed a s m none;
      after = after ∙ ap (λ z. calmed z cid) none.same ∙ ap (λ c. calmed s c) (sym named);
    })
rest_filters s m t a cid (suc n) named posted pending filled walk after =
    subst (λ z. Filters s z) (sym after) (walk_filters a (walk_order s.initial a.con) s (suc n) m walk)

pub revision_filters : (s : EngineState) (r : Revision) (t : EngineState) → Revises s r t → Filters s t
revision_filters s r t revises =
    rest_filters s revises.state t revises.owner r.cid r.removed revises.named revises.posted (chosen_pending s r t revises) revises.filled revises.walk revises.after

pub revisions_filter : (s : EngineState) (rs : List Revision) (t : EngineState) → Revisions s rs t → Filters s t
revisions_filter s [] t run = subst (λ z. Filters s z) (sym run) (filters_none s)
revisions_filter s (r ∷ rs) t run = filters_then s run.0 t (revision_filters s r run.0 run.1) (revisions_filter run.0 rs t run.2)

-- ---- every revision can be made

-- a value is supported by a constraint, or it lacks support in it
pub supported_or_lacks : (d : Domains) (c : Con) (x : ℕ) (v : ℤ) → IsSupported d c x v ⊎ LacksSupport d c x v
supported_or_lacks d c x v = elim (any_known (λ p. Contains (scope_of p) x × (HasSupport d p x v → ⊥)) (parts c) (λ p m. known_both (member_known nat_known (scope_of p) x) (known_not (support_known d p x v)))) [
  | inl r ↦ inr (record { part = r.0; is_part = r.1; over = r.2.0; lacks = r.2.1 })
  | inr none ↦ inl (record { each = λ p m over. elim (support_known d p x v) [ inl s ↦ s | inr n ↦ absurd (none p m (over, n)) ] })
]

empty_known_from : (d : Domains) (n : ℕ) → ((x : ℕ) × (x < n) × (values_of d x ≡ [])) ⊎ ((x : ℕ) → x < n → 0 < length (values_of d x))
empty_known_from d zero = inr (λ x lt. absurd (omega arith))
empty_known_from d (suc n) = elim (empty_known_from d n) [
  | inl r ↦ inl (r.0, omega (arith, r.1), r.2)
  | inr filled ↦ elim (empty_or_not (values_of d n)) [
    | inl e ↦ inl (n, omega arith, e)
    | inr lt ↦ inr (λ x l. elim (last_or_before n x l) [ inl k ↦ filled x k | inr e ↦ subst (λ y. 0 < length (values_of d y)) (sym e) lt ])
  ]
]
  where
    empty_or_not : (vs : List ℤ) → (vs ≡ []) ⊎ (0 < length vs)
    empty_or_not [] = inl refl
    empty_or_not (v ∷ vs) = inr (omega arith)

    last_or_before : (n x : ℕ) → x < suc n → (x < n) ⊎ (x ≡ n)
    last_or_before n x l = elim (nat_known x n) [ inl e ↦ inr e | inr k ↦ inl (omega arith) ]

-- a domain is empty, or none is
pub empty_or_filled : (d : Domains) → HasEmpty d ⊎ AllFilled d
empty_or_filled d = elim (empty_known_from d (length d)) [
  | inl r ↦ inl (r.0, record { exists = r.1; empty = r.2 })
  | inr filled ↦ inr filled
]

-- a walk with what it took out and where it led
pub record WalksSome (a : Active) (pairs : List Pair) (s : EngineState) : Type 0 where
  pub count : ℕ
  pub state : EngineState
  pub walk : Walks a pairs s count state

pub walk_exists : (a : Active) (pairs : List Pair) (s : EngineState) → Contains s.active a → WalksSome a pairs s
walk_exists a [] s posted = record { count = 0; state = s; walk = walked_all s }
walk_exists a (p ∷ pairs) s posted = elim (empty_or_filled (present s)) [
  | inl empty ↦ record { count = 0; state = s; walk = walked_empty (p ∷ pairs) s empty }
  | inr filled ↦ elim (member_known int_known (values_of (present s) p.var) p.value) [
    | inr n ↦ past p pairs s (λ has. absurd (n has)) (walk_exists a pairs s posted)
    | inl has ↦ elim (supported_or_lacks (present s) a.con p.var p.value) [
      | inl supported ↦ past p pairs s (λ h. supported) (walk_exists a pairs s posted)
      | inr lacks ↦
          let removes : Removes s a p (removed s a p) = record { posted = posted; filled = filled; has = has; lacks = lacks; after = refl } in
          let rest = walk_exists a pairs (removed s a p) posted in
          record { count = suc rest.count; state = rest.state; walk = walked_out p pairs s (removed s a p) rest.count rest.state removes rest.walk }
    ]
  ]
]
  where
    past : {a : Active} (p : Pair) (pairs : List Pair) (s : EngineState) → (Has (present s) p.var p.value → IsSupported (present s) a.con p.var p.value) → WalksSome a pairs s → WalksSome a (p ∷ pairs) s
    past p pairs s supported rest = record { count = rest.count; state = rest.state; walk = walked_past p pairs s rest.count rest.state supported rest.walk }
