-- What is printed of domains, explanations and conflicts is what the engine holds.
use Rattle.std.proofs.Common.{◌≡◌, ◌↔◌, ℕ, zero, suc, ◌≤◌, ℤ, true, false, List, [], ◌∷◌, length, Contains, inl, inr, refl, sym, ◌∙◌, subst, arith}
use Rattle.std.proofs.lemmas.Bool.{false≢true}
use Rattle.palm_base.specs.declared.terms.Pair.{Pair}
use Rattle.palm_base.specs.declared.terms.Cid.{Cid}
use Rattle.palm_base.proofs.cited.Members.{member_nil, member_here, member_same}
use Rattle.palm_model.specs.Domains.{Domains, Has, IsInside, values_of}
use Rattle.palm_model.specs.Closure.{IsGreatest, Explains, IsConflict}
use Rattle.palm_model.specs.Conflict.{InConflict}
use Rattle.palm_model.specs.Log.{Active, IsActive, Named, Removal, Names, NamesOfPair, IsListOf, cons_of, log_pairs}
use Rattle.palm_model.specs.State.{HasEmpty, IsEmptyAt, present}
use Rattle.palm_model.proofs.cited.Without.{pair_of, length_without}
use Rattle.palm_laws.proofs.cited.Solutions.{explains_more}
use Rattle.palm_book.specs.Book.{initial_of, active_of}
use Rattle.palm_events.proofs.cited.Agreeing.{pair_known, gone_member}
use Rattle.palm_events.proofs.cited.Conflicts.{cids_active, conflict_active, kept_conflict}
use Rattle.palm_events.proofs.cited.Logs.{logged, pair_logged, removal_explained}
use Rattle.palm_events.proofs.cited.Outcomes.{explanation_listed, conflict_listed}
use Rattle.palm_events.proofs.cited.Runs.{present_includes, quiet_greatest}
use Rattle.palm_events.proofs.cited.Undone.{logged_once}
use Rattle.palm_session.specs.State.{SessionState, IsHeld, IsState, AreDomains, IsContradiction, has_empty}
use Rattle.palm_session.specs.Answers.{HasConflict}
use Rattle.palm_session.proofs.cited.LawsOfStates.{domains_exist, domains_once}

-- ---- empty domains

pub empty_at : (d : Domains) → has_empty d ≡ true → HasEmpty d
empty_at [] e = absurd (false≢true e)
empty_at ([] ∷ d) e = (0, record { exists = omega arith; empty = refl })
empty_at ((v ∷ vs) ∷ d) e =
    let r = empty_at d e in
    let lt = r.1.exists in
    (suc r.0, record { exists = omega (arith, lt); empty = r.1.empty })

not_empty : (v : ℤ) (vs : List ℤ) → v ∷ vs ≡ [] → ⊥
not_empty v vs e = cc

pub at_empty : (d : Domains) (x : ℕ) → IsEmptyAt d x → has_empty d ≡ true
at_empty [] x e = absurd (omega (arith, e.exists))
at_empty ([] ∷ d) x e = refl
at_empty ((v ∷ vs) ∷ d) zero e = absurd (not_empty v vs e.empty)
at_empty ((v ∷ vs) ∷ d) (suc x) e = at_empty d x (record { exists = omega (arith, e.exists); empty = e.empty })

tail_empty : (v : ℤ) (vs : List ℤ) (d : Domains) (x : ℕ) → IsEmptyAt ((v ∷ vs) ∷ d) x → (y : ℕ) × (x ≡ suc y) × IsEmptyAt d y
tail_empty v vs d zero e = absurd (not_empty v vs e.empty)
tail_empty v vs d (suc x) e = (x, refl, record { exists = omega (arith, e.exists); empty = e.empty })

-- the lowest variable whose domain is empty
pub lowest_empty : (d : Domains) → HasEmpty d → (x : ℕ) × IsEmptyAt d x × ((y : ℕ) → IsEmptyAt d y → x ≤ y)
lowest_empty [] h = absurd (omega (arith, h.1.exists))
lowest_empty ([] ∷ d) h = (0, record { exists = omega arith; empty = refl }, λ y e. omega arith)
lowest_empty ((v ∷ vs) ∷ d) h =
    let t = tail_empty v vs d h.0 h.1 in
    let r = lowest_empty d (t.0, t.2) in
    let lt = r.1.exists in (
      suc r.0,
      record { exists = omega (arith, lt); empty = r.1.empty },
      λ y e. let u = tail_empty v vs d y e in omega (arith, r.2 u.0 u.2, u.1),
    )

none_nil : (vs : List ℤ) → ((v : ℤ) → Contains vs v → ⊥) → vs ≡ []
none_nil [] none = refl
none_nil (v ∷ vs) none = absurd (none v (member_here v vs))

-- what is inside domains with an empty one has an empty one
pub inside_empty : (d e : Domains) (x : ℕ) → length d ≡ length e → IsInside d e → IsEmptyAt e x → IsEmptyAt d x
inside_empty d e x long inside empty = record {
  exists = omega (arith, long, empty.exists);
  empty = none_nil (values_of d x) (λ v m. member_nil v (subst (λ (vs : List ℤ). Contains vs v) empty.empty (inside x v m)));
}

-- while filtering does not wait, active constraints that are a conflict contradict
pub conflict_contradicts : (s : SessionState) → IsHeld s → s.paused ≡ false → IsConflict (initial_of s.book) (Contains (cons_of (active_of s.book))) → IsContradiction s
conflict_contradicts s is awake conflict =
    let d = domains_exist s is in
    record {
      awake = awake;
      domains = d.0;
      greatest = d.1;
      empty = at_empty d.0 conflict.0 (record {
        exists = omega (arith, conflict.1, d.1.variables);
        empty = none_nil (values_of d.0 conflict.0) (λ v m. conflict.2 v d.0 d.1.inside d.1.closed m);
      });
    }

-- ---- the engine's domains

-- the greatest closed domains in the engine's own words
engine_greatest : (s : SessionState) (d : Domains) → IsHeld s → AreDomains s d → IsGreatest s.engine.initial (Contains (cons_of s.engine.active)) d
engine_greatest s d is are =
    subst (λ (i : Domains). IsGreatest i (Contains (cons_of s.engine.active)) d) (sym is.initial)
    (subst (λ (l : List Active). IsGreatest (initial_of s.book) (Contains (cons_of l)) d) (sym is.active) are)

book_greatest : (s : SessionState) (d : Domains) → IsHeld s → IsGreatest s.engine.initial (Contains (cons_of s.engine.active)) d → AreDomains s d
book_greatest s d is are =
    subst (λ (i : Domains). IsGreatest i (Contains (cons_of (active_of s.book))) d) is.initial
    (subst (λ (l : List Active). IsGreatest s.engine.initial (Contains (cons_of l)) d) is.active are)

-- where nothing waits and no domain is empty, the present domains are the greatest closed ones
pub present_domains : (s : SessionState) → IsState s → s.paused ≡ false → (HasEmpty (present s.engine) → ⊥) → AreDomains s (present s.engine)
present_domains s is awake filled = elim (is.still awake) [
  | inl quiet ↦ book_greatest s (present s.engine) is.held (quiet_greatest s.engine is.held.valid quiet)
  | inr empty ↦ absurd (filled empty)
]

-- an empty domain of the engine is empty in the greatest closed ones
pub domains_empty : (s : SessionState) (d : Domains) → IsHeld s → AreDomains s d → HasEmpty (present s.engine) → has_empty d ≡ true
domains_empty s d is are empty =
    let greatest = engine_greatest s d is are in
    let long : length d ≡ length (present s.engine) = greatest.variables ∙ sym (length_without s.engine.initial (log_pairs s.engine.log)) in
    let inside = present_includes s.engine is.valid d greatest.inside greatest.closed in
    at_empty d empty.0 (inside_empty d (present s.engine) empty.0 long inside empty.1)

-- and the other way round while filtering does not wait
pub empty_domains : (s : SessionState) (d : Domains) → IsState s → s.paused ≡ false → AreDomains s d → has_empty d ≡ true → HasEmpty (present s.engine)
empty_domains s d is awake are e = elim (is.still awake) [
  | inr empty ↦ empty
  | inl quiet ↦
      let same = domains_once s d (present s.engine) are (book_greatest s (present s.engine) is.held (quiet_greatest s.engine is.held.valid quiet)) in
      empty_at (present s.engine) (subst (λ (z : Domains). has_empty z ≡ true) same e)
]

pub contradiction_is_empty : (s : SessionState) → IsState s → s.paused ≡ false → IsContradiction s ↔ HasEmpty (present s.engine)
contradiction_is_empty s is awake = (
  λ c. empty_domains s c.domains is awake c.greatest c.empty,
  λ empty. let d = domains_exist s is.held in record { awake = awake; domains = d.0; greatest = d.1; empty = domains_empty s d.0 is.held d.1 empty },
)

pub printed_domains : (s : SessionState) → IsState s → s.paused ≡ false → (IsContradiction s → ⊥) → AreDomains s (present s.engine)
printed_domains s is awake none = present_domains s is awake (λ empty. none ((contradiction_is_empty s is awake).1 empty))

-- ---- explanations

-- the ids in the explanation of a pair
pub explanation_cids : (s : SessionState) → IsHeld s → (p : Pair) → (cids : List Cid) × IsListOf (NamesOfPair s.engine.log p) cids
explanation_cids s is p =
    let log = s.engine.log in
    elim (pair_known (log_pairs log) p) [
      | inl m ↦
          let r = logged log p m in
          let l = explanation_listed s.engine is.valid r.0 r.1 in (
            l.0,
            record {
              rising = l.1.rising;
              sound = λ c k. record { removal = r.0; logged = r.1; is = r.2; names = l.1.sound c k };
              whole = λ c n.
                  let e : n.removal ≡ r.0 = logged_once s.engine.initial s.engine.active log is.valid.founded n.removal r.0 n.logged r.1 (n.is ∙ sym r.2) in
                  l.1.whole c (subst (λ (z : Removal). Names log c z) e n.names);
            },
          )
      | inr none ↦ (
        [],
        record {
          rising = tt;
          sound = λ c k. absurd (member_nil c k);
          whole = λ c n. absurd (none (member_same (log_pairs log) n.removal.pair p n.is (pair_logged log n.removal n.logged)));
        },
      )
    ]

-- they are active constraints of the book
pub explanation_active : (s : SessionState) → IsHeld s → (p : Pair) (cids : List Cid) → IsListOf (NamesOfPair s.engine.log p) cids → (c : Cid) → Contains cids c → IsActive (active_of s.book) c
explanation_active s is p cids list c m =
    let n = list.sound c m in
    subst (λ (l : List Active). IsActive l c) is.active (cids_active s.engine.initial s.engine.active s.engine.log c is.valid.founded n.removal n.logged n.names)

-- and explain a declared pair that is not present
pub explanation_explains : (s : SessionState) → IsHeld s → (x : ℕ) (v : ℤ) (cids : List Cid) → Has (initial_of s.book) x v → (Has (present s.engine) x v → ⊥)
    → IsListOf (NamesOfPair s.engine.log (pair_of x v)) cids → Explains (initial_of s.book) (Named (active_of s.book) (Contains cids)) x v
explanation_explains s is x v cids has missing list =
    let log = s.engine.log in
    let initial = s.engine.initial in
    let active = s.engine.active in
    let declared : Has initial x v = subst (λ (d : Domains). Has d x v) (sym is.initial) has in
    let r = logged log (pair_of x v) (gone_member initial (log_pairs log) x v declared missing) in
    let own = removal_explained initial active log r.0 is.valid.founded r.1 in
    let more = explains_more initial (Named active (λ c. Names log c r.0)) (Named active (Contains cids)) r.0.pair.var r.0.pair.value
    (λ c n. record {
      owner = n.owner;
      posted = n.posted;
      is = n.is;
      named = list.whole n.owner.cid (record { removal = r.0; logged = r.1; is = r.2; names = n.named });
    }) own in
    let here : Explains initial (Named active (Contains cids)) x v = subst (λ (p : Pair). Explains initial (Named active (Contains cids)) p.var p.value) r.2 more in
    subst (λ (d : Domains). Explains d (Named (active_of s.book) (Contains cids)) x v) is.initial
    (subst (λ (l : List Active). Explains initial (Named l (Contains cids)) x v) is.active here)

-- ---- conflicts

-- the kept conflict names active constraints of the book
pub conflict_cids_active : (s : SessionState) → IsHeld s → (cids : List Cid) → HasConflict s cids → (c : Cid) → Contains cids c → IsActive (active_of s.book) c
conflict_cids_active s is cids conflict c m =
    subst (λ (l : List Active). IsActive l c) is.active (conflict_active s.engine is.valid conflict.var c (conflict.is.sound c m))

-- and these are a conflict
pub conflict_conflicts : (s : SessionState) → IsHeld s → (cids : List Cid) → HasConflict s cids → IsConflict (initial_of s.book) (Named (active_of s.book) (Contains cids))
conflict_conflicts s is cids conflict =
    let initial = s.engine.initial in
    let active = s.engine.active in
    let kept = kept_conflict s.engine is.valid conflict.var conflict.empty in
    let here : IsConflict initial (Named active (Contains cids)) = (
      kept.0,
      kept.1,
      λ v. explains_more initial (Named active (InConflict s.engine conflict.var)) (Named active (Contains cids)) kept.0 v
          (λ c n. record { owner = n.owner; posted = n.posted; is = n.is; named = conflict.is.whole n.owner.cid n.named }) (kept.2 v),
    ) in
    subst (λ (d : Domains). IsConflict d (Named (active_of s.book) (Contains cids))) is.initial
    (subst (λ (l : List Active). IsConflict initial (Named l (Contains cids))) is.active here)

-- where a domain is empty, there is one
pub conflict_exists : (s : SessionState) → IsHeld s → HasEmpty (present s.engine) → (cids : List Cid) × HasConflict s cids
conflict_exists s is empty =
    let x = lowest_empty (present s.engine) empty in
    let l = conflict_listed s.engine is.valid x.0 in
    (l.0, record { var = x.0; empty = x.1; lowest = x.2; is = l.1 })
