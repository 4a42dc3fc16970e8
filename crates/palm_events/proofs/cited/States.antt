-- The lists of a state: who is active, who is pending, and of which form.
use Rattle.std.proofs.Common.{◌≡◌, ℕ, ◌<◌, ◌≤◌, Bool, true, false, not, List, [], ◌∷◌, filter, Contains, ◌⊎◌, inl, inr, refl, sym, subst, arith, nat_eq, eq-eqb, eqb-true}
use Rattle.std.specs.List.{list_any}
use Rattle.std.proofs.lemmas.Bool.{or_cases, or_left, or_right, cases_Bool, false≢true}
use Rattle.std.proofs.lemmas.List.{map-append}
use Rattle.std.proofs.lemmas.List.Elements.{All-contains, All-weaker, Contains-append_cases, Contains-append_left, Contains-append_right}
use Rattle.palm_base.specs.declared.terms.Cid.{Cid}
use Rattle.palm_base.specs.declared.terms.Cid.TheVariants.{Decide, Not, User}
use Rattle.palm_base.proofs.cited.Members.{member_nil, member_here, member_there, member_cases, member_single, member_same, member_map, member_unmap, member_filter, filter_member, all_members}
use Rattle.palm_model.specs.Constraint.{scope, IsWellFormed}
use Rattle.palm_base.specs.Order.{Rises, cid_before}
use Rattle.palm_model.specs.Log.{Active, IsActive, is_named, cids_of}
use Rattle.palm_model.specs.State.{IsJustifier, AreJustifiers, IsOfForm, FitsCid, is_over, is_awake, woken, without_cid}
use Rattle.palm_model.specs.Event.{with_posted, without_cids, gone_with}
use Rattle.palm_model.specs.declared.constraint.Con.{Con}
use Rattle.palm_model.proofs.cited.Supports.{any_member, member_any}
use Rattle.palm_base.proofs.cited.CidOrder.{cid_order, before_then, rises_append, rising_same}
use Rattle.palm_events.proofs.cited.Names.{named_member, member_named, member_not_named, not_named_member, rises_filter}

-- ---- ids of active constraints

pub active_cid : (active : List Active) (c : Cid) → Contains (cids_of active) c → IsActive active c
active_cid active c m = let r = member_unmap (λ (a : Active). a.cid) active c m in record { owner = r.0; posted = r.1; named = r.2 }

pub cid_active : (active : List Active) (a : Active) → Contains active a → Contains (cids_of active) a.cid
cid_active active a m = member_map (λ (b : Active). b.cid) active a m

-- ---- pending ones

pub over_member : (c : Con) (x : ℕ) → is_over c x ≡ true → Contains (scope c) x
over_member c x h = let r = any_member (λ y. nat_eq y x) (scope c) h in member_same (scope c) r.0 x (eqb-true r.0 x r.2) r.1

pub member_over : (c : Con) (x : ℕ) → Contains (scope c) x → is_over c x ≡ true
member_over c x m = member_any (λ y. nat_eq y x) (scope c) x m (eq-eqb x x refl)

pub awake_named : (pending : List Cid) (vars : List ℕ) (a : Active) → Contains pending a.cid → is_awake pending vars a ≡ true
awake_named pending vars a m = or_left (is_named pending a.cid) (list_any (λ x. is_over a.con x) vars) (member_named pending a.cid m)

pub awake_over : (pending : List Cid) (vars : List ℕ) (a : Active) (x : ℕ) → Contains vars x → Contains (scope a.con) x → is_awake pending vars a ≡ true
awake_over pending vars a x m over =
    or_right (is_named pending a.cid) (list_any (λ y. is_over a.con y) vars) (member_any (λ y. is_over a.con y) vars x m (member_over a.con x over))

-- what is woken is active and awake
pub woken_active : (active : List Active) (pending : List Cid) (vars : List ℕ) (c : Cid) → Contains (woken active pending vars) c → (a : Active) × Contains active a × (a.cid ≡ c) × (is_awake pending vars a ≡ true)
woken_active active pending vars c m =
    let r = member_unmap (λ (a : Active). a.cid) (filter (is_awake pending vars) active) c m in
    let k = filter_member (is_awake pending vars) active r.0 r.1 in
    (r.0, k.0, r.2, k.1)

pub member_woken : (active : List Active) (pending : List Cid) (vars : List ℕ) (a : Active) → Contains active a → is_awake pending vars a ≡ true → Contains (woken active pending vars) a.cid
member_woken active pending vars a m t =
    member_map (λ (b : Active). b.cid) (filter (is_awake pending vars) active) a (member_filter (is_awake pending vars) active a m t)

-- a constraint that is not pending afterwards was not pending before, and is over none of the variables
pub asleep_before : (active : List Active) (pending : List Cid) (vars : List ℕ) (a : Active) → Contains active a → (Contains (woken active pending vars) a.cid → ⊥) → Contains pending a.cid → ⊥
asleep_before active pending vars a m n was = n (member_woken active pending vars a m (awake_named pending vars a was))

pub asleep_over : (active : List Active) (pending : List Cid) (vars : List ℕ) (a : Active) → Contains active a → (Contains (woken active pending vars) a.cid → ⊥) → (x : ℕ) → Contains vars x → Contains (scope a.con) x → ⊥
asleep_over active pending vars a m n x at over = n (member_woken active pending vars a m (awake_over pending vars a x at over))

pub woken_rises : (active : List Active) (pending : List Cid) (vars : List ℕ) → Rises (cids_of active) → Rises (woken active pending vars)
woken_rises active pending vars rises = rises_filter (is_awake pending vars) active rises

-- with no variables, only what was pending is awake
awake_none : (pending : List Cid) (a : Active) → is_awake pending [] a ≡ true → Contains pending a.cid
awake_none pending a h = elim (or_cases (is_named pending a.cid) false h) [
  | inl t ↦ named_member pending a.cid t
  | inr f ↦ absurd (false≢true f)
]

-- ids that rise and are active are the ids of the active constraints that are among them
pub waits : (active : List Active) (cids : List Cid) → Rises (cids_of active) → Rises cids → ((c : Cid) → Contains cids c → IsActive active c) → cids ≡ woken active cids []
waits active cids rises rise are = rising_same cids (woken active cids []) rise (woken_rises active cids [] rises)
    (λ c m. let a = are c m in
    subst (λ d. Contains (woken active cids []) d) a.named
    (member_woken active cids [] a.owner a.posted (awake_named cids [] a.owner (member_same cids c a.owner.cid (sym a.named) m))))
    (λ c m. let r = woken_active active cids [] c m in member_same cids r.0.cid c r.2 (awake_none cids r.0 r.3))

pub woken_waits : (active : List Active) (pending : List Cid) (vars : List ℕ) → Rises (cids_of active) → woken active pending vars ≡ woken active (woken active pending vars) []
woken_waits active pending vars rises = waits active (woken active pending vars) rises (woken_rises active pending vars rises)
    (λ c m. let r = woken_active active pending vars c m in record { owner = r.0; posted = r.1; named = r.2 })

rises_cids : (test : Cid → Bool) (cids : List Cid) → Rises cids → Rises (filter test cids)
rises_cids test [] rise = tt
rises_cids test (c ∷ cids) rise = elim (cases_Bool (test c)) [
  | inl t ↦ rw t (
    all_members (λ d. cid_before c d ≡ true) (filter test cids) (λ d m.
        All-contains (λ e. cid_before c e ≡ true) cids d rise.0 (filter_member test cids d m).0),
    rises_cids test cids rise.1,
  )
  | inr f ↦ rw f (rises_cids test cids rise.1)
]

pub without_cid_rises : (cid : Cid) (cids : List Cid) → Rises cids → Rises (without_cid cid cids)
without_cid_rises cid cids rise = rises_cids (λ c. not (is_named (cid ∷ []) c)) cids rise

pub without_cid_member : (cid : Cid) (cids : List Cid) (c : Cid) → Contains (without_cid cid cids) c → Contains cids c × (c ≡ cid → ⊥)
without_cid_member cid cids c m =
    let r = filter_member (λ d. not (is_named (cid ∷ []) d)) cids c m in
    (r.0, λ e. not_named_member (cid ∷ []) c r.1 (member_same (cid ∷ []) cid c (sym e) (member_here cid [])))

pub member_without_cid : (cid : Cid) (cids : List Cid) (c : Cid) → Contains cids c → (c ≡ cid → ⊥) → Contains (without_cid cid cids) c
member_without_cid cid cids c m n = member_filter (λ d. not (is_named (cid ∷ []) d)) cids c m (member_not_named (cid ∷ []) c (λ k. n (sym (member_single cid c k))))

-- ---- one more constraint

pub with_posted_cases : (a : Active) (active : List Active) (b : Active) → Contains (with_posted a active) b → (a ≡ b) ⊎ Contains active b
with_posted_cases a active b m =
    elim (Contains-append_cases (filter (λ c. cid_before c.cid a.cid) active) (a ∷ filter (λ c. cid_before a.cid c.cid) active) b m) [
      | inl k ↦ inr (filter_member (λ (c : Active). cid_before c.cid a.cid) active b k).0
      | inr k ↦ elim (member_cases a (filter (λ c. cid_before a.cid c.cid) active) b k) [
        | inl e ↦ inl e
        | inr l ↦ inr (filter_member (λ (c : Active). cid_before a.cid c.cid) active b l).0
      ]
    ]

pub with_posted_here : (a : Active) (active : List Active) → Contains (with_posted a active) a
with_posted_here a active =
    Contains-append_right (filter (λ c. cid_before c.cid a.cid) active) (a ∷ filter (λ c. cid_before a.cid c.cid) active) a (member_here a (filter (λ c. cid_before a.cid c.cid) active))

pub member_with_posted : (a : Active) (active : List Active) (b : Active) → (IsActive active a.cid → ⊥) → Contains active b → Contains (with_posted a active) b
member_with_posted a active b inactive m = elim (cid_order b.cid a.cid) [
  | inl t ↦ Contains-append_left (filter (λ c. cid_before c.cid a.cid) active) (a ∷ filter (λ c. cid_before a.cid c.cid) active) b (member_filter (λ (c : Active). cid_before c.cid a.cid) active b m t)
  | inr r ↦ elim r [
    | inl e ↦ absurd (inactive (record { owner = b; posted = m; named = e }))
    | inr t ↦ Contains-append_right (filter (λ c. cid_before c.cid a.cid) active) (a ∷ filter (λ c. cid_before a.cid c.cid) active) b
        (member_there a (filter (λ c. cid_before a.cid c.cid) active) b (member_filter (λ (c : Active). cid_before a.cid c.cid) active b m t))
  ]
]

before_posted : (a : Active) (active : List Active) (c : Cid) → Contains (cids_of (filter (λ b. cid_before b.cid a.cid) active)) c → cid_before c a.cid ≡ true
before_posted a active c m =
    let r = member_unmap (λ (b : Active). b.cid) (filter (λ b. cid_before b.cid a.cid) active) c m in
    subst (λ d. cid_before d a.cid ≡ true) r.2 (filter_member (λ (b : Active). cid_before b.cid a.cid) active r.0 r.1).1

after_posted : (a : Active) (active : List Active) (c : Cid) → Contains (cids_of (filter (λ b. cid_before a.cid b.cid) active)) c → cid_before a.cid c ≡ true
after_posted a active c m =
    let r = member_unmap (λ (b : Active). b.cid) (filter (λ b. cid_before a.cid b.cid) active) c m in
    subst (λ d. cid_before a.cid d ≡ true) r.2 (filter_member (λ (b : Active). cid_before a.cid b.cid) active r.0 r.1).1

pub with_posted_rises : (a : Active) (active : List Active) → Rises (cids_of active) → Rises (cids_of (with_posted a active))
with_posted_rises a active rises =
    let low = filter (λ b. cid_before b.cid a.cid) active in
    let high = filter (λ b. cid_before a.cid b.cid) active in
    let high_rises : Rises (a.cid ∷ cids_of high) = (
      all_members (λ c. cid_before a.cid c ≡ true) (cids_of high) (after_posted a active),
      rises_filter (λ (b : Active). cid_before a.cid b.cid) active rises,
    ) in
    subst Rises (sym (map-append (λ (b : Active). b.cid) low (a ∷ high)))
    (rises_append (cids_of low) (a.cid ∷ cids_of high) (rises_filter (λ (b : Active). cid_before b.cid a.cid) active rises) high_rises
    (λ x y m n. elim (member_cases a.cid (cids_of high) y n) [
      | inl e ↦ subst (λ z. cid_before x z ≡ true) e (before_posted a active x m)
      | inr k ↦ before_then x a.cid y (before_posted a active x m) (after_posted a active y k)
    ]))

-- ---- fewer constraints

pub without_cids_member : (gone : List Cid) (active : List Active) (a : Active) → Contains (without_cids gone active) a → Contains active a × (Contains gone a.cid → ⊥)
without_cids_member gone active a m =
    let r = filter_member (λ (b : Active). not (is_named gone b.cid)) active a m in (r.0, not_named_member gone a.cid r.1)

pub member_without_cids : (gone : List Cid) (active : List Active) (a : Active) → Contains active a → (Contains gone a.cid → ⊥) → Contains (without_cids gone active) a
member_without_cids gone active a m n = member_filter (λ (b : Active). not (is_named gone b.cid)) active a m (member_not_named gone a.cid n)

pub without_cids_rises : (gone : List Cid) (active : List Active) → Rises (cids_of active) → Rises (cids_of (without_cids gone active))
without_cids_rises gone active rises = rises_filter (λ (b : Active). not (is_named gone b.cid)) active rises

-- ---- forms

well_formed_more : (n m : ℕ) (c : Con) → n ≤ m → IsWellFormed n c → IsWellFormed m c
well_formed_more n m c le formed = record {
  declared = All-weaker (λ x. x < n) (λ x. x < m) (λ x lt. omega arith) (scope c) formed.declared;
  distinct = formed.distinct;
  some = formed.some;
  few = formed.few;
  shaped = formed.shaped;
}

-- the form stays where there are more variables, and where the justifiers of a negation stay active
pub form_more : (n m : ℕ) (active more : List Active) (cid : Cid) (con : Con) (justification : List Cid) → n ≤ m
    → ((c : Cid) → Contains justification c → IsJustifier c → IsActive active c → IsActive more c) → IsOfForm n active cid con justification → IsOfForm m more cid con justification
form_more n m active more (Decide x) con justification le stay form = (form.0, form.1, omega (arith, form.2), form.3)
form_more n m active more (Not p) con justification le stay form = (form.0, omega (arith, form.1), λ c k. let g = form.2 c k in (g.0, stay c k g.0 g.1))
form_more n m active more (User k) con justification le stay form = (well_formed_more n m con le form.0, form.1)

-- what stands in a justification is active, and the constraint that has one is a negation
pub form_justifiers : (n : ℕ) (active : List Active) (cid : Cid) (con : Con) (justification : List Cid) → IsOfForm n active cid con justification → AreJustifiers active justification
form_justifiers n active (Decide x) con justification form c m = absurd (member_nil c (subst (λ cs. Contains cs c) form.3 m))
form_justifiers n active (Not p) con justification form c m = form.2 c m
form_justifiers n active (User k) con justification form c m = absurd (member_nil c (subst (λ cs. Contains cs c) form.1 m))

pub form_negation : (n : ℕ) (active : List Active) (cid : Cid) (con : Con) (justification : List Cid) (c : Cid) → IsOfForm n active cid con justification → Contains justification c → IsJustifier cid → ⊥
form_negation n active (Decide x) con justification c form m justifier = member_nil c (subst (λ cs. Contains cs c) form.3 m)
form_negation n active (Not p) con justification c form m justifier = justifier
form_negation n active (User k) con justification c form m justifier = member_nil c (subst (λ cs. Contains cs c) form.1 m)

-- each constraint is over declared variables
pub form_declared : (n : ℕ) (active : List Active) (cid : Cid) (con : Con) (justification : List Cid) → IsOfForm n active cid con justification → (x : ℕ) → Contains (scope con) x → x < n
form_declared n active (Decide y) con justification form x m =
    let e = member_single y x (subst (λ c. Contains (scope c) x) form.1 m) in subst (λ z. z < n) e form.2
form_declared n active (Not p) con justification form x m =
    let e = member_single p.var x (subst (λ c. Contains (scope c) x) form.0 m) in subst (λ z. z < n) e form.1
form_declared n active (User k) con justification form x m = All-contains (λ z. z < n) (scope con) x form.0.declared m

-- a justifier is no negation whose justification holds something
pub held_not_justifier : (n : ℕ) (active : List Active) (a : Active) (c : Cid) → FitsCid n active a → Contains a.justification c → IsJustifier a.cid → ⊥
held_not_justifier n active a c formed m justifier = form_negation n active a.cid a.con a.justification c formed.form m justifier

-- the justifiers of those that stay do not go with an id
pub gone_justifiers : (n : ℕ) (active : List Active) (cid : Cid) → ((a : Active) → Contains active a → FitsCid n active a)
    → (a : Active) → Contains active a → (Contains (gone_with active cid) a.cid → ⊥) → (c : Cid) → Contains a.justification c → IsJustifier c → Contains (gone_with active cid) c → ⊥
gone_justifiers n active cid formed a m stays c held justifier gone = elim (member_cases cid (cids_of (filter (λ b. is_named b.justification cid) active)) c gone) [
  | inl e ↦ stays (member_there cid (cids_of (filter (λ b. is_named b.justification cid) active)) a.cid
      (member_map (λ (b : Active). b.cid) (filter (λ b. is_named b.justification cid) active) a
      (member_filter (λ (b : Active). is_named b.justification cid) active a m (member_named a.justification cid (member_same a.justification c cid (sym e) held)))))
  | inr k ↦
      let r = member_unmap (λ (b : Active). b.cid) (filter (λ b. is_named b.justification cid) active) c k in
      let f = filter_member (λ (b : Active). is_named b.justification cid) active r.0 r.1 in
      held_not_justifier n active r.0 cid (formed r.0 f.0) (named_member r.0.justification cid f.1) (subst IsJustifier (sym r.2) justifier)
]
