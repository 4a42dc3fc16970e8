-- Domains are closed by a constraint exactly where each present value of its variables has support in it, and taking
-- out values without support, one constraint and one variable after another, loses no value of any closed domains.
use Rattle.std.proofs.Common.{◌≡◌, ℕ, ◌+◌, ◌<◌, ◌≤◌, Bool, false, ◌||◌, List, [], ◌∷◌, length, take, get_or, Contains, ℤ, inl, inr, refl, sym, ◌∙◌, subst, take_all}
use Rattle.std.proofs.lemmas.List.Elements.{Contains-get_or}
use Rattle.palm_base.proofs.cited.Members.{member_same, member_here, member_take_more, member_cases, member_nil}
use Rattle.palm_model.specs.Closure.{IsClosed, IsClosedBy}
use Rattle.palm_model.specs.Constraint.{scope}
use Rattle.palm_model.specs.Domains.{Domains, Has, IsInside}
use Rattle.palm_model.specs.Support.{IsSupported, LacksSupport}
use Rattle.palm_model.specs.Trial.{IsSupportedIfPresent, AreKept, AreSupported, Narrowed}
use Rattle.palm_model.specs.declared.constraint.Con.{Con}
use Rattle.palm_model.proofs.cited.Formed.{part_scope}
use Rattle.palm_model.proofs.cited.Narrowing.{narrows_none, narrowed_then, narrowed_for}
use Rattle.palm_model.proofs.cited.Trials.{support_grows}

-- ---- closed for a set, and by each member

pub closed_by_member : (E : Con → Type 0) (d : Domains) → IsClosed E d → (c : Con) → E c → IsClosedBy c d
closed_by_member E d closed c m p k = closed c p m k

pub closed_by_all : (E : Con → Type 0) (d : Domains) → ((c : Con) → E c → IsClosedBy c d) → IsClosed E d
closed_by_all E d each c p m k = each c m p k

-- ---- closed, and supported

pub supported_closed : (c : Con) (d : Domains) → AreSupported c (scope c) d → IsClosedBy c d
supported_closed c d supported p k x v over has = (supported x v (part_scope c p x k over) has).each p k over

pub closed_supported : (c : Con) (d : Domains) → IsClosedBy c d → AreSupported c (scope c) d
closed_supported c d closed x v over has = record { each = λ p k part. closed p k x v part has }

-- closed domains have no value that lacks support in larger ones
pub not_lacking : (c : Con) (d e : Domains) (x : ℕ) (v : ℤ) → LacksSupport d c x v → IsInside e d → IsClosedBy c e → Has e x v → ⊥
not_lacking c d e x v lacks inside closed h =
    lacks.lacks (support_grows e d lacks.part x v inside (closed lacks.part lacks.is_part x v lacks.over h))

-- ---- one after another

-- nothing was taken out
pub narrowed_none : (Closed Rest : Domains → Type 0) (d : Domains) → Rest d → Narrowed Closed Rest d d false
narrowed_none Closed Rest d rest = record { step = narrows_none Closed d; fewer = λ is. cc; same = λ is. refl; rest = λ is. rest }

kept_more : (c : Con) (x : ℕ) (vs : List ℤ) (i : ℕ) (v : ℤ) → i < length vs → v ≡ get_or vs i v → (d : Domains) → AreKept c x (take i vs) d → IsSupportedIfPresent c x v d → AreKept c x (take (i + 1) vs) d
kept_more c x vs i v lt at d before here w m h = elim (member_take_more vs i v w lt at m) [
  | inl k ↦ before w k h
  | inr e ↦ subst (λ (u : ℤ). IsSupportedIfPresent c x u d) e here h
]

pub narrowed_value : (c : Con) (x : ℕ) (vs : List ℤ) (i : ℕ) (v : ℤ) (d e f : Domains) (r a b : Bool) → i < length vs → v ≡ get_or vs i v → r ≡ (a || b) → Narrowed (IsClosedBy c) (AreKept c x (take i vs)) d e a → Narrowed (IsClosedBy c) (IsSupportedIfPresent c x v) e f b → Narrowed (IsClosedBy c) (AreKept c x (take (i + 1) vs)) d f r
narrowed_value c x vs i v d e f r a b lt at is before here =
    subst (Narrowed (IsClosedBy c) (AreKept c x (take (i + 1) vs)) d f) (sym is)
    (narrowed_then (IsClosedBy c) (AreKept c x (take i vs)) (IsSupportedIfPresent c x v) (AreKept c x (take (i + 1) vs)) d e f a b (kept_more c x vs i v lt at) before here)

-- every declared value of the variable was looked at
values_supported : (c : Con) (x : ℕ) (vs : List ℤ) (i : ℕ) → length vs ≤ i → (d : Domains) → ((v : ℤ) → Has d x v → Contains vs v) → AreKept c x (take i vs) d → AreSupported c (x ∷ []) d
values_supported c x vs i full d declared kept y v m h = elim (member_cases x [] y m) [
  | inl e ↦
      let here = subst (λ (z : ℕ). Has d z v) (sym e) h in
      subst (λ (z : ℕ). IsSupported d c z v) e (kept v (subst (λ (us : List ℤ). Contains us v) (sym (take_all i vs full)) (declared v here)) here)
  | inr k ↦ absurd (member_nil y k)
]

pub narrowed_values : (c : Con) (x : ℕ) (vs : List ℤ) (i : ℕ) (d e : Domains) (b : Bool) → length vs ≤ i → ((v : ℤ) → Has d x v → Contains vs v) → Narrowed (IsClosedBy c) (AreKept c x (take i vs)) d e b → Narrowed (IsClosedBy c) (AreSupported c (x ∷ [])) d e b
narrowed_values c x vs i d e b full declared n = record {
  step = n.step;
  fewer = n.fewer;
  same = n.same;
  rest = λ is. values_supported c x vs i full e (λ v h. declared v (n.step.inside x v h)) (n.rest is);
}

supported_more : (c : Con) (xs : List ℕ) (i x : ℕ) → i < length xs → x ≡ get_or xs i x → (d : Domains) → AreSupported c (take i xs) d → AreSupported c (x ∷ []) d → AreSupported c (take (i + 1) xs) d
supported_more c xs i x lt at d before here y v m h = elim (member_take_more xs i x y lt at m) [
  | inl k ↦ before y v k h
  | inr e ↦ here y v (member_same (x ∷ []) x y e (member_here x [])) h
]

pub narrowed_variable : (c : Con) (xs : List ℕ) (i x : ℕ) (d e f : Domains) (r a b : Bool) → i < length xs → x ≡ get_or xs i x → r ≡ (a || b) → Narrowed (IsClosedBy c) (AreSupported c (take i xs)) d e a → Narrowed (IsClosedBy c) (AreSupported c (x ∷ [])) e f b → Narrowed (IsClosedBy c) (AreSupported c (take (i + 1) xs)) d f r
narrowed_variable c xs i x d e f r a b lt at is before here =
    subst (Narrowed (IsClosedBy c) (AreSupported c (take (i + 1) xs)) d f) (sym is)
    (narrowed_then (IsClosedBy c) (AreSupported c (take i xs)) (AreSupported c (x ∷ [])) (AreSupported c (take (i + 1) xs)) d e f a b (supported_more c xs i x lt at) before here)

-- every variable of the scope was looked at
pub narrowed_variables : (c : Con) (xs : List ℕ) (i : ℕ) (d e : Domains) (b : Bool) → xs ≡ scope c → length xs ≤ i → Narrowed (IsClosedBy c) (AreSupported c (take i xs)) d e b → Narrowed (IsClosedBy c) (IsClosedBy c) d e b
narrowed_variables c xs i d e b is full n =
    narrowed_for (IsClosedBy c) (IsClosedBy c) (AreSupported c (scope c)) (IsClosedBy c) d e b (λ f h. h) (supported_closed c)
    (subst (λ (ys : List ℕ). Narrowed (IsClosedBy c) (AreSupported c ys) d e b) (take_all i xs full ∙ is) n)

closed_more : (cs : List Con) (i : ℕ) (c : Con) → i < length cs → c ≡ get_or cs i c → (d : Domains) → IsClosed (Contains (take i cs)) d → IsClosedBy c d → IsClosed (Contains (take (i + 1) cs)) d
closed_more cs i c lt at d before here b p m k = elim (member_take_more cs i c b lt at m) [
  | inl n ↦ before b p n k
  | inr e ↦ subst (λ (z : Con). IsClosedBy z d) e here p k
]

pub narrowed_constraint : (cs : List Con) (i : ℕ) (c : Con) (d e f : Domains) (r a b : Bool) → i < length cs → c ≡ get_or cs i c → r ≡ (a || b) → Narrowed (IsClosed (Contains cs)) (IsClosed (Contains (take i cs))) d e a → Narrowed (IsClosedBy c) (IsClosedBy c) e f b → Narrowed (IsClosed (Contains cs)) (IsClosed (Contains (take (i + 1) cs))) d f r
narrowed_constraint cs i c d e f r a b lt at is before here =
    let one = narrowed_for (IsClosedBy c) (IsClosed (Contains cs)) (IsClosedBy c) (IsClosedBy c) e f b
    (λ g closed. closed_by_member (Contains cs) g closed c (member_same cs (get_or cs i c) c (sym at) (Contains-get_or cs i c lt))) (λ g h. h) here in
    subst (Narrowed (IsClosed (Contains cs)) (IsClosed (Contains (take (i + 1) cs))) d f) (sym is)
    (narrowed_then (IsClosed (Contains cs)) (IsClosed (Contains (take i cs))) (IsClosedBy c) (IsClosed (Contains (take (i + 1) cs))) d e f a b (closed_more cs i c lt at) before one)

-- every constraint was looked at
pub narrowed_constraints : (cs : List Con) (i : ℕ) (d e : Domains) (b : Bool) → length cs ≤ i → Narrowed (IsClosed (Contains cs)) (IsClosed (Contains (take i cs))) d e b → Narrowed (IsClosed (Contains cs)) (IsClosed (Contains cs)) d e b
narrowed_constraints cs i d e b full n =
    subst (λ (bs : List Con). Narrowed (IsClosed (Contains cs)) (IsClosed (Contains bs)) d e b) (take_all i cs full) n
