-- Trying: an assignment of the open variables is completed one variable at a time, and this decides support.
use Rattle.std.proofs.Common.{◌≡◌, ℕ, cond, eqb, List, [], ◌∷◌, Contains, ℤ, inl, inr, refl, sym, ap, ◌∙◌, subst, eq-eqb, ne_eqb}
use Rattle.palm_base.proofs.cited.Members.{member_nil, member_here, member_there, member_cases, member_tail, Known, known_like, nat_known, int_known, member_known, any_known}
use Rattle.palm_model.specs.Domains.{Domains, Assignment, Has, IsInside, values_of}
use Rattle.palm_model.specs.Part.{scope_of, Holds}
use Rattle.palm_model.specs.Support.{HasSupport}
use Rattle.palm_model.specs.Trial.{IsCompleted}
use Rattle.palm_model.specs.declared.part.Part.{Part}
use Rattle.palm_model.proofs.cited.Assignments.{holds_agree, holds_known}

-- the assignment that gives y the value w
abbrev pub put : Assignment → ℕ → ℤ → Assignment
put a y w x = cond (eqb x y) w (a x)

pub put_same : (a : Assignment) (y : ℕ) (w : ℤ) → put a y w y ≡ w
put_same a y w = ap (λ b. cond b w (a y)) (eq-eqb y y refl)

pub put_other : (a : Assignment) (y : ℕ) (w : ℤ) (x : ℕ) → (x ≡ y → ⊥) → put a y w x ≡ a x
put_other a y w x ne = ap (λ b. cond b w (a x)) (ne_eqb x y ne)

-- b gives y the value w, and the other variables what a gives them
pub record IsPut (a : Assignment) (y : ℕ) (w : ℤ) (b : Assignment) : Type 0 where
  pub here : b y ≡ w
  pub others : (x : ℕ) → (x ≡ y → ⊥) → b x ≡ a x

pub put_is : (a : Assignment) (y : ℕ) (w : ℤ) → IsPut a y w (put a y w)
put_is a y w = record { here = put_same a y w; others = put_other a y w }

-- ---- with no open variable

pub completed_none : (d : Domains) (p : Part) (x : ℕ) (a : Assignment) → Holds p a → IsCompleted d p x [] a
completed_none d p x a h = record {
  assignment = a;
  fixed = refl;
  same = λ y n. refl;
  within = λ y m n. absurd (member_nil y m);
  holds = h;
}

pub holds_completed : (d : Domains) (p : Part) (x : ℕ) (a : Assignment) → IsCompleted d p x [] a → Holds p a
holds_completed d p x a c = holds_agree p c.assignment a (λ y m. c.same y (λ n. member_nil y n)) c.holds

-- ---- what an assignment gives to open variables other than x does not matter

pub completed_agree : (d : Domains) (p : Part) (x : ℕ) (ys : List ℕ) (a b : Assignment) → a x ≡ b x → ((y : ℕ) → (Contains ys y → ⊥) → a y ≡ b y) → IsCompleted d p x ys a → IsCompleted d p x ys b
completed_agree d p x ys a b at others c = record {
  assignment = c.assignment;
  fixed = c.fixed ∙ at;
  same = λ y n. c.same y n ∙ others y n;
  within = c.within;
  holds = c.holds;
}

-- ---- x itself is not tried

pub completed_skip : (d : Domains) (p : Part) (x y : ℕ) (ys : List ℕ) (a : Assignment) → y ≡ x → IsCompleted d p x ys a → IsCompleted d p x (y ∷ ys) a
completed_skip d p x y ys a e c = record {
  assignment = c.assignment;
  fixed = c.fixed;
  same = λ z n. c.same z (λ m. n (member_there y ys z m));
  within = λ z m n. c.within z (member_tail y ys z (λ s. n (sym s ∙ e)) m) n;
  holds = c.holds;
}

skip_same : (x y : ℕ) (ys : List ℕ) (a b : Assignment) → y ≡ x → b x ≡ a x → ((z : ℕ) → (Contains (y ∷ ys) z → ⊥) → b z ≡ a z) → (z : ℕ) → (Contains ys z → ⊥) → b z ≡ a z
skip_same x y ys a b e fixed same z n = elim (nat_known z x) [
  | inl s ↦ subst (λ t. b t ≡ a t) (sym s) fixed
  | inr ne ↦ same z (λ m. n (member_tail y ys z (λ t. ne (sym t ∙ e)) m))
]

pub skip_completed : (d : Domains) (p : Part) (x y : ℕ) (ys : List ℕ) (a : Assignment) → y ≡ x → IsCompleted d p x (y ∷ ys) a → IsCompleted d p x ys a
skip_completed d p x y ys a e c = record {
  assignment = c.assignment;
  fixed = c.fixed;
  same = skip_same x y ys a c.assignment e c.fixed c.same;
  within = λ z m n. c.within z (member_there y ys z m) n;
  holds = c.holds;
}

-- ---- another variable takes a value of its domain

put_within : (d : Domains) (p : Part) (x y : ℕ) (ys : List ℕ) (a b : Assignment) (w : ℤ) → IsPut a y w b → Has d y w → (c : IsCompleted d p x ys b) → (z : ℕ) → Contains (y ∷ ys) z → (z ≡ x → ⊥) → Has d z (c.assignment z)
put_within d p x y ys a b w is has c z m n = elim (member_known nat_known ys z) [
  | inl k ↦ c.within z k n
  | inr k ↦ elim (member_cases y ys z m) [
    | inl e ↦ subst (λ t. Has d t (c.assignment t)) e
        (subst (λ v. Has d y v) (sym (c.same y (λ t. k (subst (λ u. Contains ys u) e t)) ∙ is.here)) has)
    | inr t ↦ absurd (k t)
  ]
]

pub completed_put : (d : Domains) (p : Part) (x y : ℕ) (ys : List ℕ) (a b : Assignment) (w : ℤ) → (y ≡ x → ⊥) → IsPut a y w b → Has d y w → IsCompleted d p x ys b → IsCompleted d p x (y ∷ ys) a
completed_put d p x y ys a b w ne is has c = record {
  assignment = c.assignment;
  fixed = c.fixed ∙ is.others x (λ e. ne (sym e));
  same = λ z n. c.same z (λ m. n (member_there y ys z m)) ∙ is.others z (λ e. n (subst (λ t. Contains (y ∷ ys) t) (sym e) (member_here y ys)));
  within = put_within d p x y ys a b w is has c;
  holds = c.holds;
}

-- the value that a completed assignment gives y
put_same_at : (x y : ℕ) (ys : List ℕ) (a b f : Assignment) (w : ℤ) → f y ≡ w → IsPut a y w b → ((z : ℕ) → (Contains (y ∷ ys) z → ⊥) → f z ≡ a z) → (z : ℕ) → (Contains ys z → ⊥) → f z ≡ b z
put_same_at x y ys a b f w at is same z n = elim (nat_known z y) [
  | inl e ↦ subst (λ t. f t ≡ b t) (sym e) (at ∙ sym is.here)
  | inr ne ↦ same z (λ m. n (member_tail y ys z (λ t. ne (sym t)) m)) ∙ sym (is.others z ne)
]

pub put_completed : (d : Domains) (p : Part) (x y : ℕ) (ys : List ℕ) (a b : Assignment) (w : ℤ) → (y ≡ x → ⊥) → IsPut a y w b → (c : IsCompleted d p x (y ∷ ys) a) → c.assignment y ≡ w → IsCompleted d p x ys b
put_completed d p x y ys a b w ne is c at = record {
  assignment = c.assignment;
  fixed = c.fixed ∙ sym (is.others x (λ e. ne (sym e)));
  same = put_same_at x y ys a b c.assignment w at is c.same;
  within = λ z m n. c.within z (member_there y ys z m) n;
  holds = c.holds;
}

-- some value of y's domain is tried with success, where the whole is completed
pub completed_value : (d : Domains) (p : Part) (x y : ℕ) (ys : List ℕ) (a : Assignment) → (y ≡ x → ⊥) → IsCompleted d p x (y ∷ ys) a → (w : ℤ) × Has d y w × ((b : Assignment) → IsPut a y w b → IsCompleted d p x ys b)
completed_value d p x y ys a ne c =
    (c.assignment y, c.within y (member_here y ys) ne, λ b is. put_completed d p x y ys a b (c.assignment y) ne is c refl)

-- ---- so it is known

pub completed_known : (d : Domains) (p : Part) (x : ℕ) (ys : List ℕ) (a : Assignment) → Known (IsCompleted d p x ys a)
completed_known d p x [] a = known_like (completed_none d p x a) (holds_completed d p x a) (holds_known p a)
completed_known d p x (y ∷ ys) a = elim (nat_known y x) [
  | inl e ↦ known_like (completed_skip d p x y ys a e) (skip_completed d p x y ys a e) (completed_known d p x ys a)
  | inr ne ↦ elim (any_known (λ w. IsCompleted d p x ys (put a y w)) (values_of d y) (λ w m. completed_known d p x ys (put a y w))) [
    | inl r ↦ inl (completed_put d p x y ys a (put a y r.0) r.0 ne (put_is a y r.0) r.1 r.2)
    | inr none ↦ inr (λ c. let r = completed_value d p x y ys a ne c in none r.0 r.1 (r.2 (put a y r.0) (put_is a y r.0)))
  ]
]

-- ---- and it decides support

pub support_completed : (d : Domains) (p : Part) (x : ℕ) (v : ℤ) (a : Assignment) → a x ≡ v → (Contains (scope_of p) x → Has d x v) → IsCompleted d p x (scope_of p) a → HasSupport d p x v
support_completed d p x v a at has c = record {
  assignment = c.assignment;
  within = λ y m. elim (nat_known y x) [
    | inl e ↦ subst (λ t. Has d t (c.assignment t)) (sym e) (subst (λ w. Has d x w) (sym (c.fixed ∙ at)) (has (subst (λ t. Contains (scope_of p) t) e m)))
    | inr ne ↦ c.within y m ne
  ];
  gives = c.fixed ∙ at;
  holds = c.holds;
}

-- v where the fact holds, and w where it does not
choice : {P : Type 0} → Known P → ℤ → ℤ → ℤ
choice (inl p) v w = v
choice (inr n) v w = w

choice_in : {P : Type 0} (k : Known P) (v w : ℤ) → P → choice k v w ≡ v
unfolding choice
choice_in (inl p) v w q = refl
choice_in (inr n) v w q = absurd (n q)

choice_out : {P : Type 0} (k : Known P) (v w : ℤ) → (P → ⊥) → choice k v w ≡ w
unfolding choice
choice_out (inl p) v w q = absurd (q p)
choice_out (inr n) v w q = refl

-- b on the scope, and a elsewhere
mixed : List ℕ → Assignment → Assignment → Assignment
mixed scope b a y = choice (member_known nat_known scope y) (b y) (a y)

mixed_in : (scope : List ℕ) (b a : Assignment) (y : ℕ) → Contains scope y → mixed scope b a y ≡ b y
unfolding mixed
mixed_in scope b a y m = choice_in (member_known nat_known scope y) (b y) (a y) m

mixed_out : (scope : List ℕ) (b a : Assignment) (y : ℕ) → (Contains scope y → ⊥) → mixed scope b a y ≡ a y
unfolding mixed
mixed_out scope b a y n = choice_out (member_known nat_known scope y) (b y) (a y) n

mixed_fixed : (scope : List ℕ) (b a : Assignment) (x : ℕ) → b x ≡ a x → mixed scope b a x ≡ a x
mixed_fixed scope b a x e = elim (member_known nat_known scope x) [
  | inl m ↦ mixed_in scope b a x m ∙ e
  | inr n ↦ mixed_out scope b a x n
]

pub completed_support : (d : Domains) (p : Part) (x : ℕ) (v : ℤ) (a : Assignment) → a x ≡ v → HasSupport d p x v → IsCompleted d p x (scope_of p) a
completed_support d p x v a at s = record {
  assignment = mixed (scope_of p) s.assignment a;
  fixed = mixed_fixed (scope_of p) s.assignment a x (s.gives ∙ sym at);
  same = λ y n. mixed_out (scope_of p) s.assignment a y n;
  within = λ y m n. subst (λ w. Has d y w) (sym (mixed_in (scope_of p) s.assignment a y m)) (s.within y m);
  holds = holds_agree p s.assignment (mixed (scope_of p) s.assignment a) (λ y m. sym (mixed_in (scope_of p) s.assignment a y m)) s.holds;
}

-- a supported value of a variable of the scope is one of its values
pub support_has : (d : Domains) (p : Part) (x : ℕ) (v : ℤ) → Contains (scope_of p) x → HasSupport d p x v → Has d x v
support_has d p x v m s = subst (λ w. Has d x w) s.gives (s.within x m)

-- support stays where the domains grow
pub support_grows : (d e : Domains) (p : Part) (x : ℕ) (v : ℤ) → IsInside d e → HasSupport d p x v → HasSupport e p x v
support_grows d e p x v inside s = record {
  assignment = s.assignment;
  within = λ y m. inside y (s.assignment y) (s.within y m);
  gives = s.gives;
  holds = s.holds;
}

-- the assignment that gives every variable the value
all_at : ℤ → Assignment
all_at v y = v

support_known_at : (d : Domains) (p : Part) (x : ℕ) (v : ℤ) → (Contains (scope_of p) x → Has d x v) → Known (HasSupport d p x v)
unfolding all_at
support_known_at d p x v has =
    known_like (support_completed d p x v (all_at v) refl has) (completed_support d p x v (all_at v) refl) (completed_known d p x (scope_of p) (all_at v))

-- a value has support in a part, or it has none
pub support_known : (d : Domains) (p : Part) (x : ℕ) (v : ℤ) → Known (HasSupport d p x v)
support_known d p x v = elim (member_known nat_known (scope_of p) x) [
  | inl m ↦ elim (member_known int_known (values_of d x) v) [
    | inl h ↦ support_known_at d p x v (λ k. h)
    | inr n ↦ inr (λ s. n (support_has d p x v m s))
  ]
  | inr n ↦ support_known_at d p x v (λ k. absurd (n k))
]
