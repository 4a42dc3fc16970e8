-- The ids of constraints: their equality, their order, and lists of them that rise.
use Rattle.std.proofs.Common.{◌≡◌, ℕ, ◌<◌, ◌<ℤ◌, true, false, ◌&&◌, List, [], ◌∷◌, ◌++◌, Contains, ℤ, ◌⊎◌, ◌↔◌, inl, inr, refl, sym, ap, ◌∙◌, subst, arith, nat_eq, int_eq, int_lt, eq-eqb, eqb-true, Ordering, Less, Equal, Greater}
use Rattle.std.specs.Prelude.{nat_lt}
use Rattle.std.specs.Ordering.{nat_cmp, int_cmp, ordering_then, MatchOrdering}
use Rattle.std.proofs.lemmas.Cmp.{ranked, int_ranked}
use Rattle.std.proofs.lemmas.Int.{ints}
use Rattle.std.proofs.lemmas.Bool.{or_cases, and_parts, and_from, or_left, or_right, cases_Bool, false≢true, lt-ltb, ltb-true}
use Rattle.std.proofs.lemmas.Bool.Decides.{Decides-int_eq}
use Rattle.std.proofs.lemmas.List.Elements.{All-contains, All-append}
use Rattle.palm_base.specs.Order.{Rises, same_pair, pair_before, same_cid, cid_before}
use Rattle.palm_base.specs.contracts.terms.CidOrd.TheImpl.{cmp-value}
use Rattle.palm_base.specs.declared.terms.Pair.{Pair}
use Rattle.palm_base.specs.declared.terms.Cid.{Cid}
use Rattle.palm_base.specs.declared.terms.Cid.TheVariants.{Decide, Not, User}
use Rattle.palm_base.proofs.cited.Members.{Known, member_nil, member_here, member_there, member_cases, all_members}

-- ---- equality

pub pair_same : (p q : Pair) → same_pair p q ≡ true → p ≡ q
pair_same p q h =
    let b = and_parts (nat_eq p.var q.var) (int_eq p.value q.value) h in
    let e = eqb-true p.var q.var b.0 in
    let f = (Decides-int_eq p.value q.value).0 b.1 in
    λ i. record { var = e i; value = f i }

pub same_pair_itself : (p : Pair) → same_pair p p ≡ true
same_pair_itself p = and_from (nat_eq p.var p.var) (int_eq p.value p.value) (eq-eqb p.var p.var refl) ((Decides-int_eq p.value p.value).1 refl)

pub cid_same : (a b : Cid) → same_cid a b ≡ true → a ≡ b
cid_same (Decide x) (Decide y) h = ap Decide (eqb-true x y h)
cid_same (Not p) (Not q) h = ap Not (pair_same p q h)
cid_same (User m) (User n) h = ap User (eqb-true m n h)
cid_same _ _ h = absurd (false≢true h)

pub same_cid_itself : (a : Cid) → same_cid a a ≡ true
same_cid_itself (Decide x) = eq-eqb x x refl
same_cid_itself (Not p) = same_pair_itself p
same_cid_itself (User n) = eq-eqb n n refl

pub cid_known : (a b : Cid) → Known (a ≡ b)
cid_known a b = elim (cases_Bool (same_cid a b)) [
  | inl t ↦ inl (cid_same a b t)
  | inr f ↦ inr (λ e. false≢true (sym f ∙ subst (λ c. same_cid a c ≡ true) e (same_cid_itself a)))
]

-- ---- order

-- what it means that one pair comes before another
pair_before_cases : (p q : Pair) → pair_before p q ≡ true → (p.var < q.var) ⊎ ((p.var ≡ q.var) × (p.value <ℤ q.value))
pair_before_cases p q h = elim (or_cases (nat_lt p.var q.var) (nat_eq p.var q.var && int_lt p.value q.value) h) [
  | inl t ↦ inl (ltb-true p.var q.var t)
  | inr t ↦ let b = and_parts (nat_eq p.var q.var) (int_lt p.value q.value) t in
      inr (eqb-true p.var q.var b.0, below_of p.value q.value b.1)
]
  where
    below_of : (m n : ℤ) → int_lt m n ≡ true → m <ℤ n
    below_of m n t = grind (arith, ints)

test_below : (m n : ℤ) → m <ℤ n → int_lt m n ≡ true
test_below m n h = grind (arith, ints)

before_by_var : (p q : Pair) → p.var < q.var → pair_before p q ≡ true
before_by_var p q lt = or_left (nat_lt p.var q.var) (nat_eq p.var q.var && int_lt p.value q.value) (lt-ltb p.var q.var lt)

before_by_value : (p q : Pair) → p.var ≡ q.var → p.value <ℤ q.value → pair_before p q ≡ true
before_by_value p q e lt =
    or_right (nat_lt p.var q.var) (nat_eq p.var q.var && int_lt p.value q.value)
    (and_from (nat_eq p.var q.var) (int_lt p.value q.value) (eq-eqb p.var q.var e) (test_below p.value q.value lt))

pair_before_then : (p q r : Pair) → pair_before p q ≡ true → pair_before q r ≡ true → pair_before p r ≡ true
pair_before_then p q r h k = elim (pair_before_cases p q h) [
  | inl a ↦ elim (pair_before_cases q r k) [
    | inl b ↦ before_by_var p r (omega arith)
    | inr b ↦ before_by_var p r (omega (arith, b.0))
  ]
  | inr a ↦ elim (pair_before_cases q r k) [
    | inl b ↦ before_by_var p r (omega (arith, a.0))
    | inr b ↦ before_by_value p r (a.0 ∙ b.0) (omega (arith, ints, a.1, b.1))
  ]
]

pair_not_before : (p : Pair) → pair_before p p ≡ true → ⊥
pair_not_before p h = elim (pair_before_cases p p h) [
  | inl a ↦ omega arith
  | inr b ↦ omega (arith, ints, b.1)
]

nat_order : (m n : ℕ) → (m < n) ⊎ ((m ≡ n) ⊎ (n < m))
nat_order m n = elim (cases_Bool (nat_lt m n)) [
  | inl t ↦ inl (ltb-true m n t)
  | inr f ↦ elim (cases_Bool (nat_lt n m)) [
    | inl t ↦ inr (inr (ltb-true n m t))
    | inr g ↦ inr (inl (neither m n f g))
  ]
]
  where
    neither : (m n : ℕ) → nat_lt m n ≡ false → nat_lt n m ≡ false → m ≡ n
    neither m n f g = grind arith

int_order : (m n : ℤ) → (m <ℤ n) ⊎ ((m ≡ n) ⊎ (n <ℤ m))
int_order m n = elim (cases_Bool (int_lt m n)) [
  | inl t ↦ inl (below_of m n t)
  | inr f ↦ elim (cases_Bool (int_lt n m)) [
    | inl t ↦ inr (inr (below_of n m t))
    | inr g ↦ inr (inl (neither m n f g))
  ]
]
  where
    below_of : (m n : ℤ) → int_lt m n ≡ true → m <ℤ n
    below_of m n t = grind (arith, ints)

    neither : (m n : ℤ) → int_lt m n ≡ false → int_lt n m ≡ false → m ≡ n
    neither m n f g = grind (arith, ints)

pair_order : (p q : Pair) → (pair_before p q ≡ true) ⊎ ((p ≡ q) ⊎ (pair_before q p ≡ true))
pair_order p q = elim (nat_order p.var q.var) [
  | inl a ↦ inl (before_by_var p q a)
  | inr r ↦ elim r [
    | inr a ↦ inr (inr (before_by_var q p a))
    | inl e ↦ elim (int_order p.value q.value) [
      | inl b ↦ inl (before_by_value p q e b)
      | inr t ↦ elim t [
        | inl f ↦ inr (inl (λ i. record { var = e i; value = f i }))
        | inr b ↦ inr (inr (before_by_value q p (sym e) b))
      ]
    ]
  ]
]

nat_before_then : (l m n : ℕ) → nat_lt l m ≡ true → nat_lt m n ≡ true → nat_lt l n ≡ true
nat_before_then l m n h k = let a = ltb-true l m h in let b = ltb-true m n k in lt-ltb l n (omega (arith, a, b))

nat_not_before : (n : ℕ) → nat_lt n n ≡ true → ⊥
nat_not_before n h = let a = ltb-true n n h in omega (arith, a)

pub before_then : (a b c : Cid) → cid_before a b ≡ true → cid_before b c ≡ true → cid_before a c ≡ true
before_then (Decide x) (Decide y) (Decide z) h k = nat_before_then x y z h k
before_then (Decide x) (Decide y) (Not r) h k = refl
before_then (Decide x) (Decide y) (User n) h k = refl
before_then (Decide x) (Not q) (Decide z) h k = absurd (false≢true k)
before_then (Decide x) (Not q) (Not r) h k = refl
before_then (Decide x) (Not q) (User n) h k = refl
before_then (Decide x) (User m) (Decide z) h k = absurd (false≢true k)
before_then (Decide x) (User m) (Not r) h k = refl
before_then (Decide x) (User m) (User n) h k = refl
before_then (Not p) (Decide y) (Decide z) h k = absurd (false≢true h)
before_then (Not p) (Decide y) (Not r) h k = absurd (false≢true h)
before_then (Not p) (Decide y) (User n) h k = refl
before_then (Not p) (Not q) (Decide z) h k = absurd (false≢true k)
before_then (Not p) (Not q) (Not r) h k = pair_before_then p q r h k
before_then (Not p) (Not q) (User n) h k = refl
before_then (Not p) (User m) (Decide z) h k = absurd (false≢true k)
before_then (Not p) (User m) (Not r) h k = absurd (false≢true k)
before_then (Not p) (User m) (User n) h k = refl
before_then (User l) (Decide y) (Decide z) h k = absurd (false≢true h)
before_then (User l) (Decide y) (Not r) h k = absurd (false≢true h)
before_then (User l) (Decide y) (User n) h k = absurd (false≢true h)
before_then (User l) (Not q) (Decide z) h k = absurd (false≢true h)
before_then (User l) (Not q) (Not r) h k = absurd (false≢true h)
before_then (User l) (Not q) (User n) h k = absurd (false≢true h)
before_then (User l) (User m) (Decide z) h k = absurd (false≢true k)
before_then (User l) (User m) (Not r) h k = absurd (false≢true k)
before_then (User l) (User m) (User n) h k = nat_before_then l m n h k

pub not_before_itself : (a : Cid) → cid_before a a ≡ true → ⊥
not_before_itself (Decide x) h = nat_not_before x h
not_before_itself (Not p) h = pair_not_before p h
not_before_itself (User n) h = nat_not_before n h

nat_tests : (m n : ℕ) → (nat_lt m n ≡ true) ⊎ ((m ≡ n) ⊎ (nat_lt n m ≡ true))
nat_tests m n = elim (nat_order m n) [
  | inl a ↦ inl (lt-ltb m n a)
  | inr r ↦ elim r [ inl e ↦ inr (inl e) | inr a ↦ inr (inr (lt-ltb n m a)) ]
]

wrap : {X : Type 0} (f : X → Cid) (x y : X) (P Q : Type 0) → P ⊎ ((x ≡ y) ⊎ Q) → P ⊎ ((f x ≡ f y) ⊎ Q)
wrap f x y P Q r = elim r [
  | inl p ↦ inl p
  | inr s ↦ elim s [ inl e ↦ inr (inl (ap f e)) | inr q ↦ inr (inr q) ]
]

pub cid_order : (a b : Cid) → (cid_before a b ≡ true) ⊎ ((a ≡ b) ⊎ (cid_before b a ≡ true))
cid_order (Decide x) (Decide y) = wrap Decide x y (nat_lt x y ≡ true) (nat_lt y x ≡ true) (nat_tests x y)
cid_order (Decide x) (Not q) = inl refl
cid_order (Decide x) (User n) = inl refl
cid_order (Not p) (Decide y) = inr (inr refl)
cid_order (Not p) (Not q) = wrap Not p q (pair_before p q ≡ true) (pair_before q p ≡ true) (pair_order p q)
cid_order (Not p) (User n) = inl refl
cid_order (User m) (Decide y) = inr (inr refl)
cid_order (User m) (Not q) = inr (inr refl)
cid_order (User m) (User n) = wrap User m n (nat_lt m n ≡ true) (nat_lt n m ≡ true) (nat_tests m n)

-- ---- what a comparison of two ids tells

number_ranks : (f : ℕ → Cid) (m n : ℕ) (o : Ordering) → MatchOrdering o (m < n) (m ≡ n) (n < m) → MatchOrdering o (nat_lt m n ≡ true) (f m ≡ f n) (nat_lt n m ≡ true)
number_ranks f m n Less h = lt-ltb m n h
number_ranks f m n Equal h = ap f h
number_ranks f m n Greater h = lt-ltb n m h

pair_ranks : (p q : Pair) (o s : Ordering) → MatchOrdering o (p.var < q.var) (p.var ≡ q.var) (q.var < p.var) → MatchOrdering s (p.value <ℤ q.value) (p.value ≡ q.value) (q.value <ℤ p.value)
    → MatchOrdering (ordering_then o s) (pair_before p q ≡ true) (Not p ≡ Not q) (pair_before q p ≡ true)
pair_ranks p q Less s h k = before_by_var p q h
pair_ranks p q Equal Less h k = before_by_value p q h k
pair_ranks p q Equal Equal h k = λ i. Not (record { var = h i; value = k i })
pair_ranks p q Equal Greater h k = before_by_value q p (sym h) k
pair_ranks p q Greater s h k = before_by_var q p h

-- what compares ids by their kinds and then by their parts
pub record ComparesParts (cmp : Cid → Cid → Ordering) : Type 0 where
  pub decisions : (x y : ℕ) → cmp (Decide x) (Decide y) ≡ nat_cmp x y
  pub negations : (p q : Pair) → cmp (Not p) (Not q) ≡ ordering_then (nat_cmp p.var q.var) (int_cmp p.value q.value)
  pub users : (m n : ℕ) → cmp (User m) (User n) ≡ nat_cmp m n
  pub decision_negation : (x : ℕ) (q : Pair) → cmp (Decide x) (Not q) ≡ Less
  pub decision_user : (x n : ℕ) → cmp (Decide x) (User n) ≡ Less
  pub negation_decision : (p : Pair) (y : ℕ) → cmp (Not p) (Decide y) ≡ Greater
  pub negation_user : (p : Pair) (n : ℕ) → cmp (Not p) (User n) ≡ Less
  pub user_decision : (m y : ℕ) → cmp (User m) (Decide y) ≡ Greater
  pub user_negation : (m : ℕ) (q : Pair) → cmp (User m) (Not q) ≡ Greater

-- a comparison that puts ids in their order
abbrev pub Ranks : (Cid → Cid → Ordering) → Type 0
Ranks cmp = (a b : Cid) → MatchOrdering (cmp a b) (cid_before a b ≡ true) (a ≡ b) (cid_before b a ≡ true)

pub ranks : (cmp : Cid → Cid → Ordering) → ComparesParts cmp → Ranks cmp
ranks cmp c (Decide x) (Decide y) = rw (c.decisions x y) (number_ranks Decide x y (nat_cmp x y) (ranked x y (nat_cmp x y) refl))
ranks cmp c (Decide x) (Not q) = rw (c.decision_negation x q) refl
ranks cmp c (Decide x) (User n) = rw (c.decision_user x n) refl
ranks cmp c (Not p) (Decide y) = rw (c.negation_decision p y) refl
ranks cmp c (Not p) (Not q) =
    rw (c.negations p q) (pair_ranks p q (nat_cmp p.var q.var) (int_cmp p.value q.value) (ranked p.var q.var (nat_cmp p.var q.var) refl) (int_ranked p.value q.value (int_cmp p.value q.value) refl))
ranks cmp c (Not p) (User n) = rw (c.negation_user p n) refl
ranks cmp c (User m) (Decide y) = rw (c.user_decision m y) refl
ranks cmp c (User m) (Not q) = rw (c.user_negation m q) refl
ranks cmp c (User m) (User n) = rw (c.users m n) (number_ranks User m n (nat_cmp m n) (ranked m n (nat_cmp m n) refl))

-- as the order of the ids does
pub cid_ranks : Ranks cmp-value.it
cid_ranks = ranks cmp-value.it (record {
  decisions = λ x y. refl;
  negations = λ p q. refl;
  users = λ m n. refl;
  decision_negation = λ x q. refl;
  decision_user = λ x n. refl;
  negation_decision = λ p y. refl;
  negation_user = λ p n. refl;
  user_decision = λ m y. refl;
  user_negation = λ m q. refl;
})

-- so it answers `Less` exactly where the first id comes before the second
pub less_before : (cmp : Cid → Cid → Ordering) → Ranks cmp → (a b : Cid) → (cmp a b ≡ Less) ↔ (cid_before a b ≡ true)
less_before cmp rank a b = (
  λ e. subst (λ o. MatchOrdering o (cid_before a b ≡ true) (a ≡ b) (cid_before b a ≡ true)) e (rank a b),
  λ h. is_less a b (cmp a b) h (rank a b),
)
  where
    is_less : (a b : Cid) (o : Ordering) → cid_before a b ≡ true → MatchOrdering o (cid_before a b ≡ true) (a ≡ b) (cid_before b a ≡ true) → o ≡ Less
    is_less a b Less h r = refl
    is_less a b Equal h r = absurd (not_before_itself b (subst (λ c. cid_before c b ≡ true) r h))
    is_less a b Greater h r = absurd (not_before_itself a (before_then a b a h r))

-- ---- rising lists

-- two lists that rise, all of one before all of the other
pub rises_append : (xs ys : List Cid) → Rises xs → Rises ys → ((x y : Cid) → Contains xs x → Contains ys y → cid_before x y ≡ true) → Rises (xs ++ ys)
rises_append [] ys rx ry all = ry
rises_append (x ∷ xs) ys rx ry all = (
  All-append (λ d. cid_before x d ≡ true) xs ys rx.0 (all_members (λ d. cid_before x d ≡ true) ys (λ y m. all x y (member_here x xs) m)),
  rises_append xs ys rx.1 ry (λ z y m n. all z y (member_there x xs z m) n),
)

-- lists of ids that rise and hold the same ids are one
first_of_rising : (x : Cid) (xs : List Cid) → Rises (x ∷ xs) → (y : Cid) → Contains (x ∷ xs) y → (x ≡ y) ⊎ (cid_before x y ≡ true)
first_of_rising x xs rises y m = elim (member_cases x xs y m) [
  | inl e ↦ inl e
  | inr k ↦ inr (All-contains (λ d. cid_before x d ≡ true) xs y rises.0 k)
]

heads_same : (x : Cid) (xs : List Cid) (y : Cid) (ys : List Cid) → Rises (x ∷ xs) → Rises (y ∷ ys) → Contains (x ∷ xs) y → Contains (y ∷ ys) x → x ≡ y
heads_same x xs y ys rx ry my mx = elim (first_of_rising x xs rx y my) [
  | inl e ↦ e
  | inr h ↦ elim (first_of_rising y ys ry x mx) [
    | inl e ↦ sym e
    | inr k ↦ absurd (not_before_itself x (before_then x y x h k))
  ]
]

tails_same : (x : Cid) (xs ys : List Cid) → Rises (x ∷ xs) → ((c : Cid) → Contains (x ∷ xs) c → Contains (x ∷ ys) c) → (c : Cid) → Contains xs c → Contains ys c
tails_same x xs ys rises sub c m = elim (member_cases x ys c (sub c (member_there x xs c m))) [
  | inr k ↦ k
  | inl e ↦ absurd (not_before_itself x (subst (λ d. cid_before x d ≡ true) (sym e) (All-contains (λ d. cid_before x d ≡ true) xs c rises.0 m)))
]

pub rising_same : (xs ys : List Cid) → Rises xs → Rises ys → ((c : Cid) → Contains xs c → Contains ys c) → ((c : Cid) → Contains ys c → Contains xs c) → xs ≡ ys
rising_same [] [] rx ry sub sup = refl
rising_same [] (y ∷ ys) rx ry sub sup = absurd (member_nil y (sup y (member_here y ys)))
rising_same (x ∷ xs) [] rx ry sub sup = absurd (member_nil x (sub x (member_here x xs)))
rising_same (x ∷ xs) (y ∷ ys) rx ry sub sup =
    let e = heads_same x xs y ys rx ry (sup y (member_here y ys)) (sub x (member_here x xs)) in
    let ry' : Rises (x ∷ ys) = subst (λ z. Rises (z ∷ ys)) (sym e) ry in
    let sub' : (c : Cid) → Contains (x ∷ xs) c → Contains (x ∷ ys) c = λ c m. subst (λ z. Contains (z ∷ ys) c) (sym e) (sub c m) in
    let sup' : (c : Cid) → Contains (x ∷ ys) c → Contains (x ∷ xs) c = λ c m. sup c (subst (λ z. Contains (z ∷ ys) c) e m) in
    let t : xs ≡ ys = rising_same xs ys rx.1 ry'.1 (tails_same x xs ys rx sub') (tails_same x ys xs ry' sup') in
    λ i. e i ∷ t i
