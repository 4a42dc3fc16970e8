-- The arithmetic of the measure: sums of numbers below a base, weighed by powers of the base.
use Rattle.std.proofs.Common.{◌≡◌, ℕ, zero, suc, ◌+◌, ◌-◌, ◌*◌, ◌^◌, ◌<◌, ◌≤◌, Bool, true, false, not, List, [], ◌∷◌, length, filter, Contains, inl, inr, refl, sym, ap, ◌∙◌, subst, arith, nat_eq, eqb-true, eq-eqb}
use Rattle.std.proofs.lemmas.Bool.{cases_Bool}
use Rattle.std.proofs.Math.Nat.{pow-succ', pow-zero}
use Rattle.std.proofs.Math.Numerals.{add-one}
use Rattle.std.proofs.lemmas.Nat.{mul-le}
use Rattle.std.proofs.lemmas.List.Elements.{All-contains}
use Rattle.palm_base.specs.declared.terms.Cid.{Cid}
use Rattle.palm_base.proofs.cited.Members.{nat_known, member_nil, member_here, member_there, member_cases, member_same, member_filter}
use Rattle.palm_model.specs.Constraint.{Distinct}
use Rattle.palm_base.specs.Order.{Rises, cid_before, same_cid}
use Rattle.palm_base.proofs.cited.CidOrder.{same_cid_itself, cid_same, not_before_itself}

-- ---- weighed sums

-- the numbers up to place k, each times the power of the base that is left
abbrev pub weighed_sum : (ℕ → ℕ) → ℕ → ℕ → ℕ → ℕ
weighed_sum f base n zero = f zero * base ^ n
weighed_sum f base n (suc k) = weighed_sum f base n k + f (suc k) * base ^ (n - suc k)

minus_zero : (n : ℕ) → n - 0 ≡ n
minus_zero n = omega arith

pow_next : (base n k : ℕ) → k < n → base ^ (n - k) ≡ base * base ^ (n - suc k)
pow_next base n k lt =
    let e : n - k ≡ suc (n - suc k) = omega arith in
    ap (λ m. base ^ m) e ∙ pow-succ' base (n - suc k)

-- numbers below the base weigh less than the next power
pub weighed_below : (f : ℕ → ℕ) (top n k : ℕ) → ((i : ℕ) → f i ≤ top) → k ≤ n → weighed_sum f (top + 1) n k + (top + 1) ^ (n - k) ≤ (top + 1) ^ (n + 1)
weighed_below f top n zero few le =
    let b = (top + 1) ^ n in
    let k = mul-le (f 0) b top b (few 0) (omega arith) in
    let e : (top + 1) ^ (n + 1) ≡ (top + 1) * b = ap (λ m. (top + 1) ^ m) (add-one n) ∙ pow-succ' (top + 1) n in
    let d : (top + 1) * b ≡ top * b + b = omega arith in
    let z : (top + 1) ^ (n - 0) ≡ b = ap (λ m. (top + 1) ^ m) (minus_zero n) in
    omega (arith, k, e, d, z)
weighed_below f top n (suc k) few le =
    let b = (top + 1) ^ (n - suc k) in
    let rest = weighed_below f top n k few (omega arith) in
    let e = pow_next (top + 1) n k (omega arith) in
    let m = mul-le (f (suc k)) b top b (few (suc k)) (omega arith) in
    let d : (top + 1) * b ≡ top * b + b = omega arith in
    omega (arith, rest, e, m, d)

-- greater numbers weigh more
pub weighed_more : (f g : ℕ → ℕ) (base n k : ℕ) → ((i : ℕ) → i ≤ k → f i ≤ g i) → weighed_sum f base n k ≤ weighed_sum g base n k
weighed_more f g base n zero more = mul-le (f 0) (base ^ n) (g 0) (base ^ n) (more 0 (omega arith)) (omega arith)
weighed_more f g base n (suc k) more =
    let rest = weighed_more f g base n k (λ i le. more i (omega arith)) in
    let m = mul-le (f (suc k)) (base ^ (n - suc k)) (g (suc k)) (base ^ (n - suc k)) (more (suc k) (omega arith)) (omega arith) in
    omega (arith, rest, m)

-- one more at place j weighs more than all that may be lost behind it
rise_at : (f g : ℕ → ℕ) (base n j : ℕ) → ((i : ℕ) → i < j → f i ≤ g i) → f j + 1 ≤ g j → weighed_sum f base n j + base ^ (n - j) ≤ weighed_sum g base n j
rise_at f g base n zero less more =
    let b = base ^ n in
    let m = mul-le (f 0 + 1) b (g 0) b more (omega arith) in
    let d : (f 0 + 1) * b ≡ f 0 * b + b = omega arith in
    let z : base ^ (n - 0) ≡ b = ap (λ k. base ^ k) (minus_zero n) in
    omega (arith, m, d, z)
rise_at f g base n (suc j) less more =
    let b = base ^ (n - suc j) in
    let rest = weighed_more f g base n j (λ i le. less i (omega arith)) in
    let m = mul-le (f (suc j) + 1) b (g (suc j)) b more (omega arith) in
    let d : (f (suc j) + 1) * b ≡ f (suc j) * b + b = omega arith in
    omega (arith, rest, m, d)

rise_after : (f g : ℕ → ℕ) (top n j more : ℕ) → j + more ≤ n → ((i : ℕ) → f i ≤ top) → ((i : ℕ) → i < j → f i ≤ g i) → f j + 1 ≤ g j
    → weighed_sum f (top + 1) n (j + more) + (top + 1) ^ (n - (j + more)) ≤ weighed_sum g (top + 1) n (j + more)
rise_after f g top n j zero le few less one = subst (λ k. weighed_sum f (top + 1) n k + (top + 1) ^ (n - k) ≤ weighed_sum g (top + 1) n k) (plus_zero j) (rise_at f g (top + 1) n j less one)
  where
    plus_zero : (j : ℕ) → j ≡ j + 0
    plus_zero j = omega arith
rise_after f g top n j (suc more) le few less one =
    let k = j + more in
    let b = (top + 1) ^ (n - suc k) in
    let rest = rise_after f g top n j more (omega arith) few less one in
    let e = pow_next (top + 1) n k (omega arith) in
    let m = mul-le (f (suc k)) b top b (few (suc k)) (omega arith) in
    let d : (top + 1) * b ≡ top * b + b = omega arith in
    let here : weighed_sum f (top + 1) n (suc k) + b ≤ weighed_sum g (top + 1) n (suc k) = omega (arith, rest, e, m, d) in
    subst (λ l. weighed_sum f (top + 1) n l + (top + 1) ^ (n - l) ≤ weighed_sum g (top + 1) n l) (plus_suc j more) here
  where
    plus_suc : (j more : ℕ) → suc (j + more) ≡ j + suc more
    plus_suc j more = omega arith

pub weighed_rises : (f g : ℕ → ℕ) (top n j : ℕ) → j ≤ n → ((i : ℕ) → f i ≤ top) → ((i : ℕ) → i < j → f i ≤ g i) → f j + 1 ≤ g j → weighed_sum f (top + 1) n n + 1 ≤ weighed_sum g (top + 1) n n
weighed_rises f g top n j le few less one =
    let r = rise_after f g top n j (n - j) (omega arith) few less one in
    let e : j + (n - j) ≡ n = omega arith in
    let s = subst (λ k. weighed_sum f (top + 1) n k + (top + 1) ^ (n - k) ≤ weighed_sum g (top + 1) n k) e r in
    let z : (top + 1) ^ (n - n) ≡ 1 = ap (λ m. (top + 1) ^ m) (minus_self n) ∙ pow-zero (top + 1) in
    omega (arith, s, z)
  where
    minus_self : (n : ℕ) → n - n ≡ 0
    minus_self n = omega arith

-- ---- turns by undoings

-- at most n more decisions than undoings, and fewer undoings than the bound
pub turns_few : (n bound undone decided : ℕ) → undone < bound → decided ≤ n + undone → (n ≡ 0 → undone ≡ 0) → decided + undone < (n + 1) * bound
turns_few zero bound undone decided lt le none = let e = none refl in let d : (0 + 1) * bound ≡ bound = omega arith in omega (arith, e, d)
turns_few (suc n) bound undone decided lt le none =
    let m = mul-le n 1 n bound (omega arith) (omega arith) in
    let d : (suc n + 1) * bound ≡ n * bound + bound + bound = omega arith in
    let o : n * 1 ≡ n = omega arith in
    omega (arith, m, d, o)

-- ---- lists that are not longer than others

filter_short : {X : Type 0} (p : X → Bool) (xs : List X) → length (filter p xs) ≤ length xs
filter_short p [] = omega arith
filter_short p (x ∷ xs) = elim (cases_Bool (p x)) [
  | inl t ↦ rw t (let k = filter_short p xs in omega (arith, k))
  | inr f ↦ rw f (let k = filter_short p xs in omega (arith, k))
]

filter_shorter : {X : Type 0} (p : X → Bool) (xs : List X) (x : X) → Contains xs x → p x ≡ false → length (filter p xs) < length xs
filter_shorter p [] x m f = absurd (member_nil x m)
filter_shorter p (y ∷ xs) x m f = elim (member_cases y xs x m) [
  | inl e ↦ let g : p y ≡ false = ap p e ∙ f in rw g (let k = filter_short p xs in omega (arith, k))
  | inr n ↦ elim (cases_Bool (p y)) [
    | inl t ↦ rw t (let k = filter_shorter p xs x n f in omega (arith, k))
    | inr g ↦ rw g (let k = filter_shorter p xs x n f in omega (arith, k))
  ]
]

-- ids that rise and are among others are not more than these
pub rising_short : (xs : List Cid) → Rises xs → (ys : List Cid) → ((c : Cid) → Contains xs c → Contains ys c) → length xs ≤ length ys
rising_short [] rises ys sub = omega arith
rising_short (x ∷ xs) rises ys sub =
    let others = filter (λ c. not (same_cid c x)) ys in
    let fewer = filter_shorter (λ c. not (same_cid c x)) ys x (sub x (member_here x xs)) (ap not (same_cid_itself x)) in
    let rest = rising_short xs rises.1 others (λ c m. member_filter (λ d. not (same_cid d x)) ys c (sub c (member_there x xs c m)) (apart x xs rises c m)) in
    omega (arith, fewer, rest)
  where
    apart : (x : Cid) (xs : List Cid) → Rises (x ∷ xs) → (c : Cid) → Contains xs c → not (same_cid c x) ≡ true
    apart x xs rises c m = elim (cases_Bool (same_cid c x)) [
      | inl t ↦ absurd (not_before_itself x (subst (λ d. cid_before x d ≡ true) (cid_same c x t) (All-contains (λ d. cid_before x d ≡ true) xs c rises.0 m)))
      | inr f ↦ ap not f
    ]

-- numbers that are distinct and among others are not more than these
pub distinct_short : (xs : List ℕ) → Distinct xs → (ys : List ℕ) → ((x : ℕ) → Contains xs x → Contains ys x) → length xs ≤ length ys
distinct_short [] distinct ys sub = omega arith
distinct_short (x ∷ xs) distinct ys sub =
    let others = filter (λ y. not (nat_eq y x)) ys in
    let fewer = filter_shorter (λ y. not (nat_eq y x)) ys x (sub x (member_here x xs)) (ap not (eq-eqb x x refl)) in
    let rest = distinct_short xs distinct.1 others (λ y m. member_filter (λ z. not (nat_eq z x)) ys y (sub y (member_there x xs y m)) (apart x xs distinct.0 y m)) in
    omega (arith, fewer, rest)
  where
    apart : (x : ℕ) (xs : List ℕ) → (Contains xs x → ⊥) → (y : ℕ) → Contains xs y → not (nat_eq y x) ≡ true
    apart x xs n y m = elim (cases_Bool (nat_eq y x)) [
      | inl t ↦ absurd (n (member_same xs y x (eqb-true y x t) m))
      | inr f ↦ ap not f
    ]

-- the numbers below n
below : ℕ → List ℕ
below zero = []
below (suc n) = n ∷ below n

below_member : (n x : ℕ) → x < n → Contains (below n) x
unfolding below
below_member zero x lt = absurd (omega arith)
below_member (suc n) x lt = elim (nat_known x n) [
  | inl e ↦ member_same (n ∷ below n) n x (sym e) (member_here n (below n))
  | inr ne ↦ member_there n (below n) x (below_member n x (omega arith))
]

below_length : (n : ℕ) → length (below n) ≡ n
unfolding below
below_length zero = refl
below_length (suc n) = let e = below_length n in omega (arith, e)

pub distinct_below : (xs : List ℕ) (n : ℕ) → Distinct xs → ((x : ℕ) → Contains xs x → x < n) → length xs ≤ n
distinct_below xs n distinct less =
    let k = distinct_short xs distinct (below n) (λ x m. below_member n x (less x m)) in
    let e = below_length n in
    omega (arith, k, e)
