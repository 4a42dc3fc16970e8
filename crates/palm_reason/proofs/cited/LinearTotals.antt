-- What a sum can be: the sum of what each term is, one that is reached, and the bounds of every other one.
use Rattle.std.proofs.Common.{◌≡◌, ℕ, ◌+◌, ◌*◌, ◌<◌, ◌≤◌, List, [], ◌∷◌, length, fold, Contains, ℤ, pos, negsuc, ◌+ℤ◌, ◌*ℤ◌, ◌≤ℤ◌, ◌<ℤ◌, cond, eqb, eq-eqb, ne_eqb, inl, inr, refl, sym, ap, ◌∙◌, subst, arith}
use Rattle.std.specs.Int.{int_min, int_max}
use Rattle.std.proofs.Math.Nat.{mul-le-mul_left}
use Rattle.std.proofs.lemmas.Int.{ints, fold-int_min_bounds, fold-int_min_reached, fold-int_max_bounds, fold-int_max_reached}
use Rattle.std.proofs.lemmas.List.{length-map}
use Rattle.std.proofs.lemmas.List.Elements.{All-contains}
use borrow.Author.Differences.{up, down}
use Rattle.palm_base.proofs.cited.Members.{member_nil, member_here, member_there, member_cases, member_same, member_map, member_unmap, nat_known}
use Rattle.palm_model.specs.Domains.{Domains, Assignment, Has, IsWithin, values_of}
use Rattle.palm_model.specs.Constraint.{Distinct}
use Rattle.palm_model.specs.Linear.{term_vars, total, least_of, greatest_of, products, least_total, greatest_total}
use Rattle.palm_model.specs.declared.constraint.Term.{Term}
use Rattle.palm_model.proofs.cited.Trials.{put, put_same, put_other}

-- ---- products with one factor

pub times_up : (n : ℕ) (v w : ℤ) → v ≤ℤ w → (pos n *ℤ v) ≤ℤ (pos n *ℤ w)
times_up n v w h = let k : n * (up v + down w) ≤ n * (up w + down v) = mul-le-mul_left n (omega (arith, ints, h)) in omega (arith, ints)

pub times_down : (n : ℕ) (v w : ℤ) → v ≤ℤ w → (negsuc n *ℤ w) ≤ℤ (negsuc n *ℤ v)
times_down n v w h = let k : (n + 1) * (up v + down w) ≤ (n + 1) * (up w + down v) = mul-le-mul_left (n + 1) (omega (arith, ints, h)) in omega (arith, ints)

pub product_rises : (f v w : ℤ) → pos 0 <ℤ f → v ≤ℤ w → (f *ℤ v) ≤ℤ (f *ℤ w)
product_rises (pos n) v w p h = times_up n v w h
product_rises (negsuc n) v w p h = absurd (omega (arith, ints, p))

pub product_falls : (f v w : ℤ) → f ≤ℤ pos 0 → v ≤ℤ w → (f *ℤ w) ≤ℤ (f *ℤ v)
product_falls (pos n) v w p h = let e : n ≡ 0 = omega (arith, ints, p) in rw e (omega (arith, ints))
product_falls (negsuc n) v w p h = times_down n v w h

-- ---- the least and the greatest of some numbers

pub least_below : (ns : List ℤ) (m : ℤ) → Contains ns m → least_of ns ≤ℤ m
least_below [] m h = absurd (member_nil m h)
least_below (k ∷ ks) m h =
    let b = fold-int_min_bounds k ks (fold int_min k ks) refl in
    elim (member_cases k ks m h) [
      | inl e ↦ subst (λ z. fold int_min k ks ≤ℤ z) e b.0
      | inr r ↦ All-contains (λ z. fold int_min k ks ≤ℤ z) ks m b.1 r
    ]

pub greatest_above : (ns : List ℤ) (m : ℤ) → Contains ns m → m ≤ℤ greatest_of ns
greatest_above [] m h = absurd (member_nil m h)
greatest_above (k ∷ ks) m h =
    let b = fold-int_max_bounds k ks (fold int_max k ks) refl in
    elim (member_cases k ks m h) [
      | inl e ↦ subst (λ z. z ≤ℤ fold int_max k ks) e b.0
      | inr r ↦ All-contains (λ z. z ≤ℤ fold int_max k ks) ks m b.1 r
    ]

least_in : (ns : List ℤ) → 0 < length ns → Contains ns (least_of ns)
least_in [] lt = absurd (omega (arith, lt))
least_in (k ∷ ks) lt = elim (fold-int_min_reached k ks (fold int_min k ks) refl) [
  | inl e ↦ member_same (k ∷ ks) k (fold int_min k ks) (sym e) (member_here k ks)
  | inr m ↦ member_there k ks (fold int_min k ks) m
]

greatest_in : (ns : List ℤ) → 0 < length ns → Contains ns (greatest_of ns)
greatest_in [] lt = absurd (omega (arith, lt))
greatest_in (k ∷ ks) lt = elim (fold-int_max_reached k ks (fold int_max k ks) refl) [
  | inl e ↦ member_same (k ∷ ks) k (fold int_max k ks) (sym e) (member_here k ks)
  | inr m ↦ member_there k ks (fold int_max k ks) m
]

pub least_is : (ns : List ℤ) (n : ℤ) → Contains ns n → ((m : ℤ) → Contains ns m → n ≤ℤ m) → n ≡ least_of ns
least_is ns n m low = omega (arith, ints, low (least_of ns) (least_in ns (omega (arith, m.1))), least_below ns n m)

pub greatest_is : (ns : List ℤ) (n : ℤ) → Contains ns n → ((m : ℤ) → Contains ns m → m ≤ℤ n) → n ≡ greatest_of ns
greatest_is ns n m high = omega (arith, ints, high (greatest_of ns) (greatest_in ns (omega (arith, m.1))), greatest_above ns n m)

-- ---- what one term can be

pub least_product_below : (d : Domains) (t : Term) (w : ℤ) → Has d t.var w → least_of (products d t) ≤ℤ (t.factor *ℤ w)
least_product_below d t w h = least_below (products d t) (t.factor *ℤ w) (member_map (λ u. t.factor *ℤ u) (values_of d t.var) w h)

pub greatest_product_above : (d : Domains) (t : Term) (w : ℤ) → Has d t.var w → (t.factor *ℤ w) ≤ℤ greatest_of (products d t)
greatest_product_above d t w h = greatest_above (products d t) (t.factor *ℤ w) (member_map (λ u. t.factor *ℤ u) (values_of d t.var) w h)

-- a value whose product is n
abbrev pub IsReached : Domains → Term → ℤ → Type 0
IsReached d t n = (w : ℤ) × Has d t.var w × (n ≡ t.factor *ℤ w)

reached : (d : Domains) (t : Term) (n : ℤ) → Contains (products d t) n → IsReached d t n
reached d t n m = let r = member_unmap (λ u. t.factor *ℤ u) (values_of d t.var) n m in (r.0, r.1, sym r.2)

products_filled : (d : Domains) (t : Term) → 0 < length (values_of d t.var) → 0 < length (products d t)
products_filled d t lt = subst (λ n. 0 < n) (sym (length-map (values_of d t.var) (λ u. t.factor *ℤ u))) lt

pub least_product_reached : (d : Domains) (t : Term) → 0 < length (values_of d t.var) → IsReached d t (least_of (products d t))
least_product_reached d t lt = reached d t (least_of (products d t)) (least_in (products d t) (products_filled d t lt))

pub greatest_product_reached : (d : Domains) (t : Term) → 0 < length (values_of d t.var) → IsReached d t (greatest_of (products d t))
greatest_product_reached d t lt = reached d t (greatest_of (products d t)) (greatest_in (products d t) (products_filled d t lt))

-- ---- the sum where x has the value v and every other term is what e says

abbrev pub total_by : (Term → ℤ) → List Term → ℕ → ℤ → ℤ
total_by e [] x v = pos 0
total_by e (t ∷ ts) x v = cond (eqb t.var x) (t.factor *ℤ v) (e t) +ℤ total_by e ts x v

pub least_by : (d : Domains) (terms : List Term) (x : ℕ) (v : ℤ) → least_total d terms x v ≡ total_by (λ t. least_of (products d t)) terms x v
least_by d [] x v = refl
least_by d (t ∷ ts) x v = ap (λ z. cond (eqb t.var x) (t.factor *ℤ v) (least_of (products d t)) +ℤ z) (least_by d ts x v)

pub greatest_by : (d : Domains) (terms : List Term) (x : ℕ) (v : ℤ) → greatest_total d terms x v ≡ total_by (λ t. greatest_of (products d t)) terms x v
greatest_by d [] x v = refl
greatest_by d (t ∷ ts) x v = ap (λ z. cond (eqb t.var x) (t.factor *ℤ v) (greatest_of (products d t)) +ℤ z) (greatest_by d ts x v)

at_same : (y x : ℕ) (m n : ℤ) → y ≡ x → cond (eqb y x) m n ≡ m
at_same y x m n e = ap (λ b. cond b m n) (eq-eqb y x e)

at_other : (y x : ℕ) (m n : ℤ) → (y ≡ x → ⊥) → cond (eqb y x) m n ≡ n
at_other y x m n ne = ap (λ b. cond b m n) (ne_eqb y x ne)

sum_up : (m n k l : ℤ) → m ≤ℤ n → k ≤ℤ l → (m +ℤ k) ≤ℤ (n +ℤ l)
sum_up m n k l h j = omega (arith, ints, h, j)

up_to_same : (m n : ℤ) → m ≡ n → m ≤ℤ n
up_to_same m n e = omega (arith, ints, e)

pub both_up_to : (m n : ℤ) → m ≤ℤ n → n ≤ℤ m → m ≡ n
both_up_to m n h k = omega (arith, ints, h, k)

-- the sum of what is below each term is below every sum
pub total_by_below : (e : Term → ℤ) (terms : List Term) (x : ℕ) (v : ℤ) (a : Assignment) → a x ≡ v → ((t : Term) → Contains terms t → (t.var ≡ x → ⊥) → e t ≤ℤ (t.factor *ℤ a t.var)) → total_by e terms x v ≤ℤ total a terms
total_by_below e [] x v a gives low = omega (arith, ints)
total_by_below e (t ∷ ts) x v a gives low =
    sum_up (cond (eqb t.var x) (t.factor *ℤ v) (e t)) (t.factor *ℤ a t.var) (total_by e ts x v) (total a ts)
    (elim (nat_known t.var x) [
      | inl s ↦ up_to_same (cond (eqb t.var x) (t.factor *ℤ v) (e t)) (t.factor *ℤ a t.var) (at_same t.var x (t.factor *ℤ v) (e t) s ∙ ap (λ z. t.factor *ℤ z) (sym gives ∙ ap a (sym s)))
      | inr n ↦ subst (λ z. z ≤ℤ (t.factor *ℤ a t.var)) (sym (at_other t.var x (t.factor *ℤ v) (e t) n)) (low t (member_here t ts) n)
    ])
    (total_by_below e ts x v a gives (λ u m n. low u (member_there t ts u m) n))

pub total_by_above : (e : Term → ℤ) (terms : List Term) (x : ℕ) (v : ℤ) (a : Assignment) → a x ≡ v → ((t : Term) → Contains terms t → (t.var ≡ x → ⊥) → (t.factor *ℤ a t.var) ≤ℤ e t) → total a terms ≤ℤ total_by e terms x v
total_by_above e [] x v a gives high = omega (arith, ints)
total_by_above e (t ∷ ts) x v a gives high =
    sum_up (t.factor *ℤ a t.var) (cond (eqb t.var x) (t.factor *ℤ v) (e t)) (total a ts) (total_by e ts x v)
    (elim (nat_known t.var x) [
      | inl s ↦ up_to_same (t.factor *ℤ a t.var) (cond (eqb t.var x) (t.factor *ℤ v) (e t)) (ap (λ z. t.factor *ℤ z) (ap a s ∙ gives) ∙ sym (at_same t.var x (t.factor *ℤ v) (e t) s))
      | inr n ↦ subst (λ z. (t.factor *ℤ a t.var) ≤ℤ z) (sym (at_other t.var x (t.factor *ℤ v) (e t) n)) (high t (member_here t ts) n)
    ])
    (total_by_above e ts x v a gives (λ u m n. high u (member_there t ts u m) n))

-- ---- an assignment by which every term is what e says

-- the assignment gives x the value v, and takes present values for which every other term is what e says
pub record Takes (d : Domains) (e : Term → ℤ) (terms : List Term) (x : ℕ) (v : ℤ) : Type 0 where
  pub assignment : Assignment
  pub gives : assignment x ≡ v
  pub each : (t : Term) → Contains terms t → (t.var ≡ x → ⊥) → Has d t.var (assignment t.var) × (e t ≡ t.factor *ℤ assignment t.var)

takes_put : (d : Domains) (e : Term → ℤ) (t : Term) (ts : List Term) (x : ℕ) (v : ℤ) → (Contains (term_vars ts) t.var → ⊥) → (t.var ≡ x → ⊥) → IsReached d t (e t) → Takes d e ts x v → Takes d e (t ∷ ts) x v
takes_put d e t ts x v apart n w r =
    let b : Assignment = put r.assignment t.var w.0 in
    record {
      assignment = b;
      gives = put_other r.assignment t.var w.0 x (λ s. n (sym s)) ∙ r.gives;
      each = λ u m ne. elim (member_cases t ts u m) [
        | inl q ↦ subst (λ (z : Term). Has d z.var (b z.var) × (e z ≡ z.factor *ℤ b z.var)) q
            (subst (λ y. Has d t.var y × (e t ≡ t.factor *ℤ y)) (sym (put_same r.assignment t.var w.0)) (w.1, w.2))
        | inr k ↦
            subst (λ y. Has d u.var y × (e u ≡ u.factor *ℤ y))
            (sym (put_other r.assignment t.var w.0 u.var (λ s. apart (subst (λ y. Contains (term_vars ts) y) s (member_map (λ (z : Term). z.var) ts u k)))))
            (r.each u k ne)
      ];
    }

pub takes : (d : Domains) (e : Term → ℤ) (terms : List Term) (x : ℕ) (v : ℤ) → Distinct (term_vars terms) → ((t : Term) → Contains terms t → (t.var ≡ x → ⊥) → IsReached d t (e t)) → Takes d e terms x v
takes d e [] x v distinct w = record { assignment = λ y. v; gives = refl; each = λ t m n. absurd (member_nil t m) }
takes d e (t ∷ ts) x v distinct w =
    let r = takes d e ts x v distinct.1 (λ u m n. w u (member_there t ts u m) n) in
    elim (nat_known t.var x) [
      | inl s ↦ record {
        assignment = r.assignment;
        gives = r.gives;
        each = λ u m n. elim (member_cases t ts u m) [
          | inl q ↦ absurd (n (ap (λ (z : Term). z.var) (sym q) ∙ s))
          | inr k ↦ r.each u k n
        ];
      }
      | inr n ↦ takes_put d e t ts x v distinct.0 n (w t (member_here t ts) n) r
    ]

pub total_taken : (d : Domains) (e : Term → ℤ) (terms : List Term) (x : ℕ) (v : ℤ) (r : Takes d e terms x v) → total r.assignment terms ≡ total_by e terms x v
total_taken d e terms x v r =
    both_up_to (total r.assignment terms) (total_by e terms x v)
    (total_by_above e terms x v r.assignment r.gives (λ t m n. up_to_same (t.factor *ℤ r.assignment t.var) (e t) (sym (r.each t m n).1)))
    (total_by_below e terms x v r.assignment r.gives (λ t m n. up_to_same (e t) (t.factor *ℤ r.assignment t.var) (r.each t m n).1))

pub taken_within : (d : Domains) (e : Term → ℤ) (terms : List Term) (x : ℕ) (v : ℤ) → Has d x v → (r : Takes d e terms x v) → IsWithin r.assignment (term_vars terms) d
taken_within d e terms x v has r = λ y m.
    let s = member_unmap (λ (t : Term). t.var) terms y m in
    elim (nat_known y x) [
      | inl q ↦ subst (λ z. Has d z (r.assignment z)) (sym q) (subst (λ u. Has d x u) (sym r.gives) has)
      | inr n ↦ subst (λ z. Has d z (r.assignment z)) s.2 (r.each s.0 s.1 (λ q. n (sym s.2 ∙ q))).0
    ]
