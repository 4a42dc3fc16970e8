-- How many values domains have without some pairs.
use Rattle.std.proofs.Common.{◌≡◌, ℕ, zero, suc, ◌+◌, ◌<◌, ◌≤◌, Bool, true, false, not, List, [], ◌∷◌, length, filter, Contains, ℤ, inl, inr, sym, ap, ◌∙◌, subst, arith, add-zero, zero-add}
use Rattle.std.proofs.lemmas.Bool.{cases_Bool, false≢true, not-true}
use Rattle.palm_base.specs.declared.terms.Pair.{Pair}
use Rattle.palm_base.proofs.cited.Members.{member_nil, member_cases, filter_member}
use Rattle.palm_model.specs.Domains.{Domains, Has, is_among, without_from, without}
use Rattle.palm_model.specs.Trial.{value_count}
use Rattle.palm_model.proofs.cited.Supports.{not_true}
use Rattle.palm_model.proofs.cited.Without.{pair_of, among_member, member_among}

-- what passes fewer tests is shorter
pub length_filter_le : (p q : ℤ → Bool) (xs : List ℤ) → ((x : ℤ) → p x ≡ true → q x ≡ true) → length (filter p xs) ≤ length (filter q xs)
length_filter_le p q [] sub = omega arith
length_filter_le p q (x ∷ xs) sub = elim (cases_Bool (p x)) [
  | inl t ↦ let u = sub x t in rw (t, u) (let k = length_filter_le p q xs sub in omega (arith, k))
  | inr f ↦ rw f (elim (cases_Bool (q x)) [
    | inl u ↦ rw u (let k = length_filter_le p q xs sub in omega (arith, k))
    | inr g ↦ rw g (length_filter_le p q xs sub)
  ])
]

pub length_filter_lt : (p q : ℤ → Bool) (xs : List ℤ) (v : ℤ) → ((x : ℤ) → p x ≡ true → q x ≡ true) → Contains xs v → q v ≡ true → p v ≡ false → length (filter p xs) < length (filter q xs)
length_filter_lt p q [] v sub m u f = absurd (member_nil v m)
length_filter_lt p q (x ∷ xs) v sub m u f = elim (member_cases x xs v m) [
  | inl e ↦
      let u' : q x ≡ true = ap q e ∙ u in
      let f' : p x ≡ false = ap p e ∙ f in
      rw (f', u') (let k = length_filter_le p q xs sub in omega (arith, k))
  | inr n ↦ elim (cases_Bool (p x)) [
    | inl t ↦ let w = sub x t in rw (t, w) (let k = length_filter_lt p q xs v sub n u f in omega (arith, k))
    | inr g ↦ rw g (elim (cases_Bool (q x)) [
      | inl w ↦ rw w (let k = length_filter_lt p q xs v sub n u f in omega (arith, k))
      | inr h ↦ rw h (length_filter_lt p q xs v sub n u f)
    ])
  ]
]

-- what is not among more pairs is not among fewer
fewer_among : (fewer more : List Pair) → ((p : Pair) → Contains fewer p → Contains more p) → (x : ℕ) (v : ℤ) → not (is_among more x v) ≡ true → not (is_among fewer x v) ≡ true
fewer_among fewer more sub x v h = not_true (is_among fewer x v) (λ t. false≢true (sym (not-true (is_among more x v) h) ∙ member_among more x v (sub (pair_of x v) (among_member fewer x v t))))

count_le : (n : ℕ) (d : Domains) (fewer more : List Pair) → ((p : Pair) → Contains fewer p → Contains more p) → value_count (without_from n d more) ≤ value_count (without_from n d fewer)
count_le n [] fewer more sub = omega arith
count_le n (vs ∷ d) fewer more sub =
    let here = length_filter_le (λ v. not (is_among more n v)) (λ v. not (is_among fewer n v)) vs (fewer_among fewer more sub n) in
    let rest = count_le (n + 1) d fewer more sub in
    omega (arith, here, rest)

count_lt : (n : ℕ) (d : Domains) (fewer more : List Pair) (x : ℕ) (v : ℤ) → ((p : Pair) → Contains fewer p → Contains more p) → Has (without_from n d fewer) x v → Contains more (pair_of (n + x) v)
    → value_count (without_from n d more) < value_count (without_from n d fewer)
count_lt n [] fewer more x v sub has m = absurd (member_nil v has)
count_lt n (vs ∷ d) fewer more zero v sub has m =
    let r = filter_member (λ w. not (is_among fewer n w)) vs v has in
    let gone : not (is_among more n v) ≡ false = ap not (member_among more n v (subst (λ k. Contains more (pair_of k v)) (add-zero n) m)) in
    let here = length_filter_lt (λ w. not (is_among more n w)) (λ w. not (is_among fewer n w)) vs v (fewer_among fewer more sub n) r.0 r.1 gone in
    let rest = count_le (n + 1) d fewer more sub in
    omega (arith, here, rest)
count_lt n (vs ∷ d) fewer more (suc x) v sub has m =
    let e : n + suc x ≡ (n + 1) + x = omega arith in
    let here = length_filter_le (λ w. not (is_among more n w)) (λ w. not (is_among fewer n w)) vs (fewer_among fewer more sub n) in
    let rest = count_lt (n + 1) d fewer more x v sub has (subst (λ k. Contains more (pair_of k v)) e m) in
    omega (arith, here, rest)

-- with one more present pair gone there are fewer values
pub fewer_values : (d : Domains) (fewer more : List Pair) (p : Pair) → ((q : Pair) → Contains fewer q → Contains more q) → Has (without d fewer) p.var p.value → Contains more p
    → value_count (without d more) < value_count (without d fewer)
fewer_values d fewer more p sub has m = count_lt 0 d fewer more p.var p.value sub has (subst (λ k. Contains more (pair_of k p.value)) (sym (zero-add p.var)) m)
