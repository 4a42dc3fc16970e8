-- The numbers in rows: one is found by its value, set at its place, and put in where it is not.
use Rattle.std.proofs.Common.{◌≡◌, ℕ, zero, suc, ℤ, ◌<◌, ◌≤◌, ◌<ℤ◌, ◌≤ℤ◌, true, false, cond, List, [], ◌∷◌, ◌++◌, length, replicate, set, length-set, get_or, slice_get, Contains, Some, None, Result, Ok, Err, Ordering, Less, Equal, Greater, ◌⊎◌, inl, inr, refl, sym, ap, ◌∙◌, subst, arith, int_eq}
use Rattle.std.specs.List.{insert}
use Rattle.std.specs.List.Sorted.{IsBinarySearchResult, IsSearchInRange}
use Rattle.std.specs.Ordering.{int_cmp, ordering_index, MatchOrdering}
use Rattle.std.proofs.lemmas.Cmp.{int_ranked}
use Rattle.std.proofs.lemmas.Int.{ints}
use Rattle.std.proofs.lemmas.Bool.{cases_Bool, cases_lt, false≢true}
use Rattle.std.proofs.lemmas.Bool.Decides.{Decides-int_eq}
use Rattle.std.proofs.lemmas.List.Elements.{All-contains, Contains-push_cases}
use Rattle.std.proofs.lemmas.Option.{slice_get-get_or}
use Rattle.palm_base.proofs.cited.Members.{member_get, member_here, member_there, member_cases, member_same, all_members}
use Rattle.palm_base.specs.declared.terms.Pair.{Pair}
use Rattle.palm_base.specs.Ascending.{Ascends}
use Rattle.palm_domain.proofs.cited.Ascending.{get_or-rises}
use Rattle.palm_explain.specs.declared.rows.Row.{Row}
use Rattle.palm_explain.specs.declared.rows.TheConstants.{NO_NUMBER}
use Rattle.palm_explain.specs.Rows.{AreFormedRows, IsFormedRow, KeepsRemovals, number_at, number_in, row_number}

int_same : (v : ℤ) → int_eq v v ≡ true
int_same v = (Decides-int_eq v v).1 refl

int_differs : (v w : ℤ) → (v ≡ w → ⊥) → int_eq v w ≡ false
int_differs v w n = elim (cases_Bool (int_eq v w)) [ inl t ↦ absurd (n ((Decides-int_eq v w).0 t)) | inr f ↦ f ]

skip : (w v : ℤ) (k : ℕ) (values : List ℤ) (numbers : List ℕ) → (w ≡ v → ⊥) → number_in (w ∷ values) (k ∷ numbers) v ≡ number_in values numbers v
skip w v k values numbers n = ap (λ b. cond b (Some k) (number_in values numbers v)) (int_differs w v n)

first : (v : ℤ) (k : ℕ) (values : List ℤ) (numbers : List ℕ) → number_in (v ∷ values) (k ∷ numbers) v ≡ Some k
first v k values numbers = ap (λ b. cond b (Some k) (number_in values numbers v)) (int_same v)

below_differs : (w v : ℤ) → w <ℤ v → w ≡ v → ⊥
below_differs w v lt e = omega (arith, ints, lt, e)

-- ---- by place

pub number_found : (values : List ℤ) (numbers : List ℕ) (i : ℕ) (v : ℤ) (k : ℕ) → Ascends values → i < length values → get_or values i v ≡ v → slice_get numbers i ≡ Some k → number_in values numbers v ≡ Some k
number_found [] numbers i v k a lt at is = absurd (omega (arith, lt))
number_found (w ∷ values) [] i v k a lt at is = cc
number_found (w ∷ values) (j ∷ numbers) zero v k a lt at is = subst (λ u. number_in (u ∷ values) (j ∷ numbers) v ≡ Some k) (sym at) (first v j values numbers ∙ is)
number_found (w ∷ values) (j ∷ numbers) (suc i) v k a lt at is =
    let below : w <ℤ v = subst (λ u. w <ℤ u) at (a.0 i v (omega (arith, lt))) in
    skip w v j values numbers (below_differs w v below) ∙ number_found values numbers i v k a.1 (omega (arith, lt)) at is

pub number_none : (values : List ℤ) (numbers : List ℕ) (v : ℤ) → (Contains values v → ⊥) → number_in values numbers v ≡ None
number_none [] numbers v n = refl
number_none (w ∷ values) [] v n = refl
number_none (w ∷ values) (k ∷ numbers) v n =
    skip w v k values numbers (λ e. n (member_same (w ∷ values) w v e (member_here w values))) ∙ number_none values numbers v (λ m. n (member_there w values v m))

-- a value that has a number stands there
pub number_value : (values : List ℤ) (numbers : List ℕ) (v : ℤ) (k : ℕ) → number_in values numbers v ≡ Some k → Contains values v
number_value [] numbers v k is = cc
number_value (w ∷ values) [] v k is = cc
number_value (w ∷ values) (j ∷ numbers) v k is = elim (cases_Bool (int_eq w v)) [
  | inl t ↦ member_same (w ∷ values) w v ((Decides-int_eq w v).0 t) (member_here w values)
  | inr f ↦ member_there w values v (number_value values numbers v k (sym (ap (λ b. cond b (Some j) (number_in values numbers v)) f) ∙ is))
]

-- another number at the place
pub set_found : (values : List ℤ) (numbers : List ℕ) (i : ℕ) (v : ℤ) (k : ℕ) → Ascends values → length numbers ≡ length values → i < length values → get_or values i v ≡ v → number_in values (set numbers i k) v ≡ Some k
set_found [] numbers i v k a long lt at = absurd (omega (arith, lt))
set_found (w ∷ values) [] i v k a long lt at = absurd (omega (arith, long))
set_found (w ∷ values) (j ∷ numbers) zero v k a long lt at = subst (λ u. number_in (u ∷ values) (k ∷ numbers) v ≡ Some k) (sym at) (first v k values numbers)
set_found (w ∷ values) (j ∷ numbers) (suc i) v k a long lt at =
    let below : w <ℤ v = subst (λ u. w <ℤ u) at (a.0 i v (omega (arith, lt))) in
    skip w v j values (set numbers i k) (below_differs w v below) ∙ set_found values numbers i v k a.1 (omega (arith, long)) (omega (arith, lt)) at

pub set_other : (values : List ℤ) (numbers : List ℕ) (i : ℕ) (v u : ℤ) (k : ℕ) → get_or values i v ≡ v → i < length values → (u ≡ v → ⊥) → number_in values (set numbers i k) u ≡ number_in values numbers u
set_other [] numbers i v u k at lt n = refl
set_other (w ∷ values) [] i v u k at lt n = refl
set_other (w ∷ values) (j ∷ numbers) zero v u k at lt n =
    let differs : w ≡ u → ⊥ = λ e. n (sym e ∙ at) in
    skip w u k values numbers differs ∙ sym (skip w u j values numbers differs)
set_other (w ∷ values) (j ∷ numbers) (suc i) v u k at lt n = ap (λ r. cond (int_eq w u) (Some j) r) (set_other values numbers i v u k at (omega (arith, lt)) n)

-- ---- one more value

-- the values before the place are below, and those from it on above
pub record IsBetween (values : List ℤ) (v : ℤ) (i : ℕ) : Type 0 where
  pub within : i ≤ length values
  pub below : (k : ℕ) (d : ℤ) → k < i → get_or values k d <ℤ v
  pub above : (k : ℕ) (d : ℤ) → i ≤ k → k < length values → v <ℤ get_or values k d

between_tail : (w : ℤ) (values : List ℤ) (v : ℤ) (i : ℕ) → IsBetween (w ∷ values) v (suc i) → IsBetween values v i
between_tail w values v i b = record {
  within = let h = b.within in omega (arith, h);
  below = λ k d lt. b.below (suc k) d (omega (arith, lt));
  above = λ k d le lt. b.above (suc k) d (omega (arith, le)) (omega (arith, lt));
}

pub between_free : (values : List ℤ) (v : ℤ) (i : ℕ) → IsBetween values v i → Contains values v → ⊥
between_free values v i b m = elim (cases_lt m.0 i) [
  | inl lt ↦ below_differs (get_or values m.0 v) v (b.below m.0 v lt) m.2
  | inr le ↦ below_differs v (get_or values m.0 v) (b.above m.0 v le m.1) (sym m.2)
]

pub insert_ascends : (values : List ℤ) (v : ℤ) (i : ℕ) → Ascends values → IsBetween values v i → Ascends (insert values i v)
insert_ascends values v zero a b = (all_members (λ w. v <ℤ w) values (λ w m. subst (λ u. v <ℤ u) m.2 (b.above m.0 w (omega arith) m.1)), a)
insert_ascends [] v (suc i) a b = absurd (let h = b.within in omega (arith, h))
insert_ascends (w ∷ values) v (suc i) a b = (
  all_members (λ u. w <ℤ u) (insert values i v) (λ u m. elim (inserted_member values v i u m) [
    | inl k ↦ subst (λ z. w <ℤ z) k.2 (a.0 k.0 u k.1)
    | inr e ↦ subst (λ z. w <ℤ z) e (b.below 0 w (omega arith))
  ]),
  insert_ascends values v i a.1 (between_tail w values v i b),
)
  where
    inserted_member : (values : List ℤ) (v : ℤ) (i : ℕ) (u : ℤ) → Contains (insert values i v) u → Contains values u ⊎ (v ≡ u)
    inserted_member values v zero u m = elim (member_cases v values u m) [ inl e ↦ inr e | inr k ↦ inl k ]
    inserted_member [] v (suc i) u m = elim (member_cases v [] u m) [ inl e ↦ inr e | inr k ↦ inl k ]
    inserted_member (w ∷ values) v (suc i) u m = elim (member_cases w (insert values i v) u m) [
      | inl e ↦ inl (member_same (w ∷ values) w u e (member_here w values))
      | inr k ↦ elim (inserted_member values v i u k) [ inl j ↦ inl (member_there w values u j) | inr e ↦ inr e ]
    ]

pub insert_found : (values : List ℤ) (numbers : List ℕ) (v : ℤ) (i k : ℕ) → length numbers ≡ length values → IsBetween values v i → number_in (insert values i v) (insert numbers i k) v ≡ Some k
insert_found values numbers v zero k long b = first v k values numbers
insert_found [] numbers v (suc i) k long b = absurd (let h = b.within in omega (arith, h))
insert_found (w ∷ values) [] v (suc i) k long b = absurd (omega (arith, long))
insert_found (w ∷ values) (j ∷ numbers) v (suc i) k long b =
    skip w v j (insert values i v) (insert numbers i k) (below_differs w v (b.below 0 w (omega arith))) ∙ insert_found values numbers v i k (omega (arith, long)) (between_tail w values v i b)

pub insert_other : (values : List ℤ) (numbers : List ℕ) (v u : ℤ) (i k : ℕ) → length numbers ≡ length values → i ≤ length values → (u ≡ v → ⊥) → number_in (insert values i v) (insert numbers i k) u ≡ number_in values numbers u
insert_other values numbers v u zero k long le n = skip v u k values numbers (λ e. n (sym e))
insert_other [] numbers v u (suc i) k long le n = absurd (omega (arith, le))
insert_other (w ∷ values) [] v u (suc i) k long le n = absurd (omega (arith, long))
insert_other (w ∷ values) (j ∷ numbers) v u (suc i) k long le n = ap (λ r. cond (int_eq w u) (Some j) r) (insert_other values numbers v u i k (omega (arith, long)) (omega (arith, le)) n)

pub insert_length : {X : Type 0} (xs : List X) (i : ℕ) (x : X) → i ≤ length xs → length (insert xs i x) ≡ suc (length xs)
insert_length xs zero x le = refl
insert_length [] (suc i) x le = absurd (omega (arith, le))
insert_length (y ∷ xs) (suc i) x le = ap suc (insert_length xs i x (omega (arith, le)))

pub insert_formed : (r : Row) (v : ℤ) (i k : ℕ) → IsFormedRow r → IsBetween r.values.items v i → length (insert r.numbers.items i k) ≡ length (insert r.values.items i v)
insert_formed r v i k formed b =
    let within = b.within in
    let long = formed.numbers in
    let le : i ≤ length r.numbers.items = omega (arith, within, long) in
    insert_length r.numbers.items i k le ∙ ap suc long ∙ sym (insert_length r.values.items i v within)

-- a value that stands in a row has a number
pub standing_number : (r : Row) (v : ℤ) (i : ℕ) → IsFormedRow r → (i < length r.values.items) × (get_or r.values.items i v ≡ v) → (k : ℕ) × (number_in r.values.items r.numbers.items v ≡ Some k)
standing_number r v i formed stands =
    let long = formed.numbers in
    let lt = stands.0 in
    let k = get_or r.numbers.items i 0 in
    (k, number_found r.values.items r.numbers.items i v k formed.ascends lt stands.1 (slice_get-get_or r.numbers.items i 0 (omega (arith, long, lt))))

-- another number at the place of a value
module _ (r : Row) (v : ℤ) (i k : ℕ) (numbers : List ℕ) (formed : IsFormedRow r) (within : i < length r.values.items) (at : get_or r.values.items i v ≡ v) (is : numbers ≡ set r.numbers.items i k) where
  pub set_length : length numbers ≡ length r.values.items
  set_length = ap length is ∙ length-set r.numbers.items i k ∙ formed.numbers

  pub set_there : number_in r.values.items numbers v ≡ Some k
  set_there = ap (λ ks. number_in r.values.items ks v) is ∙ set_found r.values.items r.numbers.items i v k formed.ascends formed.numbers within at

  pub set_others : (u : ℤ) → (u ≡ v → ⊥) → number_in r.values.items numbers u ≡ number_in r.values.items r.numbers.items u
  set_others u n = ap (λ ks. number_in r.values.items ks u) is ∙ set_other r.values.items r.numbers.items i v u k at within n

-- a value that has no number gets one that is none
module _ (r : Row) (v : ℤ) (i : ℕ) (values : List ℤ) (numbers : List ℕ) (formed : IsFormedRow r) (b : IsBetween r.values.items v i) (longer : values ≡ insert r.values.items i v) (more : numbers ≡ insert r.numbers.items i NO_NUMBER) where
  pub inserted_ascends : Ascends values
  inserted_ascends = subst Ascends (sym longer) (insert_ascends r.values.items v i formed.ascends b)

  pub inserted_length : length numbers ≡ length values
  inserted_length = ap length more ∙ insert_formed r v i NO_NUMBER formed b ∙ sym (ap length longer)

  inserted_there : number_in values numbers v ≡ Some NO_NUMBER
  inserted_there = ap (λ vs. number_in vs numbers v) longer ∙ ap (λ ks. number_in (insert r.values.items i v) ks v) more ∙ insert_found r.values.items r.numbers.items v i NO_NUMBER formed.numbers b

  pub inserted_others : (u : ℤ) → (u ≡ v → ⊥) → number_in values numbers u ≡ number_in r.values.items r.numbers.items u
  inserted_others u n =
      ap (λ vs. number_in vs numbers u) longer ∙ ap (λ ks. number_in (insert r.values.items i v) ks u) more ∙ insert_other r.values.items r.numbers.items v u i NO_NUMBER formed.numbers b.within n

  pub inserted_stay : (u : ℤ) (k : ℕ) → number_in r.values.items r.numbers.items u ≡ Some k → number_in values numbers u ≡ Some k
  inserted_stay u k is = elim (cases_Bool (int_eq u v)) [
    | inl t ↦ absurd (between_free r.values.items v i b (number_value r.values.items r.numbers.items v k (ap (number_in r.values.items r.numbers.items) (sym ((Decides-int_eq u v).0 t)) ∙ is)))
    | inr f ↦ inserted_others u (λ q. false≢true (sym f ∙ (Decides-int_eq u v).1 q)) ∙ is
  ]

  pub inserted_only : (u : ℤ) (k : ℕ) → number_in values numbers u ≡ Some k → (number_in r.values.items r.numbers.items u ≡ Some k) ⊎ (k ≡ NO_NUMBER)
  inserted_only u k is = elim (cases_Bool (int_eq u v)) [
    | inl t ↦ inr (let same : Some NO_NUMBER ≡ Some k = sym inserted_there ∙ ap (number_in values numbers) (sym ((Decides-int_eq u v).0 t)) ∙ is in sym (of_same NO_NUMBER k same))
    | inr f ↦ inl (sym (inserted_others u (λ q. false≢true (sym f ∙ (Decides-int_eq u v).1 q))) ∙ is)
  ]
    where
      of_same : (m n : ℕ) → Some m ≡ Some n → m ≡ n
      of_same m n e = cc

-- ---- what the search by halves finds

index_rises : (a b t : ℤ) (o s : Ordering) → a ≤ℤ b → MatchOrdering o (a <ℤ t) (a ≡ t) (t <ℤ a) → MatchOrdering s (b <ℤ t) (b ≡ t) (t <ℤ b) → ordering_index o ≤ ordering_index s
index_rises a b t Less s le h j = omega arith
index_rises a b t Equal Less le h j = absurd (omega (arith, ints, le, h, j))
index_rises a b t Equal Equal le h j = omega arith
index_rises a b t Equal Greater le h j = omega arith
index_rises a b t Greater Less le h j = absurd (omega (arith, ints, le, h, j))
index_rises a b t Greater Equal le h j = absurd (omega (arith, ints, le, h, j))
index_rises a b t Greater Greater le h j = omega arith

ranks : (a t : ℤ) → MatchOrdering (int_cmp a t) (a <ℤ t) (a ≡ t) (t <ℤ a)
ranks a t = int_ranked a t (int_cmp a t) refl

pub search_found : (values : List ℤ) (t : ℤ) (i : ℕ) → IsBinarySearchResult (λ y. int_cmp y t) values (Ok i) → get_or values i t ≡ t
search_found values t i h = subst (λ o. MatchOrdering o (get_or values i t <ℤ t) (get_or values i t ≡ t) (t <ℤ get_or values i t)) (h t) (ranks (get_or values i t) t)

pub search_between : (values : List ℤ) (t : ℤ) (i : ℕ) → Ascends values → i ≤ length values → IsBinarySearchResult (λ y. int_cmp y t) values (Err i) → IsBetween values t i
search_between values t i a le h =
    let parts = h (λ i j d le lt. index_rises (get_or values i d) (get_or values j d) t (int_cmp (get_or values i d) t) (int_cmp (get_or values j d) t) (get_or-rises values a i j d d le lt) (ranks (get_or values i d) t) (ranks (get_or values j d) t)) in record {
      within = le;
      below = λ k d lt. subst (λ o. MatchOrdering o (get_or values k d <ℤ t) (get_or values k d ≡ t) (t <ℤ get_or values k d)) (parts.0 k d (omega arith) lt) (ranks (get_or values k d) t);
      above = λ k d from lt. subst (λ o. MatchOrdering o (get_or values k d <ℤ t) (get_or values k d ≡ t) (t <ℤ get_or values k d)) (parts.1 k d from lt) (ranks (get_or values k d) t);
    }

-- the same of what the search answers
pub found_in : (values : List ℤ) (t : ℤ) (r : Result ℕ ℕ) (i : ℕ) → r ≡ Ok i → IsSearchInRange r (length values) → IsBinarySearchResult (λ y. int_cmp y t) values r → (i < length values) × (get_or values i t ≡ t)
found_in values t (Err k) i e within h = cc
found_in values t (Ok k) i e within h =
    let same : k ≡ i = cc in
    subst (λ n. (n < length values) × (get_or values n t ≡ t)) same (within, search_found values t k h)

pub between_in : (values : List ℤ) (t : ℤ) (r : Result ℕ ℕ) (i : ℕ) → r ≡ Err i → Ascends values → IsSearchInRange r (length values) → IsBinarySearchResult (λ y. int_cmp y t) values r → IsBetween values t i
between_in values t (Ok k) i e a within h = cc
between_in values t (Err k) i e a within h =
    let same : k ≡ i = cc in
    subst (λ n. IsBetween values t n) same (search_between values t k a within h)

-- ---- rows

pushed_number : (rows : List Row) (r : Row) → ((v : ℤ) → number_in r.values.items r.numbers.items v ≡ None) → (x : ℕ) (v : ℤ) → row_number (slice_get (rows ++ r ∷ []) x) v ≡ row_number (slice_get rows x) v
pushed_number [] r none zero v = none v
pushed_number [] r none (suc x) v = refl
pushed_number (s ∷ rows) r none zero v = refl
pushed_number (s ∷ rows) r none (suc x) v = pushed_number rows r none x v

-- one more row without a number
pub pushed_row : (rows : List Row) (r : Row) → ((v : ℤ) → number_in r.values.items r.numbers.items v ≡ None) → (p : Pair) → number_at (rows ++ r ∷ []) p ≡ number_at rows p
pushed_row rows r none p = pushed_number rows r none p.var p.value

pub pushed_formed : (rows : List Row) (r : Row) → AreFormedRows rows → IsFormedRow r → AreFormedRows (rows ++ r ∷ [])
pushed_formed rows r formed one =
    all_members IsFormedRow (rows ++ r ∷ []) (λ s m. elim (Contains-push_cases rows r s m) [
      | inl o ↦ All-contains IsFormedRow rows s formed o
      | inr e ↦ subst IsFormedRow e one
    ])

-- a number that is found stands in a row
number_in_row : (rows : List Row) (x k : ℕ) (v : ℤ) → row_number (slice_get rows x) v ≡ Some k → x < length rows
number_in_row [] x k v is = cc
number_in_row (r ∷ rows) zero k v is = omega arith
number_in_row (r ∷ rows) (suc x) k v is = let lt = number_in_row rows x k v is in omega (arith, lt)

pub number_within : (rows : List Row) (p : Pair) (k : ℕ) → number_at rows p ≡ Some k → p.var < length rows
number_within rows p k is = number_in_row rows p.var k p.value is

pub row_formed : (rows : List Row) (x : ℕ) (r : Row) → AreFormedRows rows → slice_get rows x ≡ Some r → IsFormedRow r
row_formed rows x r formed at = All-contains IsFormedRow rows r formed (member_get rows x r at)

-- ---- values of which none is removed

pub number_blank : (values : List ℤ) (m n : ℕ) (v : ℤ) (k : ℕ) → number_in values (replicate m n) v ≡ Some k → k ≡ n
number_blank [] m n v k is = cc
number_blank (w ∷ values) zero n v k is = cc
number_blank (w ∷ values) (suc m) n v k is = elim (cases_Bool (int_eq w v)) [
  | inl t ↦ let same : Some n ≡ Some k = sym (ap (λ b. cond b (Some n) (number_in values (replicate m n) v)) t) ∙ is in cc
  | inr f ↦ number_blank values m n v k (sym (ap (λ b. cond b (Some n) (number_in values (replicate m n) v)) f) ∙ is)
]

-- ---- rows of which all removals stay

pub keeps_all : (rows more : List Row) → ((p : Pair) → number_at more p ≡ number_at rows p) → KeepsRemovals rows more
keeps_all rows more same = record {
  stay = λ p k is. same p ∙ is;
  only = λ p k is. inl (sym (same p) ∙ is);
}
