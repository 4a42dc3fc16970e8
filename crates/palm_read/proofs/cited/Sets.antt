-- Sets of whole numbers as ascending lists: such a list is told by its members.
use Rattle.std.proofs.Common.{◌≡◌, ℕ, ℤ, zero, suc, ◌<◌, true, false, List, [], ◌∷◌, length, get_or, Contains, Ordering, Less, Equal, Greater, refl, sym, arith, inl, inr, ◌⊎◌}
use Rattle.std.specs.Bool.{⊤}
use Rattle.std.specs.List.{dedup, AllByRecursion}
use Rattle.std.specs.List.Retain.{IsFiltered, DiffersFromLast}
use Rattle.std.specs.List.Sorted.{IsPermutation, IsSorted, IsStrictlySortedBy}
use Rattle.std.specs.Ordering.{int_cmp, int_eq, MatchOrdering, eq_by_cmp}
use Rattle.std.specs.Prelude.{int_lt, ◌<ℤ◌}
use Rattle.std.proofs.lemmas.Int.{ints}
use Rattle.std.proofs.lemmas.Cmp.{int_ranked, int_cmp_total, int_eq_equiv}
use Rattle.std.proofs.lemmas.Bool.Decides.{Decides-int_eq}
use Rattle.std.proofs.lemmas.List.Filters.{dedup_is}
use Rattle.std.proofs.lemmas.List.Kept.{IsStrictlySortedBy-dedup, Contains-dedup, Contains-from_dedup}
use Rattle.std.proofs.lemmas.List.Sorted.{Contains-permutation, IsPermutation-sym}
use Rattle.palm_read.specs.Domain.{with_value, set_of}

-- ---- members

pub contains_here : {X : Type 0} (x : X) (xs : List X) → Contains (x ∷ xs) x
contains_here x xs = (0, omega arith, refl)

pub contains_there : {X : Type 0} (x z : X) (xs : List X) → Contains xs z → Contains (x ∷ xs) z
contains_there x z xs c = (suc c.0, omega (arith, c.1), c.2)

pub contains_cases : {X : Type 0} (x z : X) (xs : List X) → Contains (x ∷ xs) z → (x ≡ z) ⊎ Contains xs z
contains_cases x z xs c = go c.0 c.1 c.2
  where
    go : (k : ℕ) → k < length (x ∷ xs) → get_or (x ∷ xs) k z ≡ z → (x ≡ z) ⊎ Contains xs z
    go zero l e = inl e
    go (suc k) l e = inr (k, omega arith, e)

-- ---- ascending lists

abbrev pub Rises : List ℤ → Type 0
Rises [] = ⊤
Rises (x ∷ xs) = AllByRecursion (λ y. x <ℤ y) xs × Rises xs

less : (x y : ℤ) → int_cmp x y ≡ Less → x <ℤ y
less x y e = go (int_cmp x y) (int_ranked x y (int_cmp x y) refl) e
  where
    go : (o : Ordering) → MatchOrdering o (x <ℤ y) (x ≡ y) (y <ℤ x) → o ≡ Less → x <ℤ y
    go Less m e = m
    go Equal m e = absurd cc
    go Greater m e = absurd cc

all_less : (x : ℤ) (ys : List ℤ) → AllByRecursion (λ y. int_cmp x y ≡ Less) ys → AllByRecursion (λ y. x <ℤ y) ys
all_less x [] h = tt
all_less x (y ∷ ys) h = (less x y h.0, all_less x ys h.1)

rises_from_sorted : (xs : List ℤ) → IsStrictlySortedBy int_cmp xs → Rises xs
unfolding IsStrictlySortedBy
rises_from_sorted [] h = tt
rises_from_sorted (x ∷ xs) h = (all_less x xs h.0, rises_from_sorted xs h.1)

above_member : (x z : ℤ) (xs : List ℤ) → AllByRecursion (λ y. x <ℤ y) xs → Contains xs z → x <ℤ z
above_member x z [] h c = absurd (omega (arith, c.1))
above_member x z (y ∷ ys) h c =
    elim (contains_cases y z ys c) [
      | inl e ↦ rw (← e) h.0
      | inr d ↦ above_member x z ys h.1 d
    ]

not_both : (x y : ℤ) → x <ℤ y → y <ℤ x → ⊥
not_both x y h k = absurd (omega (arith, ints))

absurd_less : (x y z : ℤ) → x <ℤ z → x ≡ y → y ≡ z → z <ℤ x
absurd_less x y z h e d = absurd (omega (arith, ints))

same_heads : (x y : ℤ) (xs ys : List ℤ) → AllByRecursion (λ z. x <ℤ z) xs → AllByRecursion (λ z. y <ℤ z) ys → Contains (y ∷ ys) x → Contains (x ∷ xs) y → x ≡ y
same_heads x y xs ys r s to from =
    elim (contains_cases y x ys to) [
      | inl e ↦ sym e
      | inr c ↦ elim (contains_cases x y xs from) [
        | inl e ↦ e
        | inr d ↦ absurd (not_both x y (above_member x y xs r d) (above_member y x ys s c))
      ]
    ]

-- a later member is no first one
tail_member : (x y z : ℤ) (xs ys : List ℤ) → x ≡ y → AllByRecursion (λ w. x <ℤ w) xs → Contains xs z → Contains (y ∷ ys) z → Contains ys z
tail_member x y z xs ys e r c d =
    elim (contains_cases y z ys d) [
      | inl same ↦ absurd (not_both x z (above_member x z xs r c) (absurd_less x y z (above_member x z xs r c) e same))
      | inr later ↦ later
    ]

pub same_rising : (xs ys : List ℤ) → Rises xs → Rises ys → ((z : ℤ) → Contains xs z → Contains ys z) → ((z : ℤ) → Contains ys z → Contains xs z) → xs ≡ ys
same_rising [] [] r s to from = refl
same_rising [] (y ∷ ys) r s to from = absurd (omega (arith, (from y (contains_here y ys)).1))
same_rising (x ∷ xs) [] r s to from = absurd (omega (arith, (to x (contains_here x xs)).1))
same_rising (x ∷ xs) (y ∷ ys) r s to from =
    let heads : x ≡ y = same_heads x y xs ys r.0 s.0 (to x (contains_here x xs)) (from y (contains_here y ys)) in
    let rest_to = λ (z : ℤ) (c : Contains xs z). tail_member x y z xs ys heads r.0 c (to z (contains_there x z xs c)) in
    let rest_from = λ (z : ℤ) (c : Contains ys z). tail_member y x z ys xs (sym heads) s.0 c (from z (contains_there y z ys c)) in
    rw (heads, same_rising xs ys r.1 s.1 rest_to rest_from) refl

-- ---- the set of some values

-- how a value stands to another, and what the tests of with_value say then
data Stands (v w : ℤ) : Type 0 where
  below : int_lt v w ≡ true → v <ℤ w → Stands v w
  same : int_lt v w ≡ false → int_lt w v ≡ false → v ≡ w → Stands v w
  above : int_lt v w ≡ false → int_lt w v ≡ true → w <ℤ v → Stands v w

lt_true : (v w : ℤ) → v <ℤ w → int_lt v w ≡ true
lt_true v w h = grind (arith, ints)

lt_false : (v w : ℤ) → w <ℤ v → int_lt v w ≡ false
lt_false v w h = grind (arith, ints)

lt_same : (v w : ℤ) → v ≡ w → int_lt v w ≡ false
lt_same v w e = grind (arith, ints)

stands : (v w : ℤ) → Stands v w
stands v w = go (int_cmp v w) (int_ranked v w (int_cmp v w) refl)
  where
    go : (o : Ordering) → MatchOrdering o (v <ℤ w) (v ≡ w) (w <ℤ v) → Stands v w
    go Less m = below (lt_true v w m) m
    go Equal m = same (lt_same v w m) (lt_same w v (sym m)) m
    go Greater m = above (lt_false v w m) (lt_true w v m) m

-- what with_value makes of a list with a first value
data With (v w : ℤ) (ws : List ℤ) : List ℤ → Type 0 where
  before : v <ℤ w → With v w ws (v ∷ w ∷ ws)
  there : v ≡ w → With v w ws (w ∷ ws)
  behind : w <ℤ v → With v w ws (w ∷ with_value v ws)

with_cases : (v w : ℤ) (ws : List ℤ) → With v w ws (with_value v (w ∷ ws))
with_cases v w ws = go (stands v w)
  where
    go : Stands v w → With v w ws (with_value v (w ∷ ws))
    go (below l h) = rw l (before h)
    go (same l e h) = rw (l, e) (there h)
    go (above l e h) = rw (l, e) (behind h)

with_member : (v z : ℤ) (ws : List ℤ) → Contains (with_value v ws) z → (v ≡ z) ⊎ Contains ws z
with_member v z [] c = contains_cases v z [] c
with_member v z (w ∷ ws) c = go (with_value v (w ∷ ws)) (with_cases v w ws) c (λ d. with_member v z ws d)
  where
    go : (us : List ℤ) → With v w ws us → Contains us z → (Contains (with_value v ws) z → (v ≡ z) ⊎ Contains ws z) → (v ≡ z) ⊎ Contains (w ∷ ws) z
    go _ (before h) c rec = contains_cases v z (w ∷ ws) c
    go _ (there h) c rec = inr c
    go _ (behind h) c rec =
        elim (contains_cases w z (with_value v ws) c) [
          | inl e ↦ inr (rw (← e) (contains_here w ws))
          | inr d ↦ elim (rec d) [ inl e ↦ inl e | inr f ↦ inr (contains_there w z ws f) ]
        ]

member_with : (v z : ℤ) (ws : List ℤ) → (v ≡ z) ⊎ Contains ws z → Contains (with_value v ws) z
member_with v z [] c = elim c [ inl e ↦ rw (← e) (contains_here v []) | inr d ↦ absurd (omega (arith, d.1)) ]
member_with v z (w ∷ ws) c = go (with_value v (w ∷ ws)) (with_cases v w ws) c (λ d. member_with v z ws d)
  where
    go : (us : List ℤ) → With v w ws us → (v ≡ z) ⊎ Contains (w ∷ ws) z → ((v ≡ z) ⊎ Contains ws z → Contains (with_value v ws) z) → Contains us z
    go _ (before h) c rec = elim c [ inl e ↦ rw (← e) (contains_here v (w ∷ ws)) | inr d ↦ contains_there v z (w ∷ ws) d ]
    go _ (there h) c rec = elim c [ inl e ↦ rw (← e, h) (contains_here w ws) | inr d ↦ d ]
    go _ (behind h) c rec =
        elim c [
          | inl e ↦ contains_there w z (with_value v ws) (rec (inl e))
          | inr d ↦ elim (contains_cases w z ws d) [
            | inl e ↦ rw (← e) (contains_here w (with_value v ws))
            | inr f ↦ contains_there w z (with_value v ws) (rec (inr f))
          ]
        ]

all_above : (x : ℤ) (ys : List ℤ) → ((z : ℤ) → Contains ys z → x <ℤ z) → AllByRecursion (λ y. x <ℤ y) ys
all_above x [] h = tt
all_above x (y ∷ ys) h = (h y (contains_here y ys), all_above x ys (λ z c. h z (contains_there y z ys c)))

further : (x y z : ℤ) → x <ℤ y → y <ℤ z → x <ℤ z
further x y z h k = omega (arith, ints)

further_all : (x y : ℤ) (zs : List ℤ) → x <ℤ y → AllByRecursion (λ z. y <ℤ z) zs → AllByRecursion (λ z. x <ℤ z) zs
further_all x y [] h k = tt
further_all x y (z ∷ zs) h k = (further x y z h k.0, further_all x y zs h k.1)

rises_with : (v : ℤ) (ws : List ℤ) → Rises ws → Rises (with_value v ws)
rises_with v [] r = (tt, tt)
rises_with v (w ∷ ws) r = go (with_value v (w ∷ ws)) (with_cases v w ws) (rises_with v ws r.1)
  where
    go : (us : List ℤ) → With v w ws us → Rises (with_value v ws) → Rises us
    go _ (before h) rec = ((h, further_all v w ws h r.0), r)
    go _ (there h) rec = r
    go _ (behind h) rec = (all_above w (with_value v ws) (λ z c. elim (with_member v z ws c) [ inl e ↦ rw (← e) h | inr d ↦ above_member w z ws r.0 d ]), rec)

pub rises_set : (vs : List ℤ) → Rises (set_of vs)
rises_set [] = tt
rises_set (v ∷ vs) = rises_with v (set_of vs) (rises_set vs)

pub set_member : (vs : List ℤ) (z : ℤ) → Contains (set_of vs) z → Contains vs z
set_member [] z c = c
set_member (v ∷ vs) z c =
    elim (with_member v z (set_of vs) c) [
      | inl e ↦ rw (← e) (contains_here v vs)
      | inr d ↦ contains_there v z vs (set_member vs z d)
    ]

pub member_set : (vs : List ℤ) (z : ℤ) → Contains vs z → Contains (set_of vs) z
member_set [] z c = c
member_set (v ∷ vs) z c =
    elim (contains_cases v z vs c) [
      | inl e ↦ member_with v z (set_of vs) (inl e)
      | inr d ↦ member_with v z (set_of vs) (inr (member_set vs z d))
    ]

-- ---- what a sort and a dedup leave is the set

eq_int : (x y : ℤ) → int_eq x y ≡ eq_by_cmp int_cmp x y
eq_int x y = refl

same_from_int_eq : (x y : ℤ) → int_eq x y ≡ true → x ≡ y
same_from_int_eq x y e = (Decides-int_eq x y).0 e

pub set_from_sort : (vs ws us : List ℤ) → IsPermutation vs ws → IsSorted int_cmp ws → IsFiltered (DiffersFromLast int_eq) [] ws us → us ≡ set_of vs
set_from_sort vs ws us moved sorted kept =
    let is : us ≡ dedup int_eq ws = dedup_is int_eq ws us kept in
    let rises : Rises us = rw is (rises_from_sorted (dedup int_eq ws) (IsStrictlySortedBy-dedup int_cmp_total eq_int ws sorted)) in
    same_rising us (set_of vs) rises (rises_set vs)
    (λ z c. member_set vs z (Contains-permutation ws vs z (IsPermutation-sym vs ws moved) (Contains-from_dedup int_eq ws z (rw is at c))))
    (λ z c. rw is (Contains-dedup int_eq_equiv same_from_int_eq ws z (Contains-permutation vs ws z moved (set_member vs z c))))
