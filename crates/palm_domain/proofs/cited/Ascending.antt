-- Ascending lists of values.
use Rattle.std.proofs.Common.{◌≡◌, ℕ, zero, suc, ℤ, pos, negsuc, ◌+ℤ◌, ◌<◌, ◌≤◌, ◌<ℤ◌, ◌≤ℤ◌, List, [], ◌∷◌, ◌++◌, length, get_or, All, Contains, refl, sym, subst, arith, inl, inr, ⊎_elim, ap₂}
use Rattle.std.specs.Int.{int_gap}
use Rattle.std.proofs.lemmas.Int.{ints, by_lt_z}
use Rattle.std.proofs.lemmas.Bool.{cases_lt, cases_order}
use Rattle.std.proofs.lemmas.List.Elements.{All-contains, Contains-append_cases}
use Rattle.std.proofs.lemmas.List.{get_or_past}
use Rattle.palm_base.proofs.cited.Members.{member_nil, member_here, member_there, member_cases, member_tail, member_single, all_members}
use Rattle.palm_domain.specs.Rows.{Ascends}

-- an earlier place has a lower value
pub get_or-ascends : (xs : List ℤ) → Ascends xs → (i j : ℕ) (d e : ℤ) → i < j → j < length xs → get_or xs i d <ℤ get_or xs j e
get_or-ascends [] a i j d e l m = absurd (omega arith)
get_or-ascends (x ∷ xs) a i zero d e l m = absurd (omega arith)
get_or-ascends (x ∷ xs) a zero (suc j) d e l m = a.0 j e (omega arith)
get_or-ascends (x ∷ xs) a (suc i) (suc j) d e l m = get_or-ascends xs a.1 i j d e (omega arith) (omega arith)

-- no later place has a lower value
pub get_or-rises : (xs : List ℤ) → Ascends xs → (i j : ℕ) (d e : ℤ) → i ≤ j → j < length xs → get_or xs i d ≤ℤ get_or xs j e
get_or-rises [] a i j d e l m = absurd (omega arith)
get_or-rises (x ∷ xs) a zero zero d e l m = omega (arith, ints)
get_or-rises (x ∷ xs) a (suc i) zero d e l m = absurd (omega arith)
get_or-rises (x ∷ xs) a zero (suc j) d e l m = omega (arith, ints, a.0 j e (omega arith))
get_or-rises (x ∷ xs) a (suc i) (suc j) d e l m = get_or-rises xs a.1 i j d e (omega arith) (omega arith)

-- each step takes at least one
pub get_or-steps : (xs : List ℤ) → Ascends xs → (i : ℕ) (d e : ℤ) → i < length xs → (get_or xs 0 d +ℤ pos i) ≤ℤ get_or xs i e
get_or-steps [] a i d e m = absurd (omega arith)
get_or-steps (x ∷ xs) a zero d e m = omega (arith, ints)
get_or-steps (x ∷ []) a (suc i) d e m = absurd (omega arith)
get_or-steps (x ∷ y ∷ ys) a (suc i) d e m =
    omega (arith, ints, a.0 0 d (omega arith), get_or-steps (y ∷ ys) a.1 i d e (omega arith))

-- a number that is as far up as the gap has passed it
pub int_gap_reaches : (low high : ℤ) (k : ℕ) → int_gap low high ≤ k → high ≤ℤ (low +ℤ pos k)
int_gap_reaches (pos a) (pos b) k h = omega (arith, ints)
int_gap_reaches (pos a) (negsuc b) k h = omega (arith, ints)
int_gap_reaches (negsuc a) (pos b) k h = omega (arith, ints)
int_gap_reaches (negsuc a) (negsuc b) k h = omega (arith, ints)

-- two places with one value are one place
pub same_place : (xs : List ℤ) → Ascends xs → (i j : ℕ) (d e : ℤ) → i < length xs → j < length xs → get_or xs i d ≡ get_or xs j e → i ≡ j
same_place xs a i j d e l m same = elim (cases_order i j) [
  | inl s ↦ s
  | inr o ↦ elim o [
    | inl below ↦ absurd (omega (arith, ints, get_or-ascends xs a i j d e below m))
    | inr above ↦ absurd (omega (arith, ints, get_or-ascends xs a j i e d above l))
  ]
]

-- a place below a higher value is lower
pub place_below : (xs : List ℤ) → Ascends xs → (i j : ℕ) (d e : ℤ) → i < length xs → get_or xs i d <ℤ get_or xs j e → i < j
place_below xs a i j d e l below = ⊎_elim (λ lt. lt) (λ ge. absurd (omega (arith, ints, get_or-rises xs a j i e d ge l))) (cases_lt i j)

-- the first value is below each of the others
pub first_below : (x : ℤ) (xs : List ℤ) → Ascends (x ∷ xs) → (v : ℤ) → Contains xs v → x <ℤ v
first_below x xs a v h = All-contains (λ w. x <ℤ w) xs v a.0 h

-- ascending lists with the same members are the same
pub same_ascending : (xs ys : List ℤ) → Ascends xs → Ascends ys → ((v : ℤ) → Contains xs v → Contains ys v) → ((v : ℤ) → Contains ys v → Contains xs v) → xs ≡ ys
same_ascending [] [] a b to back = refl
same_ascending [] (y ∷ ys) a b to back = absurd (member_nil y (back y (member_here y ys)))
same_ascending (x ∷ xs) [] a b to back = absurd (member_nil x (to x (member_here x xs)))
same_ascending (x ∷ xs) (y ∷ ys) a b to back =
    let same : x ≡ y = elim (member_cases y ys x (to x (member_here x xs))) [
      | inl e ↦ sym e
      | inr m ↦ elim (member_cases x xs y (back y (member_here y ys))) [
        | inl e ↦ e
        | inr n ↦ absurd (omega (arith, ints, first_below y ys b x m, first_below x xs a y n))
      ]
    ] in
    let rest = same_ascending xs ys a.1 b.1 (λ v m. member_tail y ys v (λ e. omega (arith, ints, first_below x xs a v m, same, e)) (to v (member_there x xs v m)))
    (λ v m. member_tail x xs v (λ e. omega (arith, ints, first_below y ys b v m, same, e)) (back v (member_there y ys v m))) in
    ap₂ (λ z zs. z ∷ zs) same rest

pub Ascends-cons : (x : ℤ) (xs : List ℤ) → ((v : ℤ) → Contains xs v → x <ℤ v) → Ascends xs → Ascends (x ∷ xs)
Ascends-cons x xs below a = (all_members (λ w. x <ℤ w) xs below, a)

-- a number that is not below another and is not it is above it
pub above_others : (v w : ℤ) → v ≤ℤ w → (w ≡ v → ⊥) → v <ℤ w
above_others v w le apart = by_lt_z v w (λ l. l) (λ g. absurd (apart (omega (arith, ints))))

-- where each value is below the next one, the list ascends
pub Ascends-from_adjacent : (xs : List ℤ) → ((k : ℕ) (d e : ℤ) → suc k < length xs → get_or xs k d <ℤ get_or xs (suc k) e) → Ascends xs
Ascends-from_adjacent [] next = tt
Ascends-from_adjacent (x ∷ []) next = Ascends-cons x [] (λ v m. absurd (member_nil v m)) tt
Ascends-from_adjacent (x ∷ y ∷ ys) next =
    let rest = Ascends-from_adjacent (y ∷ ys) (λ k d e l. next (suc k) d e (omega arith)) in
    let first : x <ℤ y = next 0 x x (omega arith) in
    Ascends-cons x (y ∷ ys) (λ v m. elim (member_cases y ys v m) [
      | inl e ↦ subst (λ w. x <ℤ w) e first
      | inr n ↦ omega (arith, ints, first, first_below y ys rest v n)
    ]) rest

-- a higher value at the end
pub Ascends-push : (xs : List ℤ) (v : ℤ) → Ascends xs → ((w : ℤ) → Contains xs w → w <ℤ v) → Ascends (xs ++ v ∷ [])
Ascends-push [] v a below = Ascends-cons v [] (λ w m. absurd (member_nil w m)) tt
Ascends-push (x ∷ xs) v a below =
    Ascends-cons x (xs ++ v ∷ []) (λ w m. elim (Contains-append_cases xs (v ∷ []) w m) [
      | inl n ↦ first_below x xs a w n
      | inr n ↦ subst (λ u. x <ℤ u) (member_single v w n) (below x (member_here x xs))
    ]) (Ascends-push xs v a.1 (λ w m. below w (member_there x xs w m)))

-- the values of a variable of ascending lists ascend
pub Ascends-at : (lists : List (List ℤ)) (x : ℕ) → All Ascends lists → Ascends (get_or lists x [])
Ascends-at lists x all = ⊎_elim (λ l. all x [] l) (λ ge. subst Ascends (sym (get_or_past lists x [] ge)) tt) (cases_lt x (length lists))
