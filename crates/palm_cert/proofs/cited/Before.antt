-- Lists in which each member stands in a relation to the later ones: rising numbers, names that differ.
use Rattle.std.proofs.Common.{◌≡◌, ℕ, zero, suc, ◌+◌, ◌<◌, ◌≤◌, Bool, true, false, cond, List, [], ◌∷◌, ◌++◌, length, get_or, filter, AllPairs, Contains, inl, inr, subst, arith}
use Rattle.std.specs.List.{range_with_len}
use Rattle.std.proofs.lemmas.List.Elements.{Contains-append_right}
use Rattle.std.proofs.lemmas.List.FromFn.{get_or-range_with_len, length-range_with_len}
use Rattle.palm_base.proofs.cited.Members.{member_nil, member_here, member_cases}

-- each member stands in the relation to the later ones
abbrev pub Before : {X : Type 0} (P : X → X → Type 0) → List X → Type 0
Before P [] = Unit {0}
Before {X = X} P (x ∷ xs) = ((y : X) → Contains xs y → P x y) × Before P xs

pub before_from : {X : Type 0} (P : X → X → Type 0) (xs : List X) → AllPairs P xs → Before P xs
before_from P [] all = tt
before_from P (x ∷ xs) all = (
  λ y m. subst (λ z. P x z) m.2 (all 0 (suc m.0) y (omega arith) (omega (arith, m.1))),
  before_from P xs (λ i j d below within. all (suc i) (suc j) d (omega (arith, below)) (omega (arith, within))),
)

-- those in front of a member stand in the relation to it
pub before_split : {X : Type 0} (P : X → X → Type 0) (earlier : List X) (x : X) (later : List X) → Before P (earlier ++ x ∷ later) → (y : X) → Contains earlier y → P y x
before_split P [] x later before y m = absurd (member_nil y m)
before_split P (e ∷ earlier) x later before y m = elim (member_cases e earlier y m) [
  | inl s ↦ subst (λ z. P z x) s (before.0 x (Contains-append_right earlier (x ∷ later) x (member_here x later)))
  | inr k ↦ before_split P earlier x later before.1 y k
]

-- ---- a range of numbers

pub range_rises : (n : ℕ) → AllPairs (λ x y. x < y) (range_with_len 0 n)
range_rises n i j d below within =
    let long = length-range_with_len 0 n in
    let second : j < n = omega (arith, long, within) in
    omega (arith, below, get_or-range_with_len 0 n i d (omega (arith, below, second)), get_or-range_with_len 0 n j d second)

pub range_within : (a n x : ℕ) → Contains (range_with_len a n) x → x < a + n
range_within a zero x m = absurd (member_nil x m)
range_within a (suc n) x m = elim (member_cases a (range_with_len (a + 1) n) x m) [
  | inl e ↦ omega (arith, e)
  | inr k ↦ let r = range_within (a + 1) n x k in omega (arith, r)
]

pub range_has : (n x : ℕ) → x < n → Contains (range_with_len 0 n) x
range_has n x lt =
    let long = length-range_with_len 0 n in
    let at : get_or (range_with_len 0 n) x x ≡ x = omega (arith, get_or-range_with_len 0 n x x lt) in
    (x, omega (arith, long, lt), at)

-- ---- a filter leaves no more

pub filter_shorter : {X : Type 0} (p : X → Bool) (xs : List X) → length (filter p xs) ≤ length xs
filter_shorter p [] = omega arith
filter_shorter p (x ∷ xs) = shorter (p x) (filter_shorter p xs)
  where
    shorter : (b : Bool) → length (filter p xs) ≤ length xs → length (cond b (x ∷ filter p xs) (filter p xs)) ≤ length (x ∷ xs)
    shorter true le = omega (arith, le)
    shorter false le = omega (arith, le)
