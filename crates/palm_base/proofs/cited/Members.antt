-- Membership in lists, and what is known of each member. Lists and members are explicit, since no type shows them.
-- std has more: `Contains-append_left`, `Contains-append_right`, `Contains-append_cases`, `Contains-push`,
-- `Contains-push_cases`, `Contains-get_or`, `All-contains`, of `Rattle.std.proofs.lemmas.List.Elements`.
use Rattle.std.proofs.Common.{◌≡◌, ℕ, zero, suc, ◌+◌, ◌++◌, ◌<◌, Bool, true, false, cond, List, [], ◌∷◌, map, length, get_or, take, drop, slice_get, remove, filter, flat_map, All, Contains, Some, ℤ, Decides, ◌⊎◌, inl, inr, refl, sym, ap, ◌∙◌, subst, arith, int_eq}
use Rattle.std.proofs.lemmas.List.Elements.{Contains-push_cases, Contains-append_left, Contains-append_right, Contains-append_cases, All-weaker, All-contains_itself}
use Rattle.std.proofs.lemmas.List.{take_more}
use Rattle.std.proofs.lemmas.Option.{slice_get_within, get_or_from_slice_get, slice_get-get_or}
use Rattle.std.proofs.lemmas.Bool.{cases_eq}
use Rattle.std.proofs.lemmas.Bool.Decides.{Decides-int_eq, not_from_Decides}

-- ---- an empty list, and one with a first member

pub member_nil : {X : Type 0} (x : X) → Contains [] x → ⊥
member_nil x h = absurd (omega (arith, h.1))

pub member_here : {X : Type 0} (x : X) (xs : List X) → Contains (x ∷ xs) x
member_here x xs = (0, omega arith, refl)

pub member_there : {X : Type 0} (y : X) (xs : List X) (x : X) → Contains xs x → Contains (y ∷ xs) x
member_there y xs x h = (suc h.0, omega (arith, h.1), h.2)

at_cases : {X : Type 0} (y : X) (xs : List X) (x : X) (k : ℕ) → k < length (y ∷ xs) → get_or (y ∷ xs) k x ≡ x → (y ≡ x) ⊎ Contains xs x
at_cases y xs x zero lt e = inl e
at_cases y xs x (suc k) lt e = inr (k, omega arith, e)

pub member_cases : {X : Type 0} (y : X) (xs : List X) (x : X) → Contains (y ∷ xs) x → (y ≡ x) ⊎ Contains xs x
member_cases y xs x h = at_cases y xs x h.0 h.1 h.2

-- a member of a list of one is that one
pub member_single : {X : Type 0} (y x : X) → Contains (y ∷ []) x → y ≡ x
member_single y x h = elim (member_cases y [] x h) [ inl e ↦ e | inr m ↦ absurd (member_nil x m) ]

-- a member other than the first one is among the others
pub member_tail : {X : Type 0} (y : X) (xs : List X) (x : X) → (y ≡ x → ⊥) → Contains (y ∷ xs) x → Contains xs x
member_tail y xs x ne h = elim (member_cases y xs x h) [ inl e ↦ absurd (ne e) | inr m ↦ m ]

-- an equal value is a member too
pub member_same : {X : Type 0} (xs : List X) (x y : X) → x ≡ y → Contains xs x → Contains xs y
member_same xs x y e h = subst (λ z. Contains xs z) e h

-- ---- `All` says the same as a fact of each member

pub all_members : {X : Type 0} (P : X → Type 0) (xs : List X) → ((x : X) → Contains xs x → P x) → All P xs
all_members P xs each = All-weaker (Contains xs) P each xs (All-contains_itself xs)

-- ---- `map`, `filter`, `flat_map`

pub member_map : {X Y : Type 0} (f : X → Y) (xs : List X) (x : X) → Contains xs x → Contains (map f xs) (f x)
member_map f [] x h = absurd (member_nil x h)
member_map f (y ∷ xs) x h = elim (member_cases y xs x h) [
  | inl e ↦ member_same (map f (y ∷ xs)) (f y) (f x) (ap f e) (member_here (f y) (map f xs))
  | inr m ↦ member_there (f y) (map f xs) (f x) (member_map f xs x m)
]

pub member_unmap : {X Y : Type 0} (f : X → Y) (xs : List X) (y : Y) → Contains (map f xs) y → (x : X) × Contains xs x × (f x ≡ y)
member_unmap f [] y h = absurd (member_nil y h)
member_unmap f (x ∷ xs) y h = elim (member_cases (f x) (map f xs) y h) [
  | inl e ↦ (x, member_here x xs, e)
  | inr m ↦ let r = member_unmap f xs y m in (r.0, member_there x xs r.0 r.1, r.2)
]

-- functions that agree at each member give the same list
pub map_agree : {X Y : Type 0} (f g : X → Y) (xs : List X) → ((x : X) → Contains xs x → f x ≡ g x) → map f xs ≡ map g xs
map_agree f g [] same = refl
map_agree f g (x ∷ xs) same =
    ap (λ y. y ∷ map f xs) (same x (member_here x xs)) ∙ ap (λ ys. g x ∷ ys) (map_agree f g xs (λ z m. same z (member_there x xs z m)))

filter_cons_member : {X : Type 0} (p : X → Bool) (y : X) (xs : List X) (x : X) (b : Bool) → p y ≡ b → Contains (cond b (y ∷ filter p xs) (filter p xs)) x → ((y ≡ x) × (p x ≡ true)) ⊎ Contains (filter p xs) x
filter_cons_member p y xs x true e h = elim (member_cases y (filter p xs) x h) [ inl s ↦ inl (s, ap p (sym s) ∙ e) | inr m ↦ inr m ]
filter_cons_member p y xs x false e h = inr h

-- what a filter keeps is in the list and passes the test
pub filter_member : {X : Type 0} (p : X → Bool) (xs : List X) (x : X) → Contains (filter p xs) x → Contains xs x × (p x ≡ true)
filter_member p [] x h = absurd (member_nil x h)
filter_member p (y ∷ xs) x h = elim (filter_cons_member p y xs x (p y) refl h) [
  | inl s ↦ (member_same (y ∷ xs) y x s.0 (member_here y xs), s.1)
  | inr m ↦ let r = filter_member p xs x m in (member_there y xs x r.0, r.1)
]

filter_keeps_first : {X : Type 0} (p : X → Bool) (y : X) (xs : List X) (b : Bool) → b ≡ true → Contains (cond b (y ∷ filter p xs) (filter p xs)) y
filter_keeps_first p y xs true e = member_here y (filter p xs)
filter_keeps_first p y xs false e = cc

filter_keeps_rest : {X : Type 0} (p : X → Bool) (y : X) (xs : List X) (x : X) (b : Bool) → Contains (filter p xs) x → Contains (cond b (y ∷ filter p xs) (filter p xs)) x
filter_keeps_rest p y xs x true m = member_there y (filter p xs) x m
filter_keeps_rest p y xs x false m = m

-- what is in the list and passes the test is kept
pub member_filter : {X : Type 0} (p : X → Bool) (xs : List X) (x : X) → Contains xs x → p x ≡ true → Contains (filter p xs) x
member_filter p [] x h t = absurd (member_nil x h)
member_filter p (y ∷ xs) x h t = elim (member_cases y xs x h) [
  | inl e ↦ member_same (filter p (y ∷ xs)) y x e (filter_keeps_first p y xs (p y) (ap p e ∙ t))
  | inr m ↦ filter_keeps_rest p y xs x (p y) (member_filter p xs x m t)
]

-- tests that agree at each member keep the same members
pub filter_agree_members : {X : Type 0} (p q : X → Bool) (xs : List X) → ((x : X) → Contains xs x → p x ≡ q x) → filter p xs ≡ filter q xs
filter_agree_members p q [] same = refl
filter_agree_members p q (x ∷ xs) same =
    ap (λ b. cond b (x ∷ filter p xs) (filter p xs)) (same x (member_here x xs))
    ∙ ap (λ ys. cond (q x) (x ∷ ys) ys) (filter_agree_members p q xs (λ z m. same z (member_there x xs z m)))

pub member_flat_map : {X Y : Type 0} (f : X → List Y) (xs : List X) (x : X) (y : Y) → Contains xs x → Contains (f x) y → Contains (flat_map f xs) y
member_flat_map f [] x y h m = absurd (member_nil x h)
member_flat_map f (z ∷ xs) x y h m = elim (member_cases z xs x h) [
  | inl e ↦ Contains-append_left (f z) (flat_map f xs) y (subst (λ w. Contains (f w) y) (sym e) m)
  | inr r ↦ Contains-append_right (f z) (flat_map f xs) y (member_flat_map f xs x y r m)
]

pub flat_map_member : {X Y : Type 0} (f : X → List Y) (xs : List X) (y : Y) → Contains (flat_map f xs) y → (x : X) × Contains xs x × Contains (f x) y
flat_map_member f [] y h = absurd (member_nil y h)
flat_map_member f (x ∷ xs) y h = elim (Contains-append_cases (f x) (flat_map f xs) y h) [
  | inl m ↦ (x, member_here x xs, m)
  | inr m ↦ let r = flat_map_member f xs y m in (r.0, member_there x xs r.0 r.1, r.2)
]

-- ---- `slice_get`, `take`, `drop`, `remove`

pub member_get : {X : Type 0} (xs : List X) (k : ℕ) (x : X) → slice_get xs k ≡ Some x → Contains xs x
member_get xs k x e = (k, slice_get_within xs k x e, get_or_from_slice_get xs k x x e)

-- a member stands at a place
pub member_place : {X : Type 0} (xs : List X) (x : X) → Contains xs x → (k : ℕ) × (slice_get xs k ≡ Some x)
member_place xs x h = (h.0, slice_get-get_or xs h.0 x h.1 ∙ ap Some h.2)

pub member_take : {X : Type 0} (n : ℕ) (xs : List X) (x : X) → Contains (take n xs) x → Contains xs x
member_take zero xs x h = absurd (member_nil x h)
member_take (suc n) [] x h = absurd (member_nil x h)
member_take (suc n) (y ∷ xs) x h = elim (member_cases y (take n xs) x h) [
  | inl e ↦ member_same (y ∷ xs) y x e (member_here y xs)
  | inr m ↦ member_there y xs x (member_take n xs x m)
]

-- the members of one more place of the list
pub member_take_more : {X : Type 0} (xs : List X) (i : ℕ) (x y : X) → i < length xs → x ≡ get_or xs i x → Contains (take (i + 1) xs) y → Contains (take i xs) y ⊎ (x ≡ y)
member_take_more xs i x y lt at h =
    Contains-push_cases (take i xs) x y (subst (λ ys. Contains ys y) (take_more xs i x lt ∙ ap (λ z. take i xs ++ z ∷ []) (sym at)) h)

pub member_drop : {X : Type 0} (n : ℕ) (xs : List X) (x : X) → Contains (drop n xs) x → Contains xs x
member_drop zero xs x h = h
member_drop (suc n) [] x h = absurd (member_nil x h)
member_drop (suc n) (y ∷ xs) x h = member_there y xs x (member_drop n xs x h)

pub remove_member : {X : Type 0} (xs : List X) (i : ℕ) (x : X) → Contains (remove xs i) x → Contains xs x
remove_member xs i x h = elim (Contains-append_cases (take i xs) (drop (suc i) xs) x h) [
  | inl m ↦ member_take i xs x m
  | inr m ↦ member_drop (suc i) xs x m
]

-- a member other than the one at the place stays
pub member_remove : {X : Type 0} (xs : List X) (i : ℕ) (v x : X) → slice_get xs i ≡ Some v → (v ≡ x → ⊥) → Contains xs x → Contains (remove xs i) x
member_remove [] i v x e ne h = absurd (member_nil x h)
member_remove (y ∷ xs) zero v x e ne h = let s : y ≡ v = cc in member_tail y xs x (λ t. ne (sym s ∙ t)) h
member_remove (y ∷ xs) (suc i) v x e ne h = elim (member_cases y xs x h) [
  | inl s ↦ member_same (y ∷ remove xs i) y x s (member_here y (remove xs i))
  | inr m ↦ member_there y (remove xs i) x (member_remove xs i v x e ne m)
]

-- ---- what is known

-- a fact holds, or it does not
abbrev pub Known : Type 0 → Type 0
Known P = P ⊎ (P → ⊥)

pub known_like : {P Q : Type 0} → (P → Q) → (Q → P) → Known P → Known Q
known_like to back known = elim known [ inl p ↦ inl (to p) | inr n ↦ inr (λ q. n (back q)) ]

pub known_both : {P Q : Type 0} → Known P → Known Q → Known (P × Q)
known_both p q = elim p [
  | inl a ↦ elim q [ inl b ↦ inl (a, b) | inr n ↦ inr (λ r. n r.1) ]
  | inr n ↦ inr (λ r. n r.0)
]

pub known_not : {P : Type 0} → Known P → Known (P → ⊥)
known_not known = elim known [ inl p ↦ inr (λ n. n p) | inr n ↦ inl n ]

pub known_test : {P : Type 0} (b : Bool) → Decides b P → Known P
known_test true d = inl (d.0 refl)
known_test false d = inr (not_from_Decides false d refl)

pub nat_known : (m n : ℕ) → Known (m ≡ n)
nat_known m n = cases_eq m n

pub int_known : (m n : ℤ) → Known (m ≡ n)
int_known m n = known_test (int_eq m n) (Decides-int_eq m n)

pub list_known : {X : Type 0} → ((x y : X) → Known (x ≡ y)) → (xs ys : List X) → Known (xs ≡ ys)
list_known same [] [] = inl refl
list_known same [] (y ∷ ys) = inr (λ e. cc)
list_known same (x ∷ xs) [] = inr (λ e. cc)
list_known same (x ∷ xs) (y ∷ ys) = elim (same x y) [
  | inl e ↦ elim (list_known same xs ys) [ inl s ↦ inl (cc) | inr n ↦ inr (λ t. n (cc)) ]
  | inr n ↦ inr (λ t. n (cc))
]

pub member_known : {X : Type 0} → ((x y : X) → Known (x ≡ y)) → (xs : List X) (x : X) → Known (Contains xs x)
member_known same [] x = inr (λ h. member_nil x h)
member_known same (y ∷ xs) x = elim (same y x) [
  | inl e ↦ inl (member_same (y ∷ xs) y x e (member_here y xs))
  | inr n ↦ known_like (member_there y xs x) (member_tail y xs x n) (member_known same xs x)
]

-- some member has a known property, or no member has it
pub any_known : {X : Type 0} (P : X → Type 0) (xs : List X) → ((x : X) → Contains xs x → Known (P x)) → ((x : X) × Contains xs x × P x) ⊎ ((x : X) → Contains xs x → P x → ⊥)
any_known P [] known = inr (λ x h p. member_nil x h)
any_known P (y ∷ xs) known = elim (known y (member_here y xs)) [
  | inl p ↦ inl (y, member_here y xs, p)
  | inr n ↦ elim (any_known P xs (λ x m. known x (member_there y xs x m))) [
    | inl r ↦ inl (r.0, member_there y xs r.0 r.1, r.2)
    | inr none ↦ inr (λ x h p. elim (member_cases y xs x h) [ inl e ↦ n (subst P (sym e) p) | inr m ↦ none x m p ])
  ]
]

-- every member has a known property, or some member lacks it
pub all_known : {X : Type 0} (P : X → Type 0) (xs : List X) → ((x : X) → Contains xs x → Known (P x)) → ((x : X) → Contains xs x → P x) ⊎ ((x : X) × Contains xs x × (P x → ⊥))
all_known P xs known = elim (any_known (λ x. P x → ⊥) xs (λ x m. known_not (known x m))) [
  | inl r ↦ inr r
  | inr none ↦ inl (λ x m. elim (known x m) [ inl p ↦ p | inr n ↦ absurd (none x m n) ])
]
