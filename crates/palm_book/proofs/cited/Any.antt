-- Some member of a list.
use Rattle.std.proofs.Common.{◌≡◌, ℕ, zero, suc, ◌<◌, length, get_or, List, [], ◌∷◌, ◌++◌, map, Any, Contains, ◌⊎◌, inl, inr, sym, subst, arith}
use Rattle.palm_base.proofs.cited.Members.{member_here, member_there, member_map, member_unmap}
use Rattle.std.proofs.lemmas.List.Elements.{Contains-append_left, Contains-append_right, Contains-append_cases}

-- a member with the fact, by membership
pub any_member : {X : Type 0} (P : X → Type 0) (xs : List X) (x : X) → Contains xs x → P x → Any P xs
any_member P xs x m p = (m.0, x, m.1, m.2, p)

pub member_any : {X : Type 0} (P : X → Type 0) (xs : List X) → Any P xs → (x : X) × Contains xs x × P x
member_any P xs a = (a.1, (a.0, a.2, a.3), a.4)

pub any_here : {X : Type 0} (P : X → Type 0) (x : X) (xs : List X) → P x → Any P (x ∷ xs)
any_here P x xs p = any_member P (x ∷ xs) x (member_here x xs) p

pub any_there : {X : Type 0} (P : X → Type 0) (y : X) (xs : List X) → Any P xs → Any P (y ∷ xs)
any_there P y xs a = let m = member_any P xs a in any_member P (y ∷ xs) m.0 (member_there y xs m.0 m.1) m.2

pub any_left : {X : Type 0} (P : X → Type 0) (xs ys : List X) → Any P xs → Any P (xs ++ ys)
any_left P xs ys a = let m = member_any P xs a in any_member P (xs ++ ys) m.0 (Contains-append_left xs ys m.0 m.1) m.2

pub any_right : {X : Type 0} (P : X → Type 0) (xs ys : List X) → Any P ys → Any P (xs ++ ys)
any_right P xs ys a = let m = member_any P ys a in any_member P (xs ++ ys) m.0 (Contains-append_right xs ys m.0 m.1) m.2

pub any_append : {X : Type 0} (P : X → Type 0) (xs ys : List X) → Any P (xs ++ ys) → Any P xs ⊎ Any P ys
any_append P xs ys a =
    let m = member_any P (xs ++ ys) a in
    elim (Contains-append_cases xs ys m.0 m.1) [ inl l ↦ inl (any_member P xs m.0 l m.2) | inr r ↦ inr (any_member P ys m.0 r m.2) ]

pub any_map : {X Y : Type 0} (P : Y → Type 0) (f : X → Y) (xs : List X) → Any (λ x. P (f x)) xs → Any P (map f xs)
any_map P f xs a = let m = member_any (λ x. P (f x)) xs a in any_member P (map f xs) (f m.0) (member_map f xs m.0 m.1) m.2

pub any_unmap : {X Y : Type 0} (P : Y → Type 0) (f : X → Y) (xs : List X) → Any P (map f xs) → Any (λ x. P (f x)) xs
any_unmap P f xs a =
    let m = member_any P (map f xs) a in
    let u = member_unmap f xs m.0 m.1 in
    any_member (λ x. P (f x)) xs u.0 u.1 (subst P (sym u.2) m.2)

pub any_cases : {X : Type 0} (P : X → Type 0) (x : X) (xs : List X) → Any P (x ∷ xs) → P x ⊎ Any P xs
any_cases {X = X} P x xs a = go a.0 a.1 a.2 a.3 a.4
  where
    go : (k : ℕ) (y : X) → k < length (x ∷ xs) → get_or (x ∷ xs) k y ≡ y → P y → P x ⊎ Any P xs
    go zero y l e p = inl (subst P (sym e) p)
    go (suc k) y l e p = inr (k, y, omega arith, e, p)

pub any_none : {X : Type 0} (P : X → Type 0) → Any P [] → ⊥
any_none P a = absurd (omega (arith, a.2))
