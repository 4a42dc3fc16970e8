-- The order of the ids of constraints, and lists in this order.
use Rattle.std.specs.Prelude.{◌≡◌, ℕ, zero, suc, ◌≤◌, ⊤, Bool, true, false, ◌&&◌, ◌||◌, List, [], ◌∷◌, ◌++◌, length, filter, All, Contains, IsSomeAnd, IfSome, nat_eq, nat_lt, int_lt, slice_get}
use Rattle.std.specs.List.{AllWithin}
use Rattle.std.specs.Ordering.{int_eq}
use Rattle.palm_base.specs.declared.terms.Pair.{Pair}
use Rattle.palm_base.specs.declared.terms.Cid.{Cid}
use Rattle.palm_base.specs.declared.terms.Cid.TheVariants.{Decide, Not, User}

-- whether the two pairs are one
abbrev pub same_pair : Pair → Pair → Bool
same_pair p q = nat_eq p.var q.var && int_eq p.value q.value

-- whether the first pair comes before the second: by variable, then by value
abbrev pub pair_before : Pair → Pair → Bool
pair_before p q = nat_lt p.var q.var || (nat_eq p.var q.var && int_lt p.value q.value)

-- whether the two ids are one
abbrev pub same_cid : Cid → Cid → Bool
same_cid (Decide x) (Decide y) = nat_eq x y
same_cid (Decide x) (Not q) = false
same_cid (Decide x) (User n) = false
same_cid (Not p) (Decide y) = false
same_cid (Not p) (Not q) = same_pair p q
same_cid (Not p) (User n) = false
same_cid (User m) (Decide y) = false
same_cid (User m) (Not q) = false
same_cid (User m) (User n) = nat_eq m n

-- whether the first id comes before the second: decisions by variable, then negations by pair, then users by number
abbrev pub cid_before : Cid → Cid → Bool
cid_before (Decide x) (Decide y) = nat_lt x y
cid_before (Decide x) (Not q) = true
cid_before (Decide x) (User n) = true
cid_before (Not p) (Decide y) = false
cid_before (Not p) (Not q) = pair_before p q
cid_before (Not p) (User n) = true
cid_before (User m) (Decide y) = false
cid_before (User m) (Not q) = false
cid_before (User m) (User n) = nat_lt m n

-- each id comes before those after it
abbrev pub Rises : List Cid → Type 0
Rises [] = ⊤
Rises (c ∷ cs) = All (λ d. cid_before c d ≡ true) cs × Rises cs

-- the ids with this one at its place
abbrev pub with_cid : Cid → List Cid → List Cid
with_cid cid cids = filter (λ c. cid_before c cid) cids ++ cid ∷ filter (λ c. cid_before cid c) cids

-- ---- places

-- those before the place pass the test, and the others fail it
pub record IsPartedAt {X : Type 0} (test : X → Bool) (xs : List X) (place : ℕ) : Type 0 where
  pub within : place ≤ length xs
  pub before : AllWithin (λ x. test x ≡ true) xs 0 place
  pub after : AllWithin (λ x. test x ≡ false) xs place (length xs)

-- what stands at the place has the id
abbrev pub StandsAt : {X : Type 0} → (X → Cid) → List X → ℕ → Cid → Type 0
StandsAt id xs place cid = IsSomeAnd (slice_get xs place) (λ x. id x ≡ cid)

-- the place is the first, or what stands before it comes before the id
abbrev pub StandsBehind : {X : Type 0} → (X → Cid) → List X → ℕ → Cid → Type 0
StandsBehind id xs zero cid = ⊤
StandsBehind id xs (suc before) cid = IsSomeAnd (slice_get xs before) (λ x. cid_before (id x) cid ≡ true)

-- what stands at the place, if something does, does not come before the id
abbrev pub StandsInFront : {X : Type 0} → (X → Cid) → List X → ℕ → Cid → Type 0
StandsInFront id xs place cid = IfSome (slice_get xs place) (λ x. cid_before (id x) cid ≡ false)

-- nothing has the id, and what has it would stand at the place
pub record BelongsAt {X : Type 0} (id : X → Cid) (xs : List X) (place : ℕ) (cid : Cid) : Type 0 where
  pub parted : IsPartedAt (λ x. cid_before (id x) cid) xs place
  pub absent : (x : X) → Contains xs x → id x ≡ cid → ⊥
