-- The words of reasons: removed values, the only value of a variable, the pairs of a variable.
use Rattle.std.proofs.Common.{Bool, true, false, not, ◌+◌, ◌<◌, ◌++◌, cond, take, get_or, append_assoc, append-nil, arith, ◌≡◌, ℕ, ℤ, List, [], ◌∷◌, flat_map, Contains, eqb, eq-eqb, refl, ap, ◌∙◌, subst, int_eq, length, map, filter, sym}
use Rattle.std.proofs.lemmas.Bool.{not-true, both_ways, eqb-true}
use Rattle.std.proofs.lemmas.Bool.Decides.{Decides-int_eq}
use Rattle.std.proofs.lemmas.Grind.{flat_map-append}
use Rattle.std.proofs.lemmas.List.{map-append, take_more}
use Rattle.std.proofs.lemmas.List.Elements.{filter_more, All-contains}
use Rattle.palm_base.proofs.cited.Members.{member_same, member_map, member_unmap, filter_member, member_filter, flat_map_member, member_flat_map, member_here, member_single}
use Rattle.palm_base.specs.declared.terms.Pair.{Pair}
use Rattle.palm_model.specs.Domains.{Domains, Has, values_of}
use Rattle.palm_model.specs.Removed.{is_listed, is_alone, pairs_of, others, removed_values}
use Rattle.palm_model.specs.Reason.{AreFilled}
use Rattle.palm_model.proofs.cited.Supports.{any_member, member_any, not_true}

pub listed_member : (vs : List ℤ) (v : ℤ) → is_listed vs v ≡ true → Contains vs v
listed_member vs v h = let r = any_member (λ w. int_eq w v) vs h in member_same vs r.0 v ((Decides-int_eq r.0 v).0 r.2) r.1

pub member_listed : (vs : List ℤ) (v : ℤ) → Contains vs v → is_listed vs v ≡ true
member_listed vs v m = member_any (λ w. int_eq w v) vs v m ((Decides-int_eq v v).1 refl)

pub member_not_listed : (vs : List ℤ) (v : ℤ) → (Contains vs v → ⊥) → not (is_listed vs v) ≡ true
member_not_listed vs v n = not_true (is_listed vs v) (λ t. n (listed_member vs v t))

-- the only value is there, and no other one is
pub alone_only : (vs : List ℤ) (v : ℤ) → is_alone vs v ≡ true → vs ≡ v ∷ []
alone_only [] v h = absurd (both_ways false refl h)
alone_only (w ∷ []) v h = ap (λ u. u ∷ []) ((Decides-int_eq w v).0 h)
alone_only (w ∷ u ∷ ws) v h = absurd (both_ways false refl h)

pub only_alone : (vs : List ℤ) (v : ℤ) → vs ≡ v ∷ [] → is_alone vs v ≡ true
only_alone vs v e = ap (λ ws. is_alone ws v) e ∙ (Decides-int_eq v v).1 refl

-- ---- removed values

pub removed_member : (initial present : Domains) (x : ℕ) (v : ℤ) → Contains (removed_values initial present x) v → Has initial x v × (Has present x v → ⊥)
removed_member initial present x v h =
    let r = filter_member (λ w. not (is_listed (values_of present x) w)) (values_of initial x) v h in
    (r.0, λ m. both_ways (is_listed (values_of present x) v) (not-true (is_listed (values_of present x) v) r.1) (member_listed (values_of present x) v m))

pub member_removed : (initial present : Domains) (x : ℕ) (v : ℤ) → Has initial x v → (Has present x v → ⊥) → Contains (removed_values initial present x) v
member_removed initial present x v h n =
    member_filter (λ w. not (is_listed (values_of present x) w)) (values_of initial x) v h
    (not_true (is_listed (values_of present x) v) (λ t. n (listed_member (values_of present x) v t)))

-- ---- the pairs of a variable

pub pairs_member : (x : ℕ) (vs : List ℤ) (p : Pair) → Contains (pairs_of x vs) p → (x ≡ p.var) × Contains vs p.value
pairs_member x vs p h =
    let r = member_unmap (λ v. let q : Pair = record { var = x; value = v } in q) vs p h in
    (ap (λ (q : Pair). q.var) r.2, member_same vs r.0 p.value (ap (λ (q : Pair). q.value) r.2) r.1)

pub member_pairs : (x : ℕ) (vs : List ℤ) (v : ℤ) → Contains vs v → Contains (pairs_of x vs) (record { var = x; value = v })
member_pairs x vs v m = member_map (λ v. let q : Pair = record { var = x; value = v } in q) vs v m

-- the pairs of several variables, each with values of its own
pub all_pairs_member : (f : ℕ → List ℤ) (xs : List ℕ) (p : Pair) → Contains (flat_map (λ y. pairs_of y (f y)) xs) p → Contains xs p.var × Contains (f p.var) p.value
all_pairs_member f xs p h =
    let r = flat_map_member (λ y. pairs_of y (f y)) xs p h in
    let s = pairs_member r.0 (f r.0) p r.2 in
    (member_same xs r.0 p.var s.0 r.1, subst (λ y. Contains (f y) p.value) s.0 s.1)

pub member_all_pairs : (f : ℕ → List ℤ) (xs : List ℕ) (x : ℕ) (v : ℤ) → Contains xs x → Contains (f x) v → Contains (flat_map (λ y. pairs_of y (f y)) xs) (record { var = x; value = v })
member_all_pairs f xs x v m h = member_flat_map (λ y. pairs_of y (f y)) xs x (record { var = x; value = v }) m (member_pairs x (f x) v h)

-- ---- the variables other than x

pub others_member : (xs : List ℕ) (x y : ℕ) → Contains (others xs x) y → Contains xs y × (y ≡ x → ⊥)
others_member xs x y h =
    let r = filter_member (λ z. not (eqb z x)) xs y h in
    (r.0, λ e. both_ways (eqb y x) (not-true (eqb y x) r.1) (eq-eqb y x e))

pub member_others : (xs : List ℕ) (x y : ℕ) → Contains xs y → (y ≡ x → ⊥) → Contains (others xs x) y
member_others xs x y m ne = member_filter (λ z. not (eqb z x)) xs y m (not_true (eqb y x) (λ t. ne (eqb-true y x t)))

-- ---- pairs that a walk over the values appends, where each value is tested

pub pairs_more : (test : ℤ → Bool) (x : ℕ) (vs : List ℤ) (i : ℕ) (v : ℤ) (before out now : List Pair) → i < length vs → v ≡ get_or vs i v → test v ≡ true → out ≡ before ++ pairs_of x (filter test (take i vs)) → now ≡ out ++ record { var = x; value = v } ∷ [] → now ≡ before ++ pairs_of x (filter test (take (i + 1) vs))
pairs_more test x vs i v before out now lt at t e f =
    let pair : ℤ → Pair = λ w. record { var = x; value = w } in
    let kept : filter test (take (i + 1) vs) ≡ filter test (take i vs) ++ v ∷ [] =
    filter_more test vs i v lt ∙ ap (λ w. filter test (take i vs) ++ cond (test w) (w ∷ []) []) (sym at) ∙ ap (λ b. filter test (take i vs) ++ cond b (v ∷ []) []) t in
    f ∙ ap (λ ps. ps ++ pair v ∷ []) e ∙ append_assoc before (map pair (filter test (take i vs))) (pair v ∷ [])
    ∙ ap (λ ps. before ++ ps) (sym (ap (map pair) kept ∙ map-append pair (filter test (take i vs)) (v ∷ [])))

pub pairs_same : (test : ℤ → Bool) (x : ℕ) (vs : List ℤ) (i : ℕ) (v : ℤ) (before out now : List Pair) → i < length vs → v ≡ get_or vs i v → test v ≡ false → out ≡ before ++ pairs_of x (filter test (take i vs)) → now ≡ out → now ≡ before ++ pairs_of x (filter test (take (i + 1) vs))
pairs_same test x vs i v before out now lt at t e f =
    let kept : filter test (take (i + 1) vs) ≡ filter test (take i vs) ++ [] =
    filter_more test vs i v lt ∙ ap (λ w. filter test (take i vs) ++ cond (test w) (w ∷ []) []) (sym at) ∙ ap (λ b. filter test (take i vs) ++ cond b (v ∷ []) []) t in
    f ∙ e ∙ ap (λ ws. before ++ pairs_of x ws) (sym (kept ∙ append-nil (filter test (take i vs))))

-- what a walk over variables or terms appends, one after another
pub parts_more : {X : Type 0} (f : X → List Pair) (xs : List X) (i : ℕ) (x : X) (before out now : List Pair) → i < length xs → x ≡ get_or xs i x → out ≡ before ++ flat_map f (take i xs) → now ≡ out ++ f x → now ≡ before ++ flat_map f (take (i + 1) xs)
parts_more f xs i x before out now lt at e t =
    let kept : flat_map f (take (i + 1) xs) ≡ flat_map f (take i xs) ++ f x =
    ap (flat_map f) (take_more xs i x lt ∙ ap (λ z. take i xs ++ z ∷ []) (sym at)) ∙ flat_map-append f (take i xs) (x ∷ []) ∙ ap (λ ps. flat_map f (take i xs) ++ ps) (append-nil (f x)) in
    t ∙ ap (λ ps. ps ++ f x) e ∙ append_assoc before (flat_map f (take i xs)) (f x) ∙ ap (λ ps. before ++ ps) (sym kept)

-- ---- domains that are not empty

-- a variable of the scope has some value
pub filled_value : (d : Domains) (xs : List ℕ) (x : ℕ) → AreFilled d xs → Contains xs x → (v : ℤ) × Has d x v
filled_value d xs x filled m = first_value (values_of d x) (All-contains (λ y. 0 < length (values_of d y)) xs x filled m)
  where
    first_value : (vs : List ℤ) → 0 < length vs → (v : ℤ) × Contains vs v
    first_value [] lt = absurd (omega (arith, lt))
    first_value (v ∷ vs) lt = (v, member_here v vs)

-- the value of a variable that has only one
pub single_value : (vs : List ℤ) → length vs ≡ 1 → (v : ℤ) × (vs ≡ v ∷ [])
single_value [] e = absurd (omega (arith, e))
single_value (v ∷ []) e = (v, refl)
single_value (v ∷ w ∷ vs) e = absurd (omega (arith, e))

-- a member of a list of length one is alone in it
pub alone_by_count : (vs : List ℤ) (v : ℤ) → length vs ≡ 1 → Contains vs v → is_alone vs v ≡ true
alone_by_count vs v e m =
    let r = single_value vs e in
    only_alone vs v (r.1 ∙ ap (λ w. w ∷ []) (member_single r.0 v (subst (λ ws. Contains ws v) r.1 m)))
