-- The first numbers of constraints: one is found by its id, changed at its place, and put in where there is none.
use Rattle.std.proofs.Common.{◌≡◌, ℕ, zero, suc, ◌≤◌, ◌<◌, true, false, cond, List, [], ◌∷◌, length, set, slice_get, Contains, Some, None, inl, inr, refl, sym, ap, ◌∙◌, subst, arith}
use Rattle.std.specs.List.{insert}
use Rattle.std.proofs.lemmas.Bool.{cases_Bool}
use Rattle.std.proofs.lemmas.Option.{slice_get_within}
use Rattle.std.proofs.lemmas.List.Elements.{All-contains}
use Rattle.palm_base.specs.declared.terms.Cid.{Cid}
use Rattle.palm_base.proofs.cited.Members.{member_get, member_here, member_same, member_there}
use Rattle.palm_base.specs.Order.{Rises, cid_before, same_cid}
use Rattle.palm_base.proofs.cited.CidOrder.{cid_same, not_before_itself, same_cid_itself}
use Rattle.palm_explain.specs.Firsts.{first_in}
use Rattle.palm_explain.proofs.Reasons.{some_same}

not_same : (a b : Cid) → (a ≡ b → ⊥) → same_cid a b ≡ false
not_same a b n = elim (cases_Bool (same_cid a b)) [ inl t ↦ absurd (n (cid_same a b t)) | inr f ↦ f ]

skip : (n c : Cid) (k : ℕ) (cids : List Cid) (numbers : List ℕ) → (n ≡ c → ⊥) → first_in (n ∷ cids) (k ∷ numbers) c ≡ first_in cids numbers c
skip n c k cids numbers differs = ap (λ b. cond b (Some k) (first_in cids numbers c)) (not_same n c differs)

here : (c : Cid) (k : ℕ) (cids : List Cid) (numbers : List ℕ) → first_in (c ∷ cids) (k ∷ numbers) c ≡ Some k
here c k cids numbers = ap (λ b. cond b (Some k) (first_in cids numbers c)) (same_cid_itself c)

after_first : (n : Cid) (cids : List Cid) → Rises (n ∷ cids) → (c : Cid) → Contains cids c → n ≡ c → ⊥
after_first n cids rises c m e = not_before_itself c (subst (λ z. cid_before z c ≡ true) e (All-contains (λ d. cid_before n d ≡ true) cids c rises.0 m))

-- ---- by place

pub found_first : (cids : List Cid) (numbers : List ℕ) (i : ℕ) (c : Cid) (k : ℕ) → Rises cids → slice_get cids i ≡ Some c → slice_get numbers i ≡ Some k → first_in cids numbers c ≡ Some k
found_first [] numbers i c k rises at is = cc
found_first (n ∷ cids) [] i c k rises at is = cc
found_first (n ∷ cids) (j ∷ numbers) zero c k rises at is =
    let e : n ≡ c = some_same n c at in
    subst (λ z. first_in (z ∷ cids) (j ∷ numbers) c ≡ Some k) (sym e) (here c j cids numbers ∙ is)
found_first (n ∷ cids) (j ∷ numbers) (suc i) c k rises at is =
    skip n c j cids numbers (after_first n cids rises c (member_get cids i c at)) ∙ found_first cids numbers i c k rises.1 at is

pub none_first : (cids : List Cid) (numbers : List ℕ) (c : Cid) → (Contains cids c → ⊥) → first_in cids numbers c ≡ None
none_first [] numbers c n = refl
none_first (m ∷ cids) [] c n = refl
none_first (m ∷ cids) (k ∷ numbers) c n =
    skip m c k cids numbers (λ e. n (member_same (m ∷ cids) m c e (member_here m cids))) ∙ none_first cids numbers c (λ j. n (member_there m cids c j))

set_at : (numbers : List ℕ) (i k : ℕ) → i < length numbers → slice_get (set numbers i k) i ≡ Some k
set_at [] i k lt = absurd (omega (arith, lt))
set_at (s ∷ numbers) zero k lt = refl
set_at (s ∷ numbers) (suc i) k lt = set_at numbers i k (omega (arith, lt))

pub set_first : (cids : List Cid) (numbers : List ℕ) (i : ℕ) (c : Cid) (k : ℕ) → Rises cids → slice_get cids i ≡ Some c → i < length numbers → first_in cids (set numbers i k) c ≡ Some k
set_first cids numbers i c k rises at lt = found_first cids (set numbers i k) i c k rises at (set_at numbers i k lt)

pub set_others : (cids : List Cid) (numbers : List ℕ) (i : ℕ) (c : Cid) (k : ℕ) (d : Cid) → slice_get cids i ≡ Some c → (c ≡ d → ⊥) → first_in cids (set numbers i k) d ≡ first_in cids numbers d
set_others [] numbers i c k d at n = refl
set_others (m ∷ cids) [] i c k d at n = refl
set_others (m ∷ cids) (s ∷ numbers) zero c k d at n =
    let differs : m ≡ d → ⊥ = λ e. n (sym (some_same m c at) ∙ e) in
    skip m d k cids numbers differs ∙ sym (skip m d s cids numbers differs)
set_others (m ∷ cids) (s ∷ numbers) (suc i) c k d at n = ap (λ r. cond (same_cid m d) (Some s) r) (set_others cids numbers i c k d at n)

-- one more id
pub insert_others : (cids : List Cid) (numbers : List ℕ) (i : ℕ) (c : Cid) (k : ℕ) (d : Cid) → i ≤ length cids → length numbers ≡ length cids → (c ≡ d → ⊥)
    → first_in (insert cids i c) (insert numbers i k) d ≡ first_in cids numbers d
insert_others cids numbers zero c k d le long n = skip c d k cids numbers n
insert_others [] numbers (suc i) c k d le long n = absurd (omega (arith, le))
insert_others (m ∷ cids) [] (suc i) c k d le long n = absurd (omega (arith, long))
insert_others (m ∷ cids) (s ∷ numbers) (suc i) c k d le long n =
    ap (λ r. cond (same_cid m d) (Some s) r) (insert_others cids numbers i c k d (omega (arith, le)) (omega (arith, long)) n)

pub insert_at : {X : Type 0} (xs : List X) (i : ℕ) (x : X) → i ≤ length xs → slice_get (insert xs i x) i ≡ Some x
insert_at xs zero x le = refl
insert_at [] (suc i) x le = absurd (omega (arith, le))
insert_at (y ∷ xs) (suc i) x le = insert_at xs i x (omega (arith, le))

pub insert_first : (cids : List Cid) (numbers : List ℕ) (i : ℕ) (c : Cid) (k : ℕ) → i ≤ length cids → length numbers ≡ length cids → Rises (insert cids i c) → first_in (insert cids i c) (insert numbers i k) c ≡ Some k
insert_first cids numbers i c k le long rises = found_first (insert cids i c) (insert numbers i k) i c k rises (insert_at cids i c le) (insert_at numbers i k (omega (arith, le, long)))

pub set_long : (numbers : List ℕ) (i k : ℕ) → length (set numbers i k) ≡ length numbers
set_long [] i k = refl
set_long (s ∷ numbers) zero k = refl
set_long (s ∷ numbers) (suc i) k = ap suc (set_long numbers i k)

-- the number at the place of an id
pub first_there : (cids : List Cid) (numbers : List ℕ) (i : ℕ) (c : Cid) → length numbers ≡ length cids → slice_get cids i ≡ Some c → i < length numbers
first_there cids numbers i c long at = let lt = slice_get_within cids i c at in omega (arith, lt, long)

pub first_at : (numbers : List ℕ) (i : ℕ) → i < length numbers → (k : ℕ) × (slice_get numbers i ≡ Some k)
first_at [] i lt = absurd (omega (arith, lt))
first_at (k ∷ numbers) zero lt = (k, refl)
first_at (k ∷ numbers) (suc i) lt = first_at numbers i (omega (arith, lt))

pub none_some : (k : ℕ) → None ≡ Some k → ⊥
none_some k e = cc
