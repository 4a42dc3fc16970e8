-- What is read from the decisions and from a nogood.
use Rattle.std.proofs.Common.{◌≡◌, ℕ, zero, suc, ◌+◌, ◌<◌, Bool, true, false, not, cond, Option, None, Some, List, [], ◌∷◌, ◌++◌, filter, length, map, slice_get, slice_set, get_or, take, drop, replicate, Contains, ℤ, ◌⊎◌, inl, inr, refl, sym, ap, ◌∙◌, subst, arith}
use Rattle.std.specs.Prelude.{is_some}
use Rattle.std.proofs.lemmas.Bool.{cases_eq}
use Rattle.std.proofs.lemmas.Bool.Decides.{Decides-int_eq}
use Rattle.std.proofs.lemmas.List.{take_more, map-append, append-nil}
use Rattle.std.proofs.lemmas.List.Elements.{Contains-append_left, Contains-append_right, filter-append}
use Rattle.palm_base.specs.declared.terms.Pair.{Pair}
use Rattle.palm_base.specs.declared.terms.Cid.{Cid}
use Rattle.palm_base.specs.declared.terms.Cid.TheVariants.{Decide}
use Rattle.palm_base.proofs.cited.Members.{member_nil, member_here, member_cases, member_same, member_map, member_take_more, filter_agree_members}
use Rattle.palm_model.specs.Constraint.{Distinct}
use Rattle.palm_model.specs.Event.{vars_of}
use Rattle.palm_base.specs.Order.{same_pair}
use Rattle.palm_repair.specs.Posting.{Nogood, is_decided, undecided}
use Rattle.palm_repair.specs.Learned.{ShowsDecisions, is_shown, is_value, left_open, listed_pair}
use Rattle.palm_repair.proofs.Forcing.{decided_member, member_decided}

-- ---- places

pub split_at : {X : Type 0} (xs : List X) (i : ℕ) (x : X) → i < length xs → x ≡ get_or xs i x → xs ≡ take i xs ++ x ∷ drop (suc i) xs
split_at [] i x lt is = absurd (omega (arith, lt))
split_at (y ∷ xs) zero x lt is = ap (λ z. z ∷ xs) (sym is)
split_at (y ∷ xs) (suc i) x lt is = ap (λ l. y ∷ l) (split_at xs i x (omega (arith, lt)) is)

pub at_member : {X : Type 0} (xs : List X) (i : ℕ) (x : X) → i < length xs → x ≡ get_or xs i x → Contains xs x
at_member xs i x lt is = subst (λ l. Contains l x) (sym (split_at xs i x lt is)) (Contains-append_right (take i xs) (x ∷ drop (suc i) xs) x (member_here x (drop (suc i) xs)))

pub at_place : {X : Type 0} (xs : List X) (i : ℕ) (x : X) → i < length xs → x ≡ get_or xs i x → slice_get xs i ≡ Some x
at_place [] i x lt is = absurd (omega (arith, lt))
at_place (y ∷ xs) zero x lt is = ap Some (sym is)
at_place (y ∷ xs) (suc i) x lt is = at_place xs i x (omega (arith, lt)) is

-- ---- decided values

pub some_same : {X : Type 0} (x y : X) → Some x ≡ Some y → x ≡ y
some_same x y e = cc

pub none_some : {X : Type 0} (x : X) → None ≡ Some x → ⊥
none_some x e = cc

get_set_same : {X : Type 0} (xs : List X) (k : ℕ) (y : X) → k < length xs → slice_get (slice_set xs k y) k ≡ Some y
get_set_same [] k y lt = absurd (omega (arith, lt))
get_set_same (x ∷ xs) zero y lt = refl
get_set_same (x ∷ xs) (suc k) y lt = get_set_same xs k y (omega (arith, lt))

get_set_other : {X : Type 0} (xs : List X) (k j : ℕ) (y : X) → (j ≡ k → ⊥) → slice_get (slice_set xs k y) j ≡ slice_get xs j
get_set_other [] k j y ne = refl
get_set_other (x ∷ xs) zero zero y ne = absurd (ne refl)
get_set_other (x ∷ xs) zero (suc j) y ne = refl
get_set_other (x ∷ xs) (suc k) zero y ne = refl
get_set_other (x ∷ xs) (suc k) (suc j) y ne = get_set_other xs k j y (λ e. ne (ap suc e))

pair_is : (p q : Pair) → p.var ≡ q.var → p.value ≡ q.value → p ≡ q
pair_is p q e f = λ i. record { var = e i; value = f i }

-- an earlier decision is on another variable
earlier_apart : (decisions : List Pair) (i : ℕ) (p q : Pair) → i < length decisions → p ≡ get_or decisions i p → Distinct (vars_of decisions) → Contains (take i decisions) q → q.var ≡ p.var → ⊥
earlier_apart [] i p q lt is distinct m e = omega (arith, lt)
earlier_apart (d ∷ decisions) zero p q lt is distinct m e = member_nil q m
earlier_apart (d ∷ decisions) (suc i) p q lt is distinct m e = elim (member_cases d (take i decisions) q m) [
  | inl same ↦ distinct.0 (member_same (vars_of decisions) p.var d.var (sym (ap (λ (z : Pair). z.var) same ∙ e)) (member_map (λ (z : Pair). z.var) decisions p (at_member decisions i p (omega (arith, lt)) is)))
  | inr k ↦ earlier_apart decisions i p q (omega (arith, lt)) is distinct.1 k e
]

none_shown : (n k : ℕ) (v : ℤ) → slice_get (replicate {A = Option ℤ} n None) k ≡ Some (Some v) → ⊥
none_shown zero k v e = none_some (Some v) e
none_shown (suc n) zero v e = none_some v (some_same None (Some v) e)
none_shown (suc n) (suc k) v e = none_shown n k v e

pub shows_none : (n : ℕ) → ShowsDecisions [] (replicate {A = Option ℤ} n None)
shows_none n = record { shown = λ p m. absurd (member_nil p m); decided = λ p e. absurd (none_shown n p.var p.value e) }

taken_more : (decisions : List Pair) (i : ℕ) (p q : Pair) → i < length decisions → p ≡ get_or decisions i p → (Contains (take i decisions) q ⊎ (p ≡ q)) → Contains (take (i + 1) decisions) q
taken_more decisions i p q lt is m =
    let last = get_or decisions i p in
    subst (λ l. Contains l q) (sym (take_more decisions i p lt)) (elim m [
      | inl k ↦ Contains-append_left (take i decisions) (last ∷ []) q k
      | inr e ↦ Contains-append_right (take i decisions) (last ∷ []) q (member_same (last ∷ []) last q (sym is ∙ e) (member_here last []))
    ])

pub shows_more : (decisions : List Pair) (i : ℕ) (p : Pair) (values now : List (Option ℤ)) → i < length decisions → p ≡ get_or decisions i p → Distinct (vars_of decisions) → p.var < length values
    → now ≡ slice_set values p.var (Some p.value) → ShowsDecisions (take i decisions) values → ShowsDecisions (take (i + 1) decisions) now
shows_more decisions i p values now lt is distinct within e shows = subst (ShowsDecisions (take (i + 1) decisions)) (sym e) (record {
  shown = λ q m. elim (member_take_more decisions i p q lt is m) [
    | inl k ↦ get_set_other values p.var q.var (Some p.value) (earlier_apart decisions i p q lt is distinct k) ∙ shows.shown q k
    | inr f ↦ subst (λ (z : Pair). slice_get (slice_set values p.var (Some p.value)) z.var ≡ Some (Some z.value)) f (get_set_same values p.var (Some p.value) within)
  ];
  decided = λ q f. elim (cases_eq q.var p.var) [
    | inl same ↦
        let g = sym (get_set_same values p.var (Some p.value) within) ∙ ap (slice_get (slice_set values p.var (Some p.value))) (sym same) ∙ f in
        let v = some_same p.value q.value (some_same (Some p.value) (Some q.value) g) in
        taken_more decisions i p q lt is (inr (pair_is p q (sym same) v))
    | inr other ↦ taken_more decisions i p q lt is (inl (shows.decided q (sym (get_set_other values p.var q.var (Some p.value) other) ∙ f)))
  ];
})

-- ---- undecided pairs

value_is : (shown : Option (Option ℤ)) (w : ℤ) → is_value shown w ≡ true → shown ≡ Some (Some w)
value_is None w e = cc
value_is (Some None) w e = cc
value_is (Some (Some v)) w e = ap (λ z. Some (Some z)) (((Decides-int_eq v w).0 e))

agree : (b c : Bool) → (b ≡ true → c ≡ true) → (c ≡ true → b ≡ true) → b ≡ c
agree true c to from = sym (to refl)
agree false true to from = from refl
agree false false to from = refl

pub open_is : (decisions : List Pair) (values : List (Option ℤ)) (nogood : Nogood) → ShowsDecisions decisions values → left_open values nogood ≡ undecided decisions nogood
open_is decisions values nogood shows =
    filter_agree_members (λ p. not (is_shown values p)) (λ p. not (is_decided decisions p)) nogood.pairs
    (λ p m. ap not (agree (is_shown values p) (is_decided decisions p)
    (λ t. member_decided decisions p (shows.decided p (value_is (slice_get values p.var) p.value t)))
    (λ t. ap (λ s. is_value s p.value) (shows.shown p (decided_member decisions p t)) ∙ (Decides-int_eq p.value p.value).1 refl)))

two_listed : (q x p : Pair) (rest : List Pair) → q ∷ x ∷ rest ≡ p ∷ [] → ⊥
two_listed q x p rest e = let l = ap length e in omega (arith, l)

-- where one pair is left and another one follows, they are not the only one
pub two_open : (values : List (Option ℤ)) (pairs : List Pair) (i : ℕ) (x : Pair) (left : Option Pair) → i < length pairs → x ≡ get_or pairs i x → listed_pair left ≡ filter (λ p. not (is_shown values p)) (take i pairs) → is_some left ≡ true
    → is_shown values x ≡ false → (p : Pair) → filter (λ q. not (is_shown values q)) pairs ≡ p ∷ [] → ⊥
two_open values pairs i x None lt is inv some shown p e = cc
two_open values pairs i x (Some q) lt is inv some shown p e =
    let test = λ (r : Pair). not (is_shown values r) in
    let split = ap (filter test) (split_at pairs i x lt is) ∙ filter-append test (take i pairs) (x ∷ drop (suc i) pairs) in
    let here : filter test (x ∷ drop (suc i) pairs) ≡ x ∷ filter test (drop (suc i) pairs) = ap (λ b. cond (not b) (x ∷ filter test (drop (suc i) pairs)) (filter test (drop (suc i) pairs))) shown in
    two_listed q x p (filter test (drop (suc i) pairs)) (ap (λ l. l ++ x ∷ filter test (drop (suc i) pairs)) inv ∙ ap (λ l. filter test (take i pairs) ++ l) (sym here) ∙ sym split ∙ e)

-- one pair more of a justification
others_here : (pairs : List Pair) (i : ℕ) (x p : Pair) (rest : List Pair) → i < length pairs → x ≡ get_or pairs i x → filter (λ q. not (same_pair q p)) (x ∷ []) ≡ rest
    → map (λ (q : Pair). Decide q.var) (filter (λ q. not (same_pair q p)) (take (i + 1) pairs)) ≡ map (λ (q : Pair). Decide q.var) (filter (λ q. not (same_pair q p)) (take i pairs)) ++ map (λ (q : Pair). Decide q.var) rest
others_here pairs i x p rest lt is e =
    let test = λ (q : Pair). not (same_pair q p) in
    let cid = λ (q : Pair). Decide q.var in
    let taken = take_more pairs i x lt ∙ ap (λ z. take i pairs ++ z ∷ []) (sym is) in
    ap (λ l. map cid (filter test l)) taken ∙ ap (map cid) (filter-append test (take i pairs) (x ∷ []) ∙ ap (λ l. filter test (take i pairs) ++ l) e) ∙ map-append cid (filter test (take i pairs)) rest

pub others_more : (pairs : List Pair) (i : ℕ) (x p : Pair) (cids now : List Cid) → i < length pairs → x ≡ get_or pairs i x → same_pair x p ≡ false
    → cids ≡ map (λ (q : Pair). Decide q.var) (filter (λ q. not (same_pair q p)) (take i pairs)) → now ≡ cids ++ Decide x.var ∷ [] → now ≡ map (λ (q : Pair). Decide q.var) (filter (λ q. not (same_pair q p)) (take (i + 1) pairs))
others_more pairs i x p cids now lt is other inv e =
    e ∙ ap (λ l. l ++ Decide x.var ∷ []) inv ∙ sym (others_here pairs i x p (x ∷ []) lt is (ap (λ b. cond (not b) (x ∷ []) []) other))

pub others_same : (pairs : List Pair) (i : ℕ) (x p : Pair) (cids now : List Cid) → i < length pairs → x ≡ get_or pairs i x → same_pair x p ≡ true
    → cids ≡ map (λ (q : Pair). Decide q.var) (filter (λ q. not (same_pair q p)) (take i pairs)) → now ≡ cids → now ≡ map (λ (q : Pair). Decide q.var) (filter (λ q. not (same_pair q p)) (take (i + 1) pairs))
others_same pairs i x p cids now lt is other inv e =
    e ∙ inv ∙ sym (append-nil (map (λ (q : Pair). Decide q.var) (filter (λ q. not (same_pair q p)) (take i pairs)))) ∙ sym (others_here pairs i x p [] lt is (ap (λ b. cond (not b) (x ∷ []) []) other))
