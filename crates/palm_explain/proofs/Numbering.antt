-- The values of a row get numbers one after another.
use Rattle.std.proofs.Common.{◌≡◌, ℕ, zero, suc, ℤ, ◌+◌, ◌<◌, ◌<ℤ◌, List, [], ◌∷◌, ◌++◌, length, set, take, get_or, slice_get, Contains, Some, ◌⊎◌, inl, inr, int_eq, refl, sym, ap, ◌∙◌, subst, arith}
use Rattle.std.proofs.lemmas.Int.{ints}
use Rattle.std.proofs.lemmas.Bool.{cases_Bool, cases_eq, cases_lt, false≢true}
use Rattle.std.proofs.lemmas.Bool.Decides.{Decides-int_eq}
use Rattle.std.proofs.lemmas.List.{take_more}
use Rattle.std.proofs.lemmas.List.Elements.{All-set, Contains-append_left, Contains-push, Contains-push_cases}
use Rattle.std.proofs.lemmas.Option.{get_or_from_slice_get, slice_get_within}
use Rattle.palm_base.specs.declared.terms.Pair.{Pair}
use Rattle.palm_base.specs.Ascending.{Ascends}
use Rattle.palm_base.proofs.cited.Members.{member_map, member_same}
use Rattle.palm_domain.proofs.cited.Ascending.{get_or-ascends}
use Rattle.palm_explain.specs.declared.rows.Row.{Row}
use Rattle.palm_explain.specs.Entries.{pairs_with}
use Rattle.palm_explain.specs.Moving.{NumbersEach, lost_of}
use Rattle.palm_explain.specs.Rows.{AreFormedRows, IsFormedRow, number_at, number_in, row_number, value_number}
use Rattle.palm_explain.proofs.Reasons.{some_same}
use Rattle.palm_explain.proofs.RowNumbers.{set_there, set_others}

-- the values at places below this one have the numbers from the first one on
abbrev pub AreNumberedBelow : List ℤ → List ℕ → ℕ → List ℤ → ℕ → Type 0
AreNumberedBelow stored numbers first values count = (i : ℕ) (v : ℤ) → i < count → slice_get values i ≡ Some v → number_in stored numbers v ≡ Some (first + i)

-- values at two places differ
pub values_differ : (values : List ℤ) → Ascends values → (i j : ℕ) (v w : ℤ) → i < j → slice_get values i ≡ Some v → slice_get values j ≡ Some w → v ≡ w → ⊥
values_differ values ascends i j v w lt one two same =
    let below : v <ℤ w =
    subst (λ a. a <ℤ w) (get_or_from_slice_get values i v v one) (subst (λ b. get_or values i v <ℤ b) (get_or_from_slice_get values j w w two) (get_or-ascends values ascends i j v w lt (slice_get_within values j w two))) in
    omega (arith, ints, below, same)

module _ (r : Row) (values : List ℤ) (first place count : ℕ) (v : ℤ) (numbers : List ℕ) (formed : IsFormedRow r) (ascends : Ascends values) (at : slice_get r.values.items place ≡ Some v) (next : slice_get values count ≡ Some v)
    (is : numbers ≡ set r.numbers.items place (first + count)) where
  within : place < length r.values.items
  within = slice_get_within r.values.items place v at

  stands : get_or r.values.items place v ≡ v
  stands = get_or_from_slice_get r.values.items place v v at

  there : number_in r.values.items numbers v ≡ Some (first + count)
  there = set_there r v place (first + count) numbers formed within stands is

  pub others_next : (u : ℤ) → (u ≡ v → ⊥) → number_in r.values.items numbers u ≡ value_number r u
  others_next u n = set_others r v place (first + count) numbers formed within stands is u n

  pub numbered_next : AreNumberedBelow r.values.items r.numbers.items first values count → AreNumberedBelow r.values.items numbers first values (count + 1)
  numbered_next are i u lt here = elim (cases_lt i count) [
    | inl less ↦ others_next u (values_differ values ascends i count u v less here next) ∙ are i u less here
    | inr le ↦
        let same : i ≡ count = omega (arith, lt, le) in
        let it : v ≡ u = some_same v u (sym next ∙ ap (slice_get values) (sym same) ∙ here) in
        ap (number_in r.values.items numbers) (sym it) ∙ there ∙ ap (λ n. Some (first + n)) (sym same)
  ]

  pub there_next : (u : ℤ) → (k : ℕ) × (value_number r u ≡ Some k) → (k : ℕ) × (number_in r.values.items numbers u ≡ Some k)
  there_next u has = elim (cases_Bool (int_eq u v)) [
    | inl t ↦ (first + count, ap (number_in r.values.items numbers) ((Decides-int_eq u v).0 t) ∙ there)
    | inr f ↦ (has.0, others_next u (λ q. false≢true (sym f ∙ (Decides-int_eq u v).1 q)) ∙ has.1)
  ]

-- the value at a place is the next one that is taken
pub taken_next : (values : List ℤ) (count : ℕ) (v u : ℤ) → slice_get values count ≡ Some v → Contains (take (count + 1) values) u → Contains (take count values) u ⊎ (v ≡ u)
taken_next values count v u at m =
    let lt = slice_get_within values count v at in
    let longer = take_more values count v lt ∙ ap (λ w. take count values ++ w ∷ []) (get_or_from_slice_get values count v v at) in
    Contains-push_cases (take count values) v u (subst (λ vs. Contains vs u) longer m)

pub next_taken : (values : List ℤ) (count : ℕ) (v : ℤ) → slice_get values count ≡ Some v → Contains (take (count + 1) values) v
next_taken values count v at =
    let lt = slice_get_within values count v at in
    let longer = take_more values count v lt ∙ ap (λ w. take count values ++ w ∷ []) (get_or_from_slice_get values count v v at) in
    subst (λ vs. Contains vs v) (sym longer) (Contains-push (take count values) v)

pub before_taken : (values : List ℤ) (count : ℕ) (v u : ℤ) → slice_get values count ≡ Some v → Contains (take count values) u → Contains (take (count + 1) values) u
before_taken values count v u at m =
    let lt = slice_get_within values count v at in
    let longer = take_more values count v lt ∙ ap (λ w. take count values ++ w ∷ []) (get_or_from_slice_get values count v v at) in
    subst (λ vs. Contains vs u) (sym longer) (Contains-append_left (take count values) (v ∷ []) u m)

-- ---- a row among the others

get_set_here : {X : Type 0} (xs : List X) (i : ℕ) (y : X) → i < length xs → slice_get (set xs i y) i ≡ Some y
get_set_here [] i y lt = absurd (omega (arith, lt))
get_set_here (x ∷ xs) zero y lt = refl
get_set_here (x ∷ xs) (suc i) y lt = get_set_here xs i y (omega (arith, lt))

get_set_other : {X : Type 0} (xs : List X) (i j : ℕ) (y : X) → (j ≡ i → ⊥) → slice_get (set xs i y) j ≡ slice_get xs j
get_set_other [] i j y n = refl
get_set_other (x ∷ xs) zero zero y n = absurd (n refl)
get_set_other (x ∷ xs) zero (suc j) y n = refl
get_set_other (x ∷ xs) (suc i) zero y n = refl
get_set_other (x ∷ xs) (suc i) (suc j) y n = get_set_other xs i j y (λ e. n (ap suc e))

module _ (rows : List Row) (x : ℕ) (r s : Row) (at : slice_get rows x ≡ Some r) where
  abbrev more : List Row
  more = set rows x s

  there_set : slice_get more x ≡ Some s
  there_set = get_set_here rows x s (slice_get_within rows x r at)

  pub number_set : (v : ℤ) → number_at more (record { var = x; value = v }) ≡ value_number s v
  number_set v = ap (λ o. row_number o v) there_set

  -- a row whose values have the numbers
  pub numbers_set : (first : ℕ) (values : List ℤ) → AreFormedRows rows → IsFormedRow s → ((i : ℕ) (v : ℤ) → slice_get values i ≡ Some v → value_number s v ≡ Some (first + i))
      → ((v : ℤ) → (Contains values v → ⊥) → value_number s v ≡ value_number r v) → length s.values.items ≡ length r.values.items → NumbersEach rows x first values more
  numbers_set first values formed own numbered others lost = record {
    formed = All-set IsFormedRow rows x s own formed;
    numbered = λ i v is. number_set v ∙ numbered i v is;
    others = λ p n. elim (cases_eq p.var x) [
      | inl e ↦
          ap (λ y. row_number (slice_get more y) p.value) e ∙ ap (λ o. row_number o p.value) there_set
          ∙ others p.value (λ m. n (member_same (pairs_with x values) (record { var = x; value = p.value }) p (ap (λ y. record { var = y; value = p.value }) (sym e)) (member_map (λ v. let q : Pair = record { var = x; value = v } in q) values p.value m)))
          ∙ sym (ap (λ y. row_number (slice_get rows y) p.value) e ∙ ap (λ o. row_number o p.value) at)
      | inr n' ↦ ap (λ o. row_number o p.value) (get_set_other rows x p.var s n')
    ];
    lost = λ y. elim (cases_eq y x) [
      | inl e ↦ ap (λ z. lost_of (slice_get more z)) e ∙ ap lost_of there_set ∙ lost ∙ sym (ap (λ z. lost_of (slice_get rows z)) e ∙ ap lost_of at)
      | inr n ↦ ap lost_of (get_set_other rows x y s n)
    ];
  }
