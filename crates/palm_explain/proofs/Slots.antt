-- Where the rows say that restored variables stand, what their entries tell, and rows that keep their numbers.
use Rattle.std.proofs.Common.{◌≡◌, ◌≢◌, ◌⊎◌, ◌∙◌, ℕ, ℤ, zero, suc, ◌<◌, ◌≤ℤ◌, List, [], ◌∷◌, ◌++◌, length, set, get_or, Some, slice_get, Contains, inl, inr, refl, sym, ap, subst, arith}
use Rattle.std.proofs.lemmas.Bool.{cases_eq}
use Rattle.std.proofs.lemmas.Int.{ints}
use Rattle.std.proofs.lemmas.List.{map-append}
use Rattle.std.proofs.lemmas.List.Elements.{Contains-append_left, Contains-push, Contains-push_cases}
use Rattle.std.proofs.lemmas.Option.{get_or_from_slice_get, slice_get_within}
use Rattle.palm_base.specs.declared.terms.Pair.{Pair}
use Rattle.palm_base.proofs.cited.Members.{member_get, member_map, member_place, member_same, member_unmap}
use Rattle.palm_model.specs.Constraint.{Distinct}
use Rattle.palm_model.specs.Event.{vars_of}
use Rattle.palm_explain.specs.declared.restored.Restored.{Restored}
use Rattle.palm_explain.specs.declared.rows.Row.{Row}
use Rattle.palm_explain.specs.Explanations.{AreEnds, IsSpanned, restored_vars}
use Rattle.palm_explain.specs.Restored.{AreSlotted, slot_at}
use Rattle.palm_explain.specs.Rows.{number_at, row_number}
use Rattle.palm_explain.proofs.Reasons.{some_same}

-- ---- rows that keep their numbers

-- a number that is found stands in a row
number_in_row : (rows : List Row) (x k : ℕ) (v : ℤ) → row_number (slice_get rows x) v ≡ Some k → x < length rows
number_in_row [] x k v is = cc
number_in_row (r ∷ rows) zero k v is = omega arith
number_in_row (r ∷ rows) (suc x) k v is = let lt = number_in_row rows x k v is in omega (arith, lt)

pub number_within : (rows : List Row) (p : Pair) (k : ℕ) → number_at rows p ≡ Some k → p.var < length rows
number_within rows p k is = number_in_row rows p.var k p.value is

-- ---- places

pub place_cases : {X : Type 0} (xs : List X) (y : X) (i : ℕ) (x : X) → slice_get (xs ++ y ∷ []) i ≡ Some x → (slice_get xs i ≡ Some x) ⊎ ((i ≡ length xs) × (y ≡ x))
place_cases [] y zero x at = inr (refl, some_same y x at)
place_cases [] y (suc i) x at = cc
place_cases (z ∷ xs) y zero x at = inl at
place_cases (z ∷ xs) y (suc i) x at = elim (place_cases xs y i x at) [ inl o ↦ inl o | inr e ↦ inr (ap suc e.0, e.1) ]

place_distinct : (ks : List ℕ) → ((i j k : ℕ) → slice_get ks i ≡ Some k → slice_get ks j ≡ Some k → i ≡ j) → Distinct ks
place_distinct [] once = tt
place_distinct (x ∷ ks) once = (
  λ m. let p = member_place ks x m in let same = once 0 (suc p.0) x refl p.1 in absurd (omega (arith, same)),
  place_distinct ks (λ i j k a b. let same = once (suc i) (suc j) k a b in omega (arith, same)),
)

-- ---- another one at a place

set_there : (xs : List Restored) (i : ℕ) (v : Restored) → i < length xs → slice_get (set xs i v) i ≡ Some v
set_there [] i v lt = absurd (omega (arith, lt))
set_there (x ∷ xs) zero v lt = refl
set_there (x ∷ xs) (suc i) v lt = set_there xs i v (omega (arith, lt))

set_else : (xs : List Restored) (i : ℕ) (v : Restored) (j : ℕ) (x : Restored) → i ≢ j → slice_get xs j ≡ Some x → slice_get (set xs i v) j ≡ Some x
set_else [] i v j x n at = cc
set_else (y ∷ xs) zero v zero x n at = absurd (n refl)
set_else (y ∷ xs) zero v (suc j) x n at = at
set_else (y ∷ xs) (suc i) v zero x n at = at
set_else (y ∷ xs) (suc i) v (suc j) x n at = set_else xs i v j x (λ e. n (ap suc e)) at

set_cases : (xs : List Restored) (i : ℕ) (v : Restored) (j : ℕ) (x : Restored) → slice_get (set xs i v) j ≡ Some x → ((i ≡ j) × (v ≡ x)) ⊎ (slice_get xs j ≡ Some x)
set_cases [] i v j x at = cc
set_cases (y ∷ xs) zero v zero x at = inl (refl, some_same v x at)
set_cases (y ∷ xs) zero v (suc j) x at = inr at
set_cases (y ∷ xs) (suc i) v zero x at = inr at
set_cases (y ∷ xs) (suc i) v (suc j) x at = elim (set_cases xs i v j x at) [ inl e ↦ inl (ap suc e.0, e.1) | inr o ↦ inr o ]

-- ---- entries at their places

pub none_slotted : (rows : List Row) → AreSlotted rows []
none_slotted rows i r at = cc

-- the entry that was read at a place
pub entry_at : (restored : List Restored) (i x : ℕ) (n : Restored) → (r : Restored) × (slice_get restored i ≡ Some r) × (r.var ≡ x) → n ≡ get_or restored i n → (slice_get restored i ≡ Some n) × (n.var ≡ x)
entry_at restored i x n there is =
    let same : n ≡ there.0 = is ∙ get_or_from_slice_get restored i there.0 n there.1 in
    (there.1 ∙ ap Some (sym same), ap (λ (z : Restored). z.var) same ∙ there.2)

entry_of : (restored : List Restored) (i x : ℕ) → slice_get (restored_vars restored) i ≡ Some x → (r : Restored) × (slice_get restored i ≡ Some r) × (r.var ≡ x)
entry_of [] i x at = cc
entry_of (r ∷ restored) zero x at = (r, refl, some_same r.var x at)
entry_of (r ∷ restored) (suc i) x at = entry_of restored i x at

-- no variable stands at two places
pub slotted_once : (rows : List Row) (restored : List Restored) → AreSlotted rows restored → Distinct (restored_vars restored)
slotted_once rows restored slotted =
    place_distinct (restored_vars restored) (λ i j x a b.
    let r = entry_of restored i x a in
    let s = entry_of restored j x b in
    sym (slotted i r.0 r.1) ∙ ap (slot_at rows) (r.2 ∙ sym s.2) ∙ slotted j s.0 s.1)

-- a variable with a value that is told stands in the list
pub spanned_vars : (pairs : List Pair) (restored : List Restored) → ((p : Pair) → Contains pairs p → IsSpanned restored p) → (x : ℕ) → Contains (vars_of pairs) x → Contains (restored_vars restored) x
spanned_vars pairs restored spanned x m =
    let p = member_unmap (λ (z : Pair). z.var) pairs x m in
    let r = spanned p.0 p.1 in
    member_same (restored_vars restored) r.0.var x (r.2 ∙ p.2) (member_map (λ (z : Restored). z.var) restored r.0 r.1)

-- ---- ends

-- the ends of one entry are among the pairs
abbrev HasEnds : List Pair → Restored → Type 0
HasEnds pairs r = Contains pairs (record { var = r.var; value = r.low }) × Contains pairs (record { var = r.var; value = r.high })

-- an end that is the value of one of two pairs of its variable
end_among : (pairs : List Pair) (p q : Pair) (x : ℕ) (v : ℤ) → Contains pairs p → Contains pairs q → x ≡ p.var → x ≡ q.var → (v ≡ p.value) ⊎ (v ≡ q.value) → Contains pairs (record { var = x; value = v })
end_among pairs p q x v one two e f is = elim is [
  | inl l ↦ member_same pairs p (record { var = x; value = v }) (λ i. record { var = sym e i; value = sym l i }) one
  | inr r ↦ member_same pairs q (record { var = x; value = v }) (λ i. record { var = sym f i; value = sym r i }) two
]

-- ---- an entry that is widened or added

-- an entry is widened
module _ (restored : List Restored) (i : ℕ) (r s : Restored) (at : slice_get restored i ≡ Some r) (var : s.var ≡ r.var) where
  pub widened_slotted : (rows : List Row) → AreSlotted rows restored → AreSlotted rows (set restored i s)
  widened_slotted rows slotted j t is = elim (set_cases restored i s j t is) [
    | inl e ↦ ap (λ (z : Restored). slot_at rows z.var) (sym e.1) ∙ ap (slot_at rows) var ∙ slotted i r at ∙ e.0
    | inr o ↦ slotted j t o
  ]

  pub widened_noted : (x : ℕ) → Contains (restored_vars (set restored i s)) x → Contains (restored_vars restored) x
  widened_noted x m =
      let t = member_unmap (λ (z : Restored). z.var) (set restored i s) x m in
      let p = member_place (set restored i s) t.0 t.1 in
      elim (set_cases restored i s p.0 t.0 p.1) [
        | inl e ↦ member_same (restored_vars restored) r.var x (sym var ∙ ap (λ (z : Restored). z.var) e.1 ∙ t.2) (member_map (λ (z : Restored). z.var) restored r (member_get restored i r at))
        | inr o ↦ member_same (restored_vars restored) t.0.var x t.2 (member_map (λ (z : Restored). z.var) restored t.0 (member_get restored p.0 t.0 o))
      ]

  pub widened_spanned : (p q : Pair) → r.var ≡ p.var → (s.low ≤ℤ r.low) × (s.low ≤ℤ p.value) → (r.high ≤ℤ s.high) × (p.value ≤ℤ s.high) → IsSpanned restored q ⊎ (p ≡ q) → IsSpanned (set restored i s) q
  widened_spanned p q same low high m =
      let here : Contains (set restored i s) s = member_get (set restored i s) i s (set_there restored i s (slice_get_within restored i r at)) in
      elim m [
        | inl o ↦
            let place = member_place restored o.0 o.1 in
            elim (cases_eq i place.0) [
              | inl e ↦
                  let is : r ≡ o.0 = some_same r o.0 (sym at ∙ ap (slice_get restored) e ∙ place.1) in
                  let above : r.low ≤ℤ q.value = subst (λ (z : Restored). z.low ≤ℤ q.value) (sym is) o.3 in
                  let below : q.value ≤ℤ r.high = subst (λ (z : Restored). q.value ≤ℤ z.high) (sym is) o.4 in
                  let first : s.low ≤ℤ r.low = low.0 in
                  let last : r.high ≤ℤ s.high = high.0 in
                  (s, here, var ∙ ap (λ (z : Restored). z.var) is ∙ o.2, omega (arith, ints, first, above), omega (arith, ints, last, below))
              | inr n ↦ (o.0, member_get (set restored i s) place.0 o.0 (set_else restored i s place.0 o.0 n place.1), o.2, o.3, o.4)
            ]
        | inr e ↦ subst (λ (z : Pair). IsSpanned (set restored i s) z) e (s, here, var ∙ same, low.1, high.1)
      ]

  pub widened_ends : (p : Pair) (pairs : List Pair) → r.var ≡ p.var → (s.low ≡ r.low) ⊎ (s.low ≡ p.value) → (s.high ≡ r.high) ⊎ (s.high ≡ p.value) → AreEnds restored pairs → Contains pairs p → AreEnds (set restored i s) pairs
  widened_ends p pairs same low high ends there t m =
      let old = ends r (member_get restored i r at) in
      let place = member_place (set restored i s) t m in
      elim (set_cases restored i s place.0 t place.1) [
        | inl e ↦ subst (HasEnds pairs) e.1 (
          end_among pairs (record { var = r.var; value = r.low }) p s.var s.low old.0 there var (var ∙ same) low,
          end_among pairs (record { var = r.var; value = r.high }) p s.var s.high old.1 there var (var ∙ same) high,
        )
        | inr o ↦ ends t (member_get restored place.0 t o)
      ]

-- an entry is added
module _ (restored : List Restored) (r : Restored) (x : ℕ) (var : r.var ≡ x) where
  pub pushed_slotted : (rows later : List Row) → AreSlotted rows restored → ((t : Restored) → slice_get restored (slot_at rows x) ≡ Some t → t.var ≡ x → ⊥) → slot_at later x ≡ length restored → ((y : ℕ) → y ≢ x → slot_at later y ≡ slot_at rows y)
      → AreSlotted later (restored ++ r ∷ [])
  pushed_slotted rows later slotted free here others i t is = elim (place_cases restored r i t is) [
    | inl old ↦ elim (cases_eq t.var x) [
      | inl e ↦ absurd (free t (ap (λ y. slice_get restored (slot_at rows y)) (sym e) ∙ ap (slice_get restored) (slotted i t old) ∙ old) e)
      | inr n ↦ others t.var n ∙ slotted i t old
    ]
    | inr last ↦ ap (λ (z : Restored). slot_at later z.var) (sym last.1) ∙ ap (slot_at later) var ∙ here ∙ sym last.0
  ]

  pub pushed_noted : (y : ℕ) → Contains (restored_vars (restored ++ r ∷ [])) y → Contains (restored_vars restored) y ⊎ (x ≡ y)
  pushed_noted y m = elim (Contains-push_cases (restored_vars restored) r.var y (subst (λ l. Contains l y) (map-append (λ (z : Restored). z.var) restored (r ∷ [])) m)) [
    | inl o ↦ inl o
    | inr e ↦ inr (sym var ∙ e)
  ]

pub pushed_spanned : (restored : List Restored) (r : Restored) (p q : Pair) → r ≡ record { var = p.var; low = p.value; high = p.value } → IsSpanned restored q ⊎ (p ≡ q) → IsSpanned (restored ++ r ∷ []) q
pushed_spanned restored r p q is m = elim m [
  | inl o ↦ (o.0, Contains-append_left restored (r ∷ []) o.0 o.1, o.2, o.3, o.4)
  | inr e ↦
      let itself : p.value ≤ℤ p.value = omega (arith, ints) in
      let low : r.low ≤ℤ p.value = subst (λ v. v ≤ℤ p.value) (sym (ap (λ (z : Restored). z.low) is)) itself in
      let high : p.value ≤ℤ r.high = subst (λ v. p.value ≤ℤ v) (sym (ap (λ (z : Restored). z.high) is)) itself in
      subst (λ (z : Pair). IsSpanned (restored ++ r ∷ []) z) e (r, Contains-push restored r, ap (λ (z : Restored). z.var) is, low, high)
]

pub pushed_ends : (restored : List Restored) (r : Restored) (p : Pair) (pairs : List Pair) → r ≡ record { var = p.var; low = p.value; high = p.value } → AreEnds restored pairs → Contains pairs p → AreEnds (restored ++ r ∷ []) pairs
pushed_ends restored r p pairs is ends there t m = elim (Contains-push_cases restored r t m) [
  | inl o ↦ ends t o
  | inr e ↦ subst (HasEnds pairs) (sym is ∙ e) (there, there)
]
