-- The removals of a span in one row: what is left of them from a place on.
use Rattle.std.proofs.Common.{◌≡◌, ℕ, ℤ, zero, suc, ◌+◌, ◌-◌, ◌<◌, ◌≤◌, ◌<ℤ◌, ◌≤ℤ◌, Bool, true, false, ◌&&◌, int_le, int_cmp, is_lt, cond, List, [], ◌∷◌, ◌++◌, length, drop, take, filter, get_or, Contains, Some, slice_get, inl, inr, refl, sym, ap, ◌∙◌, subst, arith}
use Rattle.std.specs.List.{AllWithin}
use Rattle.std.specs.List.Sorted.{IsPartitionedBy}
use Rattle.std.proofs.lemmas.Bool.{cases_Bool, lt-ltb, le-ltb}
use Rattle.std.proofs.lemmas.Int.{ints}
use Rattle.std.proofs.lemmas.List.{append_assoc, drop_all, drop_more, length-append, length-map, take-append-drop, take_more}
use Rattle.std.proofs.lemmas.List.Elements.{filter-append}
use Rattle.std.proofs.lemmas.List.Folds.{length-flat_map-take}
use Rattle.std.proofs.Math.Seq.{take-add}
use Rattle.std.proofs.lemmas.Option.{slice_get_within, get_or_from_slice_get}
use Rattle.palm_base.specs.Ascending.{Ascends}
use Rattle.palm_base.proofs.cited.Members.{filter_agree_members, member_cases, member_get, member_here, member_place, member_there}
use Rattle.palm_domain.proofs.cited.Ascending.{get_or-rises, get_or-ascends}
use Rattle.palm_domain.proofs.cited.Comparisons.{lt_from_is_lt, ge_from_is_lt}
use Rattle.palm_explain.specs.declared.rows.Row.{Row}
use Rattle.palm_base.specs.declared.terms.Pair.{Pair}
use Rattle.palm_explain.specs.Entries.{pairs_with, row_span, span_pairs, span_values, written}
use Rattle.palm_explain.specs.declared.spans.Span.{Span}
use Rattle.palm_explain.specs.Rows.{IsFormedRow, IsNext, is_less, number_in, rest_in, span_in}
use Rattle.palm_explain.proofs.Reasons.{get_first, number_less, some_same}

-- ---- tests of all

pub filter_none : {X : Type 0} (p : X → Bool) (xs : List X) → ((x : X) → Contains xs x → p x ≡ false) → filter p xs ≡ []
filter_none p [] none = refl
filter_none p (x ∷ xs) none = ap (λ b. cond b (x ∷ filter p xs) (filter p xs)) (none x (member_here x xs)) ∙ filter_none p xs (λ y m. none y (member_there x xs y m))

pub filter_all : {X : Type 0} (p : X → Bool) (xs : List X) → ((x : X) → Contains xs x → p x ≡ true) → filter p xs ≡ xs
filter_all p [] all = refl
filter_all p (x ∷ xs) all = ap (λ b. cond b (x ∷ filter p xs) (filter p xs)) (all x (member_here x xs)) ∙ ap (λ l. x ∷ l) (filter_all p xs (λ y m. all y (member_there x xs y m)))

filter_shorter : {X : Type 0} (p : X → Bool) (xs : List X) → length (filter p xs) ≤ length xs
filter_shorter p [] = omega arith
filter_shorter p (x ∷ xs) = let rest = filter_shorter p xs in elim (cases_Bool (p x)) [
  | inl t ↦ let e = ap (λ b. length (cond b (x ∷ filter p xs) (filter p xs))) t in omega (arith, e, rest)
  | inr f ↦ let e = ap (λ b. length (cond b (x ∷ filter p xs) (filter p xs))) f in omega (arith, e, rest)
]

pub drop_get : {X : Type 0} (n : ℕ) (xs : List X) (k : ℕ) → slice_get (drop n xs) k ≡ slice_get xs (n + k)
drop_get zero xs k = let e : k ≡ 0 + k = omega arith in ap (slice_get xs) e
drop_get (suc n) [] k = refl
drop_get (suc n) (x ∷ xs) k = let e : suc (n + k) ≡ suc n + k = omega arith in drop_get n xs k ∙ ap (slice_get (x ∷ xs)) e

le_true : (a b : ℤ) → a ≤ℤ b → int_le a b ≡ true
le_true a b le = elim (cases_Bool (int_le a b)) [ inl t ↦ t | inr f ↦ absurd (omega (arith, ints, le, f)) ]

le_false : (a b : ℤ) → b <ℤ a → int_le a b ≡ false
le_false a b lt = elim (cases_Bool (int_le a b)) [ inl t ↦ absurd (omega (arith, ints, lt, t)) | inr f ↦ f ]

and_false : (b : Bool) → (b && false) ≡ false
and_false true = refl
and_false false = refl

append_nil : {X : Type 0} (l : List X) → l ++ [] ≡ l
append_nil [] = refl
append_nil (v ∷ l) = ap (λ k. v ∷ k) (append_nil l)

-- a member of the rest of a list stands in the list from the place on
pub drop_place : {X : Type 0} (place : ℕ) (xs : List X) (x : X) → Contains (drop place xs) x → (k : ℕ) × (place ≤ k) × (slice_get xs k ≡ Some x)
drop_place zero xs x m = let p = member_place xs x m in (p.0, omega arith, p.1)
drop_place (suc place) [] x m = let p = member_place [] x m in cc
drop_place (suc place) (y ∷ xs) x m = let p = drop_place place xs x m in (suc p.0, (let le = p.1 in omega (arith, le)), p.2)

pub take_place : {X : Type 0} (place : ℕ) (xs : List X) (x : X) → Contains (take place xs) x → (k : ℕ) × (k < place) × (slice_get xs k ≡ Some x)
take_place zero xs x m = let p = member_place [] x m in cc
take_place (suc place) [] x m = let p = member_place [] x m in cc
take_place (suc place) (y ∷ xs) x m = elim (member_cases y (take place xs) x m) [
  | inl e ↦ (0, omega arith, ap Some e)
  | inr n ↦ let p = take_place place xs x n in (suc p.0, (let lt = p.1 in omega (arith, lt)), p.2)
]

-- ---- the first place

pub low_parted : (vs : List ℤ) → Ascends vs → (low : ℤ) → IsPartitionedBy (λ v. is_lt (int_cmp v low)) vs
low_parted vs rise low i j d le lt h =
    let rises = get_or-rises vs rise i j d d le lt in
    let less = lt_from_is_lt (get_or vs j d) low (sym h) in
    elim (cases_Bool (is_lt (int_cmp (get_or vs i d) low))) [
      | inl t ↦ t
      | inr f ↦ let ge = ge_from_is_lt (get_or vs i d) low (sym f) in absurd (omega (arith, ints, rises, less, ge))
    ]

module _ (r : Row) (n : ℕ) (high : ℤ) where
  abbrev up_to : ℤ → Bool
  up_to v = int_le v high && is_less (number_in r.values.items r.numbers.items v) n

  -- where those before the place are below, and those from it on are not
  rest_parted : (low : ℤ) (i : ℕ) → ((k : ℕ) (v : ℤ) → slice_get r.values.items k ≡ Some v → k < i → v <ℤ low) → ((k : ℕ) (v : ℤ) → slice_get r.values.items k ≡ Some v → i ≤ k → low ≤ℤ v) → rest_in r n high i ≡ span_in r n low high
  rest_parted low i below above =
      let vs = r.values.items in
      let both : ℤ → Bool = λ v. int_le low v && up_to v in
      let first : filter both (take i vs) ≡ [] = filter_none both (take i vs) (λ v m.
      let p = take_place i vs v m in
      ap (λ b. b && up_to v) (le_false low v (below p.0 v p.2 p.1))) in
      let second : filter both (drop i vs) ≡ filter up_to (drop i vs) = filter_agree_members both up_to (drop i vs) (λ v m.
      let p = drop_place i vs v m in
      ap (λ b. b && up_to v) (le_true low v (above p.0 v p.2 p.1))) in
      sym (ap (filter both) (sym (take-append-drop i vs)) ∙ filter-append both (take i vs) (drop i vs) ∙ ap (λ l. l ++ filter both (drop i vs)) first ∙ second)

  pub rest_from : (low : ℤ) (i : ℕ) → AllWithin (λ v. is_lt (int_cmp v low) ≡ true) r.values.items 0 i → AllWithin (λ v. is_lt (int_cmp v low) ≡ false) r.values.items i (length r.values.items) → rest_in r n high i ≡ span_in r n low high
  rest_from low i below above =
      let vs = r.values.items in
      rest_parted low i
      (λ k v at lt. subst (λ w. w <ℤ low) (get_or_from_slice_get vs k v v at) (lt_from_is_lt (get_or vs k v) low (sym (below k v (omega arith) lt))))
      (λ k v at le. subst (λ w. low ≤ℤ w) (get_or_from_slice_get vs k v v at) (ge_from_is_lt (get_or vs k v) low (sym (above k v le (slice_get_within vs k v at)))))

  -- at the place of the low value
  pub rest_at : (low : ℤ) (i : ℕ) → Ascends r.values.items → i < length r.values.items → get_or r.values.items i low ≡ low → rest_in r n high i ≡ span_in r n low high
  rest_at low i ascends within here =
      let vs = r.values.items in
      rest_parted low i
      (λ k v at lt. let rises = get_or-ascends vs ascends k i v low lt within in let is = get_or_from_slice_get vs k v v at in omega (arith, ints, rises, is, here))
      (λ k v at le. let rises = get_or-rises vs ascends i k low v le (slice_get_within vs k v at) in let is = get_or_from_slice_get vs k v v at in omega (arith, ints, rises, is, here))

  -- ---- the next place

  pub rest_passed : (i : ℕ) (v : ℤ) (k : ℕ) → slice_get r.values.items i ≡ Some v → number_in r.values.items r.numbers.items v ≡ Some k → n ≤ k → rest_in r n high i ≡ rest_in r n high (i + 1)
  rest_passed i v k at is le =
      let vs = r.values.items in
      let first = drop_more vs i v (slice_get_within vs i v at) ∙ ap (λ w. w ∷ drop (i + 1) vs) (get_or_from_slice_get vs i v v at) in
      let no : up_to v ≡ false = ap (λ o. int_le v high && is_less o n) is ∙ ap (λ b. int_le v high && b) (le-ltb k n le) ∙ and_false (int_le v high) in
      ap (filter up_to) first ∙ ap (λ b. cond b (v ∷ filter up_to (drop (i + 1) vs)) (filter up_to (drop (i + 1) vs))) no

  pub rest_found : (i : ℕ) (v : ℤ) (k : ℕ) → slice_get r.values.items i ≡ Some v → v ≤ℤ high → number_in r.values.items r.numbers.items v ≡ Some k → k < n → rest_in r n high i ≡ v ∷ rest_in r n high (i + 1)
  rest_found i v k at le is lt =
      let vs = r.values.items in
      let first = drop_more vs i v (slice_get_within vs i v at) ∙ ap (λ w. w ∷ drop (i + 1) vs) (get_or_from_slice_get vs i v v at) in
      let yes : up_to v ≡ true = ap (λ o. int_le v high && is_less o n) is ∙ ap (λ b. int_le v high && b) (lt-ltb k n lt) ∙ ap (λ b. b && true) (le_true v high le) in
      ap (filter up_to) first ∙ ap (λ b. cond b (v ∷ filter up_to (drop (i + 1) vs)) (filter up_to (drop (i + 1) vs))) yes

  pub rest_ended : (i : ℕ) → length r.values.items ≤ i → rest_in r n high i ≡ []
  rest_ended i le = ap (filter up_to) (drop_all i r.values.items le)

  pub rest_beyond : (i : ℕ) (v : ℤ) → IsFormedRow r → slice_get r.values.items i ≡ Some v → high <ℤ v → rest_in r n high i ≡ []
  rest_beyond i v formed at lt =
      let vs = r.values.items in
      filter_none up_to (drop i vs) (λ w m.
      let p = drop_place i vs w m in
      let rises = get_or-rises vs formed.ascends i p.0 v w p.1 (slice_get_within vs p.0 w p.2) in
      let one = get_or_from_slice_get vs i v v at in
      let two = get_or_from_slice_get vs p.0 w w p.2 in
      ap (λ b. b && is_less (number_in r.values.items r.numbers.items w) n) (le_false w high (omega (arith, ints, rises, one, two, lt))))

-- ---- values that stand side by side

same_run : (c x : ℕ) (vs : List ℤ) (ps : List Pair) → ((k : ℕ) → k < c → (v : ℤ) × (slice_get ps k ≡ Some (record { var = x; value = v })) × (slice_get vs k ≡ Some v)) → pairs_with x (take c vs) ≡ take c ps
same_run zero x vs ps run = refl
same_run (suc c) x [] ps run = let f = run 0 (omega arith) in cc
same_run (suc c) x (v ∷ vs) [] run = let f = run 0 (omega arith) in cc
same_run (suc c) x (v ∷ vs) (p ∷ ps) run =
    let f = run 0 (omega arith) in
    let made : Pair = record { var = x; value = f.0 } in
    let one : p ≡ made = some_same p made f.1 in
    let two : v ≡ f.0 = some_same v f.0 f.2 in
    let first : (record { var = x; value = v }) ≡ p = (λ i. record { var = x; value = two i }) ∙ sym one in
    ap (λ q. q ∷ pairs_with x (take c vs)) first ∙ ap (λ l. p ∷ l) (same_run c x vs ps (λ k lt. run (suc k) (omega (arith, lt))))

module _ (r : Row) (formed : IsFormedRow r) (x : ℕ) (pairs : List Pair) (start place count : ℕ) (run : (k : ℕ) → k < count → IsNext r x pairs (start + k) (place + k)) where
  pub run_span : (n : ℕ) (p q : Pair) → 0 < count → slice_get pairs start ≡ Some p → slice_get pairs (start + count - 1) ≡ Some q
      → ((s : Pair) → Contains pairs s → x ≡ s.var → (k : ℕ) × (number_in r.values.items r.numbers.items s.value ≡ Some k) × (k < n)) → pairs_with x (span_in r n p.value q.value) ≡ take count (drop start pairs)
  run_span n p q some first last removed =
      ap (pairs_with x) spanned ∙ same_run count x (drop place vs) (drop start pairs) (λ k lt.
      let a = run k lt in (a.0, drop_get start pairs k ∙ a.1, drop_get place vs k ∙ a.2))
    where
      vs : List ℤ
      vs = r.values.items

      both : ℤ → Bool
      both v = int_le p.value v && (int_le v q.value && is_less (number_in r.values.items r.numbers.items v) n)

      low : slice_get vs place ≡ Some p.value
      low =
          let a = run 0 some in
          let made : Pair = record { var = x; value = a.0 } in
          let here : start + 0 ≡ start = omega arith in
          let there : place + 0 ≡ place = omega arith in
          let same : p ≡ made = some_same p made (sym first ∙ ap (slice_get pairs) (sym here) ∙ a.1) in
          ap (slice_get vs) (sym there) ∙ a.2 ∙ ap (λ (s : Pair). Some s.value) (sym same)

      high : slice_get vs (place + (count - 1)) ≡ Some q.value
      high =
          let a = run (count - 1) (omega (arith, some)) in
          let made : Pair = record { var = x; value = a.0 } in
          let here : start + (count - 1) ≡ start + count - 1 = omega (arith, some) in
          let same : q ≡ made = some_same q made (sym last ∙ ap (slice_get pairs) (sym here) ∙ a.1) in
          a.2 ∙ ap (λ (s : Pair). Some s.value) (sym same)

      before : filter both (take place vs) ≡ []
      before = filter_none both (take place vs) (λ v m.
          let k = take_place place vs v m in
          let rises = get_or-ascends vs formed.ascends k.0 place v v k.1 (slice_get_within vs place p.value low) in
          let one = get_or_from_slice_get vs k.0 v v k.2 in
          let two = get_or_from_slice_get vs place p.value v low in
          ap (λ b. b && (int_le v q.value && is_less (number_in vs r.numbers.items v) n)) (le_false p.value v (omega (arith, ints, rises, one, two))))

      behind : filter both (drop count (drop place vs)) ≡ []
      behind = filter_none both (drop count (drop place vs)) (λ v m.
          let k = drop_place count (drop place vs) v m in
          let at = sym (drop_get place vs k.0) ∙ k.2 in
          let ge = k.1 in
          let rises = get_or-ascends vs formed.ascends (place + (count - 1)) (place + k.0) v v (omega (arith, ge, some)) (slice_get_within vs (place + k.0) v at) in
          let one = get_or_from_slice_get vs (place + (count - 1)) q.value v high in
          let two = get_or_from_slice_get vs (place + k.0) v v at in
          ap (λ b. int_le p.value v && (b && is_less (number_in vs r.numbers.items v) n)) (le_false v q.value (omega (arith, ints, rises, one, two))) ∙ and_false (int_le p.value v))

      within : filter both (take count (drop place vs)) ≡ take count (drop place vs)
      within = filter_all both (take count (drop place vs)) (λ v m.
          let k = take_place count (drop place vs) v m in
          let at = sym (drop_get place vs k.0) ∙ k.2 in
          let lt = k.1 in
          let inside = slice_get_within vs (place + (count - 1)) q.value high in
          let a = run k.0 lt in
          let here : a.0 ≡ v = some_same a.0 v (sym a.2 ∙ at) in
          let made : Pair = record { var = x; value = v } in
          let reason : slice_get pairs (start + k.0) ≡ Some made = a.1 ∙ (λ i. Some (record { var = x; value = here i })) in
          let number = removed made (member_get pairs (start + k.0) made reason) refl in
          let up = get_or-rises vs formed.ascends place (place + k.0) v v (omega arith) (omega (arith, lt, inside)) in
          let down = get_or-rises vs formed.ascends (place + k.0) (place + (count - 1)) v v (omega (arith, lt)) inside in
          let one = get_or_from_slice_get vs place p.value v low in
          let two = get_or_from_slice_get vs (place + k.0) v v at in
          let three = get_or_from_slice_get vs (place + (count - 1)) q.value v high in
          ap (λ b. b && (int_le v q.value && is_less (number_in vs r.numbers.items v) n)) (le_true p.value v (omega (arith, ints, up, one, two)))
          ∙ ap (λ b. b && is_less (number_in vs r.numbers.items v) n) (le_true v q.value (omega (arith, ints, down, two, three))) ∙ number_less (number_in vs r.numbers.items v) number.0 n number.1 number.2)

      spanned : span_in r n p.value q.value ≡ take count (drop place vs)
      spanned =
          ap (filter both) (sym (take-append-drop place vs)) ∙ filter-append both (take place vs) (drop place vs) ∙ ap (λ l. l ++ filter both (drop place vs)) before
          ∙ ap (filter both) (sym (take-append-drop count (drop place vs))) ∙ filter-append both (take count (drop place vs)) (drop count (drop place vs))
          ∙ ap (λ l. filter both (take count (drop place vs)) ++ l) behind ∙ append_nil (filter both (take count (drop place vs))) ∙ within

-- ---- rows by variable

pub span_here : (rows : List Row) (x : ℕ) (r : Row) (n : ℕ) (low high : ℤ) → slice_get rows x ≡ Some r → row_span (slice_get rows x) n low high ≡ span_in r n low high
span_here rows x r n low high at = ap (λ o. row_span o n low high) at

-- no more than the variable lost at some time
pub span_most : (rows : List Row) (x : ℕ) (r : Row) (n : ℕ) (low high : ℤ) → slice_get rows x ≡ Some r → length (row_span (slice_get rows x) n low high) ≤ length r.values.items
span_most rows x r n low high at =
    let e = ap length (span_here rows x r n low high at) in
    let le = filter_shorter (λ v. int_le low v && (int_le v high && is_less (number_in r.values.items r.numbers.items v) n)) r.values.items in omega (arith, e, le)

-- ---- spans one after another

-- a span has a pair for each of its values
pub pairs_length : (rows : List Row) (n : ℕ) (s : Span) → length (span_pairs rows n s) ≡ length (span_values rows n s)
pairs_length rows n s = length-map (span_values rows n s) (λ v. let p : Pair = record { var = s.var; value = v } in p)

pub written_push : (rows : List Row) (n : ℕ) (spans : List Span) (s : Span) → written rows n (spans ++ s ∷ []) ≡ written rows n spans ++ span_pairs rows n s
written_push rows n [] s = append_nil (span_pairs rows n s)
written_push rows n (t ∷ spans) s = ap (λ l. span_pairs rows n t ++ l) (written_push rows n spans s) ∙ sym (append_assoc (span_pairs rows n t) (written rows n spans) (span_pairs rows n s))

-- one more span
pub spans_next : (rows : List Row) (n : ℕ) (spans : List Span) (s : Span) (count : ℕ) (reasons : List Pair) (start : ℕ) → span_pairs rows n s ≡ take count (drop start reasons) → written rows n spans ≡ take start reasons
    → written rows n (spans ++ s ∷ []) ≡ take (start + count) reasons
spans_next rows n spans s count reasons start pairs are =
    written_push rows n spans s ∙ ap (λ l. l ++ span_pairs rows n s) are ∙ ap (λ l. take start reasons ++ l) pairs ∙ sym (take-add start count reasons)

module _ (rows : List Row) (n : ℕ) (spans : List Span) (i : ℕ) (s : Span) (lt : i < length spans) (is : s ≡ get_or spans i s) where
  -- up to the next span
  pub written_more : length (written rows n (take (i + 1) spans)) ≡ length (written rows n (take i spans)) + length (span_pairs rows n s)
  written_more =
      ap (λ ss. length (written rows n ss)) (take_more spans i s lt) ∙ ap length (written_push rows n (take i spans) (get_or spans i s))
      ∙ length-append (written rows n (take i spans)) (span_pairs rows n (get_or spans i s)) ∙ ap (λ (t : Span). length (written rows n (take i spans)) + length (span_pairs rows n t)) (sym is)

  pub written_most : length (written rows n (take i spans)) + length (span_pairs rows n s) ≤ length (written rows n spans)
  written_most =
      let same = ap (λ (t : Span). length (span_pairs rows n t)) is in
      let most = length-flat_map-take (span_pairs rows n) spans i s lt in omega (arith, same, most)

get_past : {X : Type 0} (xs ys : List X) (k : ℕ) → slice_get (xs ++ ys) (length xs + k) ≡ slice_get ys k
get_past [] ys k = let e : 0 + k ≡ k = omega arith in ap (slice_get ys) e
get_past (x ∷ xs) ys k = let e : suc (length xs) + k ≡ suc (length xs + k) = omega arith in ap (slice_get (x ∷ (xs ++ ys))) e ∙ get_past xs ys k

-- behind those of the spans before it stand those of a span
pub written_at : (rows : List Row) (n : ℕ) (spans : List Span) (i : ℕ) (s : Span) (left : ℕ) (p : Pair) → slice_get spans i ≡ Some s → slice_get (span_pairs rows n s) left ≡ Some p
    → slice_get (written rows n spans) (length (written rows n (take i spans)) + left) ≡ Some p
written_at rows n [] i s left p at is = cc
written_at rows n (t ∷ spans) zero s left p at is =
    let e : 0 + left ≡ left = omega arith in
    let own : slice_get (span_pairs rows n t) left ≡ Some p = ap (λ (z : Span). slice_get (span_pairs rows n z) left) (some_same t s at) ∙ is in
    ap (slice_get (span_pairs rows n t ++ written rows n spans)) e ∙ get_first (span_pairs rows n t) (written rows n spans) left p own
written_at rows n (t ∷ spans) (suc i) s left p at is =
    let long = length-append (span_pairs rows n t) (written rows n (take i spans)) in
    let e : length (span_pairs rows n t ++ written rows n (take i spans)) + left ≡ length (span_pairs rows n t) + (length (written rows n (take i spans)) + left) = omega (arith, long) in
    ap (slice_get (span_pairs rows n t ++ written rows n spans)) e ∙ get_past (span_pairs rows n t) (written rows n spans) (length (written rows n (take i spans)) + left) ∙ written_at rows n spans i s left p at is
