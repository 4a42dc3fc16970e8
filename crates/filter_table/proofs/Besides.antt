-- The rows of a table of two columns that support a value or block it, by the bits of what stands beside it.
use Rattle.std.proofs.Common.{Bool, ◌≡◌, ℕ, zero, suc, ◌-◌, ◌^◌, ◌<◌, ℤ, pos, ◌+ℤ◌, true, false, not, ◌&&◌, List, [], length, get_or, slice_get, Some, nat_eq, ne_eqb, bit_and, w64, inl, inr, refl, sym, ap, ◌∙◌, subst, arith}
use Rattle.std.specs.Int.{bit_at, trailing_zeros}
use Rattle.std.specs.List.{list_any}
use Rattle.std.proofs.lemmas.Int.{ints}
use Rattle.std.proofs.lemmas.Bool.{cases_Bool, cases_eq, both_ways, and_from, and_parts}
use Rattle.std.proofs.lemmas.List.{get_or_default, length-map}
use Rattle.std.proofs.lemmas.Nat.Bits.{bit_at_and, bit_at-zero, bit_at-lt, bit_at-trailing_zeros}
use Rattle.std.proofs.lemmas.Option.{slice_get_within, get_or_from_slice_get, slice_get-get_or}
use Rattle.palm_base.proofs.cited.Telling.{tells_both}
use Rattle.palm_base.specs.Tells.{Tells}
use Rattle.palm_base.specs.declared.terms.Pair.{Pair}
use Rattle.palm_model.specs.Domains.{Domains, Has, is_among}
use Rattle.palm_model.specs.Table.{are_there, row_pairs}
use Rattle.palm_model.proofs.cited.Supports.{any_member}
use Rattle.filter_table.specs.Beside.{AreBeside, HasBit, IsNear, IsNoted}
use Rattle.filter_table.specs.Table.{IsIndexed, column_values, entry_at, is_support_row, row_at}
use Rattle.filter_table.specs.declared.beside.Beside.{Beside}
use Rattle.filter_table.specs.declared.indexed.IndexedTable.{IndexedTable}
use Rattle.filter_table.proofs.Columned.{column_at, column_every, column_stands, column_within, some_row, two_gives, two_fails}
use Rattle.filter_table.proofs.Partners.{stands_beside}

-- ---- two words that share a one

shared : (a b : ℕ) → bit_and a b < 2 ^ 64 → (bit_and a b ≡ 0 → ⊥) → (k : ℕ) × (k < 64) × (bit_at a k ≡ 1) × (bit_at b k ≡ 1)
shared a b fits some =
    let k = trailing_zeros w64 (bit_and a b) in
    let one = bit_at-trailing_zeros w64 (bit_and a b) (omega (arith, some)) fits in
    (k, one.0, omega (arith, one.1, bit_at_and a b k, bit_at-lt a k, bit_at-lt b k), omega (arith, one.1, bit_at_and a b k, bit_at-lt a k, bit_at-lt b k))

unshared : (a b k : ℕ) → bit_and a b ≡ 0 → bit_at a k ≡ 1 → bit_at b k ≡ 1 → ⊥
unshared a b k none one other = absurd (omega (arith, bit_at_and a b k, ap (λ n. bit_at n k) none, bit_at-zero k, one, other))

-- ---- the other variable

pub other_variable : (xs : List ℕ) → length xs ≡ 2 → (own : ℕ) (vars : List ℕ) (y : ℕ) → vars ≡ xs → y ≡ get_or vars (1 - own) y → slice_get xs (1 - own) ≡ Some y
other_variable xs two own vars y same is = slice_get-get_or xs (1 - own) y (omega (arith, two)) ∙ ap Some (sym (is ∙ ap (λ zs. get_or zs (1 - own) y) same))

-- ---- no row

no_row_of : (p : List ℤ → Bool) (rows : List (List ℤ)) → ((k : ℕ) → k < length rows → p (row_at rows k) ≡ true → ⊥) → false ≡ list_any p rows
no_row_of p rows none = elim (cases_Bool (list_any p rows)) [
  | inl some ↦
      let r = any_member p rows some in
      absurd (none r.1.0 r.1.1 (ap p (get_or_default rows r.1.0 [] r.0 r.1.1 ∙ r.1.2) ∙ r.2))
  | inr f ↦ sym f
]

none_there : (t : IndexedTable) (d : Domains) (x : ℕ) (v : ℤ) → ((k : ℕ) → k < length t.rows → is_among (row_pairs t.vars (row_at t.rows k)) x v ≡ true → are_there d (row_pairs t.vars (row_at t.rows k)) ≡ false) → false ≡ list_any (is_support_row d t.vars x v) t.rows
none_there t d x v missing = no_row_of (is_support_row d t.vars x v) t.rows (λ k lt h.
    let ps = row_pairs t.vars (row_at t.rows k) in
    let parts = and_parts (is_among ps x v) (are_there d ps) h in
    both_ways (are_there d ps) (missing k lt parts.0) parts.1)

-- ---- the bits of a column

bits_of : (t : IndexedTable) → IsIndexed t → (own x y : ℕ) → slice_get t.vars own ≡ Some x → slice_get t.vars (1 - own) ≡ Some y → (b : Beside) → slice_get t.besides.items own ≡ Some b
    → AreBeside (column_values t.rows own) (column_values t.rows (1 - own)) (length (column_values t.rows own)) b
bits_of t indexed own x y at at_other b lookup =
    let own_is = indexed.columns.each own [] (slice_get_within t.vars own x at) in
    let other_is = indexed.columns.each (1 - own) [] (slice_get_within t.vars (1 - own) y at_other) in
    subst (λ us. AreBeside us (column_values t.rows (1 - own)) (length us) b) own_is
    (subst (λ ws. AreBeside (get_or t.columns.items own []) ws (length (get_or t.columns.items own [])) b) other_is (indexed.besides.each own b lookup))

-- a place of the columns is that of a row
column_length : (t : IndexedTable) (c k : ℕ) → k < length t.rows → k < length (column_values t.rows c)
column_length t c k lt =
    let entry : List ℤ → ℤ = λ r. get_or r c (pos 0) in omega (arith, length-map t.rows entry)

-- ---- support

module _ (t : IndexedTable) (indexed : IsIndexed t) (two : length t.vars ≡ 2) (d : Domains) (own x : ℕ) (v : ℤ) (at : slice_get t.vars own ≡ Some x) (present : Has d x v)
    (b : Beside) (lookup : slice_get t.besides.items own ≡ Some b) (y : ℕ) (at_other : slice_get t.vars (1 - own) ≡ Some y) (window : ℕ)
    (shows : (k : ℕ) → k < 64 → Tells (nat_eq (bit_at window k) 1) (Has d y (b.other_least +ℤ pos k))) where
  bits : AreBeside (column_values t.rows own) (column_values t.rows (1 - own)) (length (column_values t.rows own)) b
  bits = bits_of t indexed own x y at at_other b lookup

  -- the entry beside the own one
  entry_is : (k : ℕ) (w : ℤ) → k < length t.rows → w ≡ get_or (row_at t.rows k) (1 - own) (pos 0) → record { var = y; value = w } ≡ entry_at t.vars (row_at t.rows k) (1 - own)
  entry_is k w lt is =
      ap (λ u. pair y u) is ∙ ap (λ z. pair z (get_or (row_at t.rows k) (1 - own) (pos 0))) (sym (get_or_from_slice_get t.vars (1 - own) y 0 at_other))
    where
      pair : ℕ → ℤ → Pair
      pair z u = record { var = z; value = u }

  -- a row that has the value has a bit
  row_bit : (k : ℕ) → k < length t.rows → is_among (row_pairs t.vars (row_at t.rows k)) x v ≡ true → HasBit b v (get_or (row_at t.rows k) (1 - own) (pos 0))
  row_bit k lt among =
      bits.all k v _ (column_length t own k lt) (column_every t.vars t.rows indexed.distinct indexed.long own x k v at lt among)
      (column_at t.vars t.rows indexed.distinct indexed.long (1 - own) k lt)

  -- a bit that is one in the word of the value and in the window is that of a row
  pub bit_gives : (i n : ℕ) → IsNear b.own_least v i → n < 64 → IsNoted b i n → bit_at window n ≡ 1 → true ≡ list_any (is_support_row d t.vars x v) t.rows
  bit_gives i n near small noted one =
      let r = bits.only i n near.within small noted in
      let k = r.place in
      let own_at : slice_get (column_values t.rows own) k ≡ Some v = r.own ∙ ap Some (sym near.is) in
      let lt = column_within t.vars t.rows indexed.distinct indexed.long own k v own_at in
      let w : ℤ = b.other_least +ℤ pos n in
      let entry : w ≡ get_or (row_at t.rows k) (1 - own) (pos 0) = some_same (sym r.other ∙ column_at t.vars t.rows indexed.distinct indexed.long (1 - own) k lt) in
      two_gives t indexed two d own x v at present k lt (column_stands t.vars t.rows indexed.distinct indexed.long own x k v at own_at)
      (record { var = y; value = w }) (entry_is k w lt entry) (nat_eq (bit_at window n) 1) (shows n small) (ap (λ m. nat_eq m 1) one)
    where
      some_same : {w u : ℤ} → Some w ≡ Some u → w ≡ u
      some_same e = cc

  pub no_bit : ((i n : ℕ) → IsNear b.own_least v i → IsNoted b i n → bit_at window n ≡ 1 → ⊥) → false ≡ list_any (is_support_row d t.vars x v) t.rows
  no_bit none = none_there t d x v (λ k lt among.
      let h = row_bit k lt among in
      let n = h.bit in
      let w : ℤ = b.other_least +ℤ pos n in
      two_fails t indexed two d own x v at present k lt among (record { var = y; value = w }) (entry_is k w lt (sym h.other.is)) (nat_eq (bit_at window n) 1) (shows n h.other.within)
      (zero_bit (bit_at window n) (bit_at-lt window n) (none h.word n h.own h.noted)))
    where
      zero_bit : (m : ℕ) → m < 2 → (m ≡ 1 → ⊥) → nat_eq m 1 ≡ false
      zero_bit zero l n = refl
      zero_bit (suc zero) l n = absurd (n refl)
      zero_bit (suc (suc m)) l n = absurd (omega arith)

  -- the test of the two words
  pub word_tells : (i : ℕ) → IsNear b.own_least v i → bit_and (get_or b.words i 0) window < 2 ^ 64 → not (nat_eq (bit_and (get_or b.words i 0) window) 0) ≡ list_any (is_support_row d t.vars x v) t.rows
  word_tells i near fits = elim (cases_eq (bit_and (get_or b.words i 0) window) 0) [
    | inl none ↦
        ap (λ m. not (nat_eq m 0)) none ∙ no_bit (λ j n near' noted one.
        let same : j ≡ i = omega (arith, ints, near.is, near'.is) in
        unshared (get_or b.words i 0) window n none (ap (λ m. bit_at (get_or b.words m 0) n) (sym same) ∙ noted) one)
    | inr some ↦
        let s = shared (get_or b.words i 0) window fits some in
        ap not (ne_eqb (bit_and (get_or b.words i 0) window) 0 some) ∙ bit_gives i s.0 near s.1 s.2 s.3
  ]

  -- a value that has no word is in no row
  pub far_tells : ((k : ℕ) → IsNear b.own_least v k → ⊥) → false ≡ list_any (is_support_row d t.vars x v) t.rows
  far_tells far = no_bit (λ i n near _ _. far i near)

-- ---- what stands beside it

module _ (t : IndexedTable) (indexed : IsIndexed t) (own x y : ℕ) (v : ℤ) (at : slice_get t.vars own ≡ Some x) (at_other : slice_get t.vars (1 - own) ≡ Some y) (b : Beside) (lookup : slice_get t.besides.items own ≡ Some b) where
  own_bits : AreBeside (column_values t.rows own) (column_values t.rows (1 - own)) (length (column_values t.rows own)) b
  own_bits = bits_of t indexed own x y at at_other b lookup

  abbrev has_both : ℤ → List ℤ → Bool
  has_both w row = is_among (row_pairs t.vars row) x v && is_among (row_pairs t.vars row) y w

  row_noted : (w : ℤ) (k : ℕ) → k < length t.rows → has_both w (row_at t.rows k) ≡ true → HasBit b v w
  row_noted w k lt h =
      let ps = row_pairs t.vars (row_at t.rows k) in
      let parts = and_parts (is_among ps x v) (is_among ps y w) h in
      own_bits.all k v w (column_length t own k lt) (column_every t.vars t.rows indexed.distinct indexed.long own x k v at lt parts.0)
      (column_every t.vars t.rows indexed.distinct indexed.long (1 - own) y k w at_other lt parts.1)

  -- a bit tells whether a row has both values
  pub stands_told : (w : ℤ) → Tells (stands_beside t.vars t.rows x v y w) (HasBit b v w)
  stands_told w =
      tells_both (HasBit b v w) (stands_beside t.vars t.rows x v y w)
      (λ some.
      let r = any_member (has_both w) t.rows some in
      row_noted w r.1.0 r.1.1 (ap (has_both w) (get_or_default t.rows r.1.0 [] r.0 r.1.1 ∙ r.1.2) ∙ r.2))
      (λ none h.
      let r = own_bits.only h.word h.bit h.own.within h.other.within h.noted in
      let k = r.place in
      let own_at : slice_get (column_values t.rows own) k ≡ Some v = r.own ∙ ap Some (sym h.own.is) in
      let other_at : slice_get (column_values t.rows (1 - own)) k ≡ Some w = r.other ∙ ap Some (sym h.other.is) in
      let lt = column_within t.vars t.rows indexed.distinct indexed.long own k v own_at in
      let ps = row_pairs t.vars (row_at t.rows k) in
      both_ways (stands_beside t.vars t.rows x v y w) none
      (sym (some_row (has_both w) t.rows k lt
      (and_from (is_among ps x v) (is_among ps y w) (column_stands t.vars t.rows indexed.distinct indexed.long own x k v at own_at)
      (column_stands t.vars t.rows indexed.distinct indexed.long (1 - own) y k w at_other other_at)))))
