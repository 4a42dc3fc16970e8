-- The bits of the values that stand beside those of a column.
use Rattle.std.proofs.Common.{◌≡◌, ℕ, zero, suc, ◌+◌, ◌*◌, ◌%◌, ◌^◌, ◌<◌, ◌≤◌, ℤ, pos, ◌+ℤ◌, List, length, min, get_or, set, replicate, slice_get, Some, w64, bit_or, get_or-set_same, get_or-set_other, inl, inr, refl, sym, ap, ◌∙◌, subst, arith}
use Rattle.std.specs.Int.{bit_at}
use Rattle.std.proofs.lemmas.Bool.{cases_eq, cases_lt}
use Rattle.std.proofs.lemmas.Nat.Bits.{bit_at_set_same, bit_at_set_other, bit_at-zero}
use Rattle.std.proofs.lemmas.Option.{slice_get_within, get_or_from_slice_get, slice_get-get_or}
use Rattle.filter_table.specs.Beside.{AreBeside, IsNear, IsRow}
use Rattle.filter_table.specs.declared.beside.Beside.{Beside}

abbrev beside_is : ℤ → ℤ → List ℕ → Beside
beside_is own_least other_least words = record { own_least = own_least; other_least = other_least; words = words }

pub no_ones : (n i z : ℕ) → get_or (replicate n z) i z ≡ z
no_ones zero i z = refl
no_ones (suc n) zero z = refl
no_ones (suc n) (suc i) z = no_ones n i z

-- the words with one more bit
abbrev with_bit : List ℕ → ℕ → ℕ → List ℕ
with_bit words i k = set words i (bit_or (get_or words i 0) (1 * 2 ^ k % 2 ^ 64))

noted_here : (words : List ℕ) (i k : ℕ) → i < length words → k < 64 → bit_at (get_or (with_bit words i k) i 0) k ≡ 1
noted_here words i k l small = ap (λ w. bit_at w k) (get_or-set_same words i _ 0 l) ∙ bit_at_set_same w64 (get_or words i 0) k small

-- another bit is as it was
noted_other : (words : List ℕ) (i k j n : ℕ) → i < length words → k < 64 → (j ≡ i → n ≡ k → ⊥) → bit_at (get_or (with_bit words i k) j 0) n ≡ bit_at (get_or words j 0) n
noted_other words i k j n l small apart = elim (cases_eq j i) [
  | inl same ↦
      ap (λ m. bit_at (get_or (with_bit words i k) m 0) n) same ∙ ap (λ w. bit_at w n) (get_or-set_same words i _ 0 l)
      ∙ bit_at_set_other w64 (get_or words i 0) k small n (apart same) ∙ ap (λ m. bit_at (get_or words m 0) n) (sym same)
  | inr other ↦ ap (λ w. bit_at w n) (get_or-set_other words i j _ 0 other)
]

-- a bit that was one is one
noted_still : (words : List ℕ) (i k j n : ℕ) → i < length words → k < 64 → bit_at (get_or words j 0) n ≡ 1 → bit_at (get_or (with_bit words i k) j 0) n ≡ 1
noted_still words i k j n l small one = elim (cases_eq j i) [
  | inl same ↦ elim (cases_eq n k) [
    | inl here ↦ ap (λ m. bit_at (get_or (with_bit words i k) m 0) n) same ∙ ap (bit_at (get_or (with_bit words i k) i 0)) here ∙ noted_here words i k l small
    | inr apart ↦ noted_other words i k j n l small (λ _. apart) ∙ one
  ]
  | inr other ↦ noted_other words i k j n l small (λ e _. other e) ∙ one
]

module _ (us ws : List ℤ) (own_least other_least : ℤ) where
  pub no_bits : (words : List ℕ) → ((i : ℕ) → get_or words i 0 ≡ 0) → AreBeside us ws 0 (beside_is own_least other_least words)
  no_bits words zeros = record {
    all = λ j u w l. absurd (omega arith);
    only = λ i k small low one. absurd (omega (arith, sym one ∙ ap (λ n. bit_at n k) (zeros i) ∙ bit_at-zero k));
  }

  pub more_bits : (words : List ℕ) (place : ℕ) (u w : ℤ) (i k : ℕ) → place < length us → place < length ws → u ≡ get_or us place u → w ≡ get_or ws place w → IsNear own_least u i → IsNear other_least w k → 64 ≤ length words → AreBeside us ws place (beside_is own_least other_least words) → AreBeside us ws (place + 1) (beside_is own_least other_least (with_bit words i k))
  more_bits words place u w i k own_in other_in is_u is_w near_u near_w long before =
      let small : k < 64 = near_w.within in
      let l : i < length words = omega (arith, near_u.within, long) in
      let at_u : slice_get us place ≡ Some u = slice_get-get_or us place u own_in ∙ ap Some (sym is_u) in
      let at_w : slice_get ws place ≡ Some w = slice_get-get_or ws place w other_in ∙ ap Some (sym is_w) in
      record {
        all = λ j x y below at_x at_y. elim (cases_lt j place) [
          | inl earlier ↦
              let h = before.all j x y earlier at_x at_y in
              record { word = h.word; bit = h.bit; own = h.own; other = h.other; noted = noted_still words i k h.word h.bit l small h.noted }
          | inr ge ↦
              let here : j ≡ place = omega arith in
              let same_x : u ≡ x = is_u ∙ ap (λ n. get_or us n u) (sym here) ∙ get_or_from_slice_get us j x u at_x in
              let same_y : w ≡ y = is_w ∙ ap (λ n. get_or ws n w) (sym here) ∙ get_or_from_slice_get ws j y w at_y in
              record {
                word = i;
                bit = k;
                own = subst (λ v. IsNear own_least v i) same_x near_u;
                other = subst (λ v. IsNear other_least v k) same_y near_w;
                noted = noted_here words i k l small;
              }
        ];
        only = λ j n below low one. elim (cases_eq j i) [
          | inl same ↦ elim (cases_eq n k) [
            | inl here ↦ record {
              place = place;
              own = at_u ∙ ap Some (near_u.is ∙ ap (λ m. own_least +ℤ pos m) (sym same));
              other = at_w ∙ ap Some (near_w.is ∙ ap (λ m. other_least +ℤ pos m) (sym here));
            }
            | inr apart ↦ earlier_row before j n below low (sym (noted_other words i k j n l small (λ _. apart)) ∙ one)
          ]
          | inr other ↦ earlier_row before j n below low (sym (noted_other words i k j n l small (λ e _. other e)) ∙ one)
        ];
      }
    where
      earlier_row : AreBeside us ws place (beside_is own_least other_least words) → (j n : ℕ) → j < 64 → n < 64 → bit_at (get_or words j 0) n ≡ 1 → IsRow us ws (beside_is own_least other_least (with_bit words i k)) j n
      earlier_row before j n below low one =
          let r = before.only j n below low one in
          record { place = r.place; own = r.own; other = r.other }

pub all_bits : (us ws : List ℤ) (b : Beside) (place : ℕ) → min (length us) (length ws) ≤ place → AreBeside us ws place b → AreBeside us ws (length us) b
all_bits us ws b place far are = record {
  all = λ j u w below at_u at_w. are.all j u w (omega (arith, slice_get_within us j u at_u, slice_get_within ws j w at_w)) at_u at_w;
  only = are.only;
}
