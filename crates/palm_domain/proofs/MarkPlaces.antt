-- Marks of places: what a write to one word leaves, and what a word's bits say of its places.
use Rattle.std.proofs.Common.{◌≡◌, ◌≢◌, ℕ, ◌+◌, ◌-◌, ◌*◌, ◌/◌, ◌%◌, ◌^◌, ◌<◌, ◌≤◌, true, false, not, List, [], ◌∷◌, length, ◌↔◌, nat_lt, min, zero, suc, lt-ltb, le-ltb, get_or, set, nat_eq, refl, sym, ap, ◌∙◌, arith, w64, bit_and, bit_or, get_or-set_same, get_or-set_other, ◌⊎◌, inl, inr, ⊎_elim, max, pow_pos}
use Rattle.std.specs.Int.{bit_at, bit_not}
use Rattle.std.proofs.lemmas.Bool.{cases_eq, cases_lt}
use Rattle.std.proofs.lemmas.List.{get_or_past}
use Rattle.std.proofs.lemmas.Nat.Bits.{bit_at_set_same, bit_at_set_other, bit_at_clear_same, bit_at_clear_other, shr_and_one, bit_at_not, bit_at-lt, bit_at_ones, bit_at_ones_above, bit_at-zero, bit_at_or, bit_at_above, bit_at_cat_low, bit_at_cat_high}
use Rattle.palm_domain.specs.Marks.{is_marked}
use Rattle.palm_domain.proofs.WordOnes.{bit_at-shr, bit_at-mod}

-- the words after a write that sets the place's bit
abbrev pub words_with : List ℕ → ℕ → List ℕ
words_with words p = set words (p / 64) (bit_or (get_or words (p / 64) 0) (1 * 2 ^ (p % 64) % 2 ^ 64))

-- the words after a write that clears it
abbrev pub words_without : List ℕ → ℕ → List ℕ
words_without words p = set words (p / 64) (bit_and (get_or words (p / 64) 0) (bit_not w64 (1 * 2 ^ (p % 64) % 2 ^ 64)))

pub is_marked-words_with_here : (words : List ℕ) (p : ℕ) → p / 64 < length words → is_marked (words_with words p) p ≡ true
unfolding is_marked
is_marked-words_with_here words p l =
    ap (λ w. nat_eq (bit_at w (p % 64)) 1) (get_or-set_same words (p / 64) _ 0 l) ∙ ap (λ b. nat_eq b 1) (bit_at_set_same w64 (get_or words (p / 64) 0) (p % 64) (omega arith))

pub is_marked-words_with_other : (words : List ℕ) (p k : ℕ) → p / 64 < length words → k ≢ p → is_marked (words_with words p) k ≡ is_marked words k
unfolding is_marked
is_marked-words_with_other words p k l apart =
    ⊎_elim (λ same. rw same (ap (λ w. nat_eq (bit_at w (k % 64)) 1) (get_or-set_same words (p / 64) _ 0 l) ∙ ap (λ b. nat_eq b 1) (bit_at_set_other w64 (get_or words (p / 64) 0) (p % 64) (omega arith) (k % 64) (λ e. apart (omega arith)))))
    (λ other. ap (λ w. nat_eq (bit_at w (k % 64)) 1) (get_or-set_other words (p / 64) (k / 64) _ 0 other)) (cases_eq (k / 64) (p / 64))

pub is_marked-words_without_here : (words : List ℕ) (p : ℕ) → p / 64 < length words → is_marked (words_without words p) p ≡ false
unfolding is_marked
is_marked-words_without_here words p l =
    ap (λ w. nat_eq (bit_at w (p % 64)) 1) (get_or-set_same words (p / 64) _ 0 l) ∙ ap (λ b. nat_eq b 1) (bit_at_clear_same w64 (get_or words (p / 64) 0) (p % 64) (omega arith))

pub is_marked-words_without_other : (words : List ℕ) (p k : ℕ) → p / 64 < length words → k ≢ p → is_marked (words_without words p) k ≡ is_marked words k
unfolding is_marked
is_marked-words_without_other words p k l apart =
    ⊎_elim (λ same. rw same (ap (λ w. nat_eq (bit_at w (k % 64)) 1) (get_or-set_same words (p / 64) _ 0 l) ∙ ap (λ b. nat_eq b 1) (bit_at_clear_other w64 (get_or words (p / 64) 0) (p % 64) (omega arith) (k % 64) (omega arith) (λ e. apart (omega arith)))))
    (λ other. ap (λ w. nat_eq (bit_at w (k % 64)) 1) (get_or-set_other words (p / 64) (k / 64) _ 0 other)) (cases_eq (k / 64) (p / 64))

-- the test of the code
pub is_marked_test : (words : List ℕ) (p : ℕ) → nat_eq (bit_and (get_or words (p / 64) 0 / 2 ^ (p % 64)) 1) 1 ≡ is_marked words p
unfolding is_marked
is_marked_test words p = ap (λ b. nat_eq b 1) (shr_and_one (get_or words (p / 64) 0) (p % 64))

-- a place of a word that is known by its word and its bit
pub is_marked_one : (words : List ℕ) (w b : ℕ) → b < 64 → bit_at (get_or words w 0) b ≡ 1 → is_marked words (w * 64 + b) ≡ true
unfolding is_marked
is_marked_one words w b l e =
    let word : (w * 64 + b) / 64 ≡ w = omega arith in
    let bit : (w * 64 + b) % 64 ≡ b = omega arith in
    rw (word, bit) (ap (λ x. nat_eq x 1) e)

pub is_marked_zero : (words : List ℕ) (k : ℕ) → bit_at (get_or words (k / 64) 0) (k % 64) ≡ 0 → is_marked words k ≡ false
unfolding is_marked
is_marked_zero words k e = ap (λ x. nat_eq x 1) e

-- what the complement of a word says of the place
pub is_marked-flipped : (words flipped : List ℕ) (k : ℕ) → get_or words (k / 64) 0 < 2 ^ 64 → get_or flipped (k / 64) 0 ≡ bit_not w64 (get_or words (k / 64) 0) → is_marked flipped k ≡ not (is_marked words k)
unfolding is_marked
is_marked-flipped words flipped k fits e =
    ap (λ w. nat_eq (bit_at w (k % 64)) 1) e ∙ ap (λ b. nat_eq b 1) (bit_at_not w64 (get_or words (k / 64) 0) (k % 64) fits (omega arith)) ∙ flip (bit_at (get_or words (k / 64) 0) (k % 64)) (bit_at-lt (get_or words (k / 64) 0) (k % 64))
  where
    flip : (b : ℕ) → b < 2 → nat_eq (1 - b) 1 ≡ not (nat_eq b 1)
    flip zero l = refl
    flip (suc zero) l = refl
    flip (suc (suc b)) l = absurd (omega arith)

-- a word with ones at its first places, at the place k of its words
pub is_marked-low_ones : (words : List ℕ) (k count ones : ℕ) → get_or words (k / 64) 0 ≡ 2 ^ ones - 1 → (k % 64 < ones) ↔ (k < count) → is_marked words k ≡ nat_lt k count
unfolding is_marked
is_marked-low_ones words k count ones e same =
    ⊎_elim (λ l. ap (λ w. nat_eq (bit_at w (k % 64)) 1) e ∙ ap (λ b. nat_eq b 1) (bit_at_ones ones (k % 64) l) ∙ sym (lt-ltb k count (same.0 l)))
    (λ ge. ap (λ w. nat_eq (bit_at w (k % 64)) 1) e ∙ ap (λ b. nat_eq b 1) (bit_at_ones_above ones (k % 64) ge) ∙ sym (le-ltb k count (⊎_elim (λ l. absurd (omega (arith, same.1 l))) (λ g. g) (cases_lt k count)))) (cases_lt (k % 64) ones)

-- the four words with ones at the first places
pub is_marked-of_first : (a b c d count : ℕ) → count ≤ 256 → a ≡ 2 ^ min count 64 - 1 → b ≡ 2 ^ min (count - 64) 64 - 1 → c ≡ 2 ^ min (count - 128) 64 - 1 → d ≡ 2 ^ min (count - 192) 64 - 1 → (k : ℕ) → is_marked (a ∷ b ∷ c ∷ d ∷ []) k ≡ nat_lt k count
is_marked-of_first a b c d count small ea eb ec ed k =
    let words : List ℕ = a ∷ b ∷ c ∷ d ∷ [] in
    ⊎_elim (λ l. let e : k / 64 ≡ 0 = omega arith in is_marked-low_ones words k count (min count 64) (rw e ea) (λ m. omega arith, λ m. omega arith))
    (λ l0. ⊎_elim (λ l. let e : k / 64 ≡ 1 = omega arith in is_marked-low_ones words k count (min (count - 64) 64) (rw e eb) (λ m. omega arith, λ m. omega arith))
    (λ l1. ⊎_elim (λ l. let e : k / 64 ≡ 2 = omega arith in is_marked-low_ones words k count (min (count - 128) 64) (rw e ec) (λ m. omega arith, λ m. omega arith))
    (λ l2. ⊎_elim (λ l. let e : k / 64 ≡ 3 = omega arith in is_marked-low_ones words k count (min (count - 192) 64) (rw e ed) (λ m. omega arith, λ m. omega arith))
    (λ l3. is_marked_zero words k (ap (λ w. bit_at w (k % 64)) (get_or_past words (k / 64) 0 (omega arith)) ∙ bit_at-zero (k % 64)) ∙ sym (le-ltb k count (omega arith))) (cases_lt k 256)) (cases_lt k 192)) (cases_lt k 128)) (cases_lt k 64)

-- the complements of four words
abbrev pub flipped_words : List ℕ → List ℕ
flipped_words words =
    bit_not w64 (get_or words 0 0) ∷ bit_not w64 (get_or words 1 0) ∷ bit_not w64 (get_or words 2 0) ∷ bit_not w64 (get_or words 3 0) ∷ []

pub is_marked-flipped_words : (words : List ℕ) (k : ℕ) → get_or words (k / 64) 0 < 2 ^ 64 → k < 256 → is_marked (flipped_words words) k ≡ not (is_marked words k)
is_marked-flipped_words words k fits small =
    is_marked-flipped words (flipped_words words) k fits (⊎_elim (λ l. let e : k / 64 ≡ 0 = omega arith in rw e)
    (λ l0. ⊎_elim (λ l. let e : k / 64 ≡ 1 = omega arith in rw e)
    (λ l1. ⊎_elim (λ l. let e : k / 64 ≡ 2 = omega arith in rw e)
    (λ l2. let e : k / 64 ≡ 3 = omega arith in rw e) (cases_lt k 192)) (cases_lt k 128)) (cases_lt k 64))

-- zeros of a word, as places with no mark
pub is_marked_zeros : (words : List ℕ) (w low high : ℕ) → high ≤ 64 → ((b : ℕ) → low ≤ b → b < high → bit_at (get_or words w 0) b ≡ 0) → (k : ℕ) → w * 64 + low ≤ k → k < w * 64 + high → is_marked words k ≡ false
is_marked_zeros words w low high small zeros k from below =
    let word : k / 64 ≡ w = omega arith in
    is_marked_zero words k (ap (λ v. bit_at (get_or words v 0) (k % 64)) word ∙ zeros (k % 64) (omega arith) (omega arith))

-- what holds of the places up to a, and of those from a up to b, holds up to b
pub no_mark_before : (words : List ℕ) (from a b : ℕ) → ((k : ℕ) → from ≤ k → k < a → is_marked words k ≡ false) → ((k : ℕ) → a ≤ k → k < b → is_marked words k ≡ false) → (k : ℕ) → from ≤ k → k < b → is_marked words k ≡ false
no_mark_before words from a b early late k low high = ⊎_elim (λ l. early k low l) (λ ge. late k ge high) (cases_lt k a)

-- ---- 64 places in a row, as a word

-- the bits of a word shifted down are the marks of its places from there on
window_within : (words : List ℕ) (from k : ℕ) → from % 64 + k < 64 → nat_eq (bit_at (get_or words (from / 64) 0 / 2 ^ (from % 64)) k) 1 ≡ is_marked words (from + k)
unfolding is_marked
window_within words from k l =
    let word : from / 64 ≡ (from + k) / 64 = omega arith in
    let bit : from % 64 + k ≡ (from + k) % 64 = omega arith in
    ap (λ b. nat_eq b 1) (bit_at-shr (get_or words (from / 64) 0) (from % 64) k ∙ ap (λ w. bit_at (get_or words w 0) (from % 64 + k)) word ∙ ap (bit_at (get_or words ((from + k) / 64) 0)) bit)

-- behind the word there are none
shifted_out : (word s k : ℕ) → word < 2 ^ 64 → 64 ≤ s + k → bit_at (word / 2 ^ s) k ≡ 0
shifted_out word s k fits ge = bit_at-shr word s k ∙ bit_at_above word 64 (s + k) fits ge

-- the bits of a word shifted up
shifted_low : (word p k : ℕ) → k < 64 → k < p → bit_at (word * 2 ^ p % 2 ^ 64) k ≡ 0
shifted_low word p k small l =
    let e : word * 2 ^ p ≡ word * 2 ^ p + 0 = omega arith in
    bit_at-mod (word * 2 ^ p) 64 k small ∙ ap (λ n. bit_at n k) e ∙ bit_at_cat_low word p 0 k l ∙ bit_at-zero k

shifted_high : (word p k : ℕ) → k < 64 → p ≤ k → bit_at (word * 2 ^ p % 2 ^ 64) k ≡ bit_at word (k - p)
shifted_high word p k small ge =
    let e : word * 2 ^ p ≡ word * 2 ^ p + 0 = omega arith in
    bit_at-mod (word * 2 ^ p) 64 k small ∙ ap (λ n. bit_at n k) e ∙ bit_at_cat_high word p 0 k (pow_pos p) ge

pub window_of_one : (words : List ℕ) (from k : ℕ) → get_or words (from / 64) 0 < 2 ^ 64 → k < 64 → (from % 64 ≡ 0) ⊎ (length words ≤ from / 64 + 1) → nat_eq (bit_at (get_or words (from / 64) 0 / 2 ^ (from % 64)) k) 1 ≡ is_marked words (from + k)
window_of_one words from k fits small last =
    ⊎_elim (window_within words from k) (λ ge.
    let none : length words ≤ (from + k) / 64 = elim last [ inl first ↦ absurd (omega arith) | inr l ↦ omega arith ] in
    ap (λ b. nat_eq b 1) (shifted_out (get_or words (from / 64) 0) (from % 64) k fits ge)
    ∙ sym (is_marked_zero words (from + k) (ap (λ w. bit_at w ((from + k) % 64)) (get_or_past words ((from + k) / 64) 0 none) ∙ bit_at-zero ((from + k) % 64)))) (cases_lt (from % 64 + k) 64)

pub window_of_two : (words : List ℕ) (from k : ℕ) → get_or words (from / 64) 0 < 2 ^ 64 → k < 64 → nat_eq (bit_at (bit_or (get_or words (from / 64) 0 / 2 ^ (from % 64)) (get_or words (from / 64 + 1) 0 * 2 ^ (64 - from % 64) % 2 ^ 64)) k) 1 ≡ is_marked words (from + k)
unfolding is_marked
window_of_two words from k fits small =
    let low = get_or words (from / 64) 0 / 2 ^ (from % 64) in
    let p = 64 - from % 64 in
    let high = get_or words (from / 64 + 1) 0 in
    ap (λ b. nat_eq b 1) (bit_at_or low (high * 2 ^ p % 2 ^ 64) k) ∙
    ⊎_elim (λ l.
    let none = shifted_low high p k small (omega arith) in
    let one : max (bit_at low k) 0 ≡ bit_at low k = omega arith in
    ap (λ b. nat_eq (max (bit_at low k) b) 1) none ∙ ap (λ b. nat_eq b 1) one ∙ window_within words from k l)
    (λ ge.
    let none = shifted_out (get_or words (from / 64) 0) (from % 64) k fits ge in
    let word : from / 64 + 1 ≡ (from + k) / 64 = omega arith in
    let bit : k - p ≡ (from + k) % 64 = omega arith in
    let one : max 0 (bit_at high (k - p)) ≡ bit_at high (k - p) = omega arith in
    ap (λ b. nat_eq (max b (bit_at (high * 2 ^ p % 2 ^ 64) k)) 1) none
    ∙ ap (λ b. nat_eq (max 0 b) 1) (shifted_high high p k small (omega arith))
    ∙ ap (λ b. nat_eq b 1) (one ∙ ap (λ w. bit_at (get_or words w 0) (k - p)) word ∙ ap (bit_at (get_or words ((from + k) / 64) 0)) bit)) (cases_lt (from % 64 + k) 64)
