-- What `parse` gives at 128 bits, in the words of the texts of whole numbers.
use Rattle.std.proofs.Common.{◌≡◌, ◌≢◌, ℕ, ℤ, pos, neg_ℤ, zero, suc, ◌+◌, ◌-◌, ◌*◌, ◌^◌, ◌<◌, ◌≤◌, List, [], ◌∷◌, length, get_or, drop, fold, All, Result, Ok, Err, MatchResult, FitsSigned, Option, IfSome, IfNone, nat_eq, take, false, refl, arith, ap, sym, inl, inr, ◌∙◌}
use Rattle.std.specs.Fmt.{decimal}
use Rattle.std.specs.Int.{w128}
use Rattle.std.specs.Str.{IsAscii}
use Rattle.std.specs.Str.Parse.{ParsesSigned}
use Rattle.std.specs.Result.{OkIff, result_ok}
use Rattle.std.specs.Cmp.Lexicographic.{pointwise}
use Rattle.std.proofs.lemmas.Bool.Decides.{nat_tests}
use Rattle.std.proofs.lemmas.Fmt.{decimal_is_IsNumeral_wide}
use Rattle.std.proofs.lemmas.Int.{ints}
use Rattle.std.proofs.lemmas.Bool.{cases_eq, cases_lt}
use Rattle.std.proofs.lemmas.Str.Ascii.{IsAscii-from_all, IsAscii-cons}
use Rattle.std.proofs.lemmas.Str.Parse.{IsDigitsTest, FoldsDigits, IsNumeralModel, numerals_by_fold, parse_signed_minus, parse_signed_plain}
use Rattle.palm_base.specs.Numbers.{digits_number, AreDigits, IsIntText}

abbrev Each : List ℕ → Type 0
Each bytes = All (λ b. (48 ≤ b) × (b ≤ 57)) bytes

more : (b : ℕ) (bs : List ℕ) → (48 ≤ b) × (b ≤ 57) → Each bs → Each (b ∷ bs)
more b bs h hs zero d l = h
more b bs h hs (suc k) d l = hs k d (omega arith)

tells_each : IsDigitsTest Each
tells_each = record {
  empty = λ k d l. absurd (omega arith);
  parts = λ b bs h. (h 0 0 (omega arith), λ k d l. h (suc k) d (omega arith));
  more = λ b bs h hs. more b bs h hs;
}

folds : FoldsDigits (λ n bytes. fold (λ m b. 10 * m + (b - 48)) n bytes)
folds = record {
  empty = λ n. refl;
  more = λ n b bs h. ap (λ m. fold (λ k c. 10 * k + (c - 48)) m bs) (omega arith);
}

own : IsNumeralModel Each digits_number
own = numerals_by_fold Each tells_each _ folds

-- the number that fits is read, and where none is read no number that fits stands there
abbrev Reads : {E : Type 0} → List ℕ → Result ℤ E → Type 0
Reads bytes r =
    MatchResult r (λ z. IsIntText bytes z × FitsSigned w128 z) (λ _. (z : ℤ) → IsIntText bytes z → FitsSigned w128 z → ⊥)

fits_plain : (n : ℕ) → n < 2 ^ 127 → FitsSigned w128 (pos n)
fits_plain n h = omega (arith, ints)

small_plain : (n : ℕ) → FitsSigned w128 (pos n) → n < 2 ^ 127
small_plain n h = omega (arith, ints)

fits_minus : (n : ℕ) → n ≤ 2 ^ 127 → FitsSigned w128 (neg_ℤ (pos n))
fits_minus n h = omega (arith, ints)

small_minus : (n : ℕ) → FitsSigned w128 (neg_ℤ (pos n)) → n ≤ 2 ^ 127
small_minus n h = omega (arith, ints)

no_digits : (b : ℕ) (bs : List ℕ) → b < 48 → AreDigits (b ∷ bs) → ⊥
no_digits b bs h d = absurd (omega (arith, (d.each 0 0 (omega arith)).0))

plain : {E : Type 0} (b : ℕ) (bs : List ℕ) (r : Result ℤ E) → b ≢ 45 → OkIff r (Each (b ∷ bs) × (0 < length (b ∷ bs)) × (digits_number (b ∷ bs) < 2 ^ 127)) (pos (digits_number (b ∷ bs))) → Reads (b ∷ bs) r
plain b bs (Ok z) ne h =
    (inl (record { some = h.0.1; each = h.0.0 }, h.1), rw h.1 (fits_plain (digits_number (b ∷ bs)) h.0.2))
plain b bs (Err e) ne h = λ z t f.
    elim t [
      | inl d ↦ h (d.0.each, d.0.some, small_plain (digits_number (b ∷ bs)) (rw d.1 at f))
      | inr d ↦ absurd (ne (ap (λ xs. get_or xs 0 0) d.1))
    ]

minus : {E : Type 0} (bs : List ℕ) (r : Result ℤ E) → OkIff r (Each bs × (0 < length bs) × (digits_number bs ≤ 2 ^ 127)) (neg_ℤ (pos (digits_number bs))) → Reads (45 ∷ bs) r
minus bs (Ok z) h =
    (inr (bs, refl, record { some = h.0.1; each = h.0.0 }, h.1), rw h.1 (fits_minus (digits_number bs) h.0.2))
minus bs (Err e) h = λ z t f.
    elim t [
      | inl d ↦ no_digits 45 bs (omega arith) d.0
      | inr d ↦
          let same : d.0 ≡ bs = sym (ap (drop 1) d.1) in
          h (rw same at d.2.each, rw same at d.2.some, small_minus (digits_number bs) (rw (d.3, same) at f))
    ]

empty : {E : Type 0} (r : Result ℤ E) → OkIff r (Each [] × (0 < length {A = ℕ} []) × (digits_number [] < 2 ^ 127)) (pos (digits_number [])) → Reads [] r
empty (Ok z) h = absurd (omega (arith, h.0.1))
empty (Err e) h = λ z t f. elim t [ inl d ↦ absurd (omega (arith, d.0.some)) | inr d ↦ cc d.1 ]

pub reads : {E : Type 0} (bytes : List ℕ) (r : Result ℤ E) → get_or bytes 0 0 ≢ 43 → ParsesSigned w128 10 bytes r → Reads bytes r
reads [] r ne h = empty r (parse_signed_plain own w128 [] r h ne (omega arith))
reads (b ∷ bs) r ne h =
    elim (cases_eq b 45) [
      | inl e ↦ rw e (minus bs r (parse_signed_minus own w128 (b ∷ bs) r h e))
      | inr other ↦ plain b bs r other (parse_signed_plain own w128 (b ∷ bs) r h ne other)
    ]

digits_ascii : (bytes : List ℕ) → AreDigits bytes → IsAscii bytes
digits_ascii bytes d = IsAscii-from_all bytes (λ k x l. omega (arith, (d.each k x l).1))

pub ascii : (bytes : List ℕ) (z : ℤ) → IsIntText bytes z → IsAscii bytes
ascii bytes z t =
    elim t [
      | inl d ↦ digits_ascii bytes d.0
      | inr d ↦ rw d.1 (IsAscii-cons 45 d.0 (omega arith) (digits_ascii d.0 d.2))
    ]

pub no_plus : (bytes : List ℕ) (z : ℤ) → IsIntText bytes z → get_or bytes 0 0 ≡ 43 → ⊥
no_plus bytes z t e =
    elim t [
      | inl d ↦ absurd (omega (arith, (d.0.each 0 0 d.0.some).0, e))
      | inr d ↦ absurd (omega (arith, ap (λ xs. get_or xs 0 0) d.1, e))
    ]

-- no `+` stands in front where `starts_with` says so
not_plus : (bytes : List ℕ) → pointwise nat_eq (43 ∷ []) (take 1 bytes) ≡ false → get_or bytes 0 0 ≢ 43
not_plus [] e = λ h. absurd (omega (arith, h))
not_plus (b ∷ bs) e = λ h. grind (arith, nat_tests, h, e)

-- what `ok()` makes of it
pub found : {E : Type 0} (bytes : List ℕ) (r : Result ℤ E) (o : Option ℤ) → o ≡ result_ok r → Reads bytes r → IfSome o (λ z. IsIntText bytes z × FitsSigned w128 z)
found bytes (Ok z) o e h = rw e h
found bytes (Err f) o e h = rw e tt

pub none : {E : Type 0} (bytes : List ℕ) (r : Result ℤ E) (o : Option ℤ) → o ≡ result_ok r → Reads bytes r → IfNone o ((z : ℤ) → IsIntText bytes z → FitsSigned w128 z → ⊥)
none bytes (Ok z) o e h = rw e tt
none bytes (Err f) o e h = rw e h

pub text_reads : {E : Type 0} (bytes text : List ℕ) (r : Result ℤ E) → text ≡ bytes → pointwise nat_eq (43 ∷ []) (take 1 bytes) ≡ false → ParsesSigned w128 10 text r → Reads bytes r
text_reads bytes text r e p h = reads bytes r (not_plus bytes p) (rw e at h)

-- the decimal text of a number is digits for it
pub decimal_digits : (n : ℕ) → n < 10 ^ 64 → AreDigits (decimal n)
decimal_digits n h =
    let d = (decimal_is_IsNumeral_wide n h).0 in
    record { some = d.0; each = own.from (decimal n) d.1 }

pub digits_number-decimal : (n : ℕ) → n < 10 ^ 64 → digits_number (decimal n) ≡ n
digits_number-decimal n h =
    let d = decimal_is_IsNumeral_wide n h in
    own.same (decimal n) d.0.1 ∙ d.1

-- digits are read as their number, and where nothing is read the number is too large
pub digits_read : (bytes : List ℕ) (z : ℤ) → AreDigits bytes → IsIntText bytes z → z ≡ pos (digits_number bytes)
digits_read bytes z d t =
    elim t [
      | inl r ↦ r.1
      | inr r ↦ absurd (omega (arith, (d.each 0 0 d.some).0, ap (λ xs. get_or xs 0 0) r.1))
    ]

pub digits_too_large : (bytes : List ℕ) → AreDigits bytes → ((z : ℤ) → IsIntText bytes z → FitsSigned w128 z → ⊥) → 2 ^ 127 ≤ digits_number bytes
digits_too_large bytes d none =
    elim (cases_lt (digits_number bytes) (2 ^ 127)) [
      | inl small ↦ absurd (none (pos (digits_number bytes)) (inl (d, refl)) (fits_plain (digits_number bytes) small))
      | inr large ↦ large
    ]
