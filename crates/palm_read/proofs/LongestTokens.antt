-- Each token is the longest text of the table that fits where it begins.
use Rattle.std.proofs.Common.{◌≡◌, ℕ, zero, suc, ◌+◌, ◌≤◌, Bool, true, false, cond, ◌||◌, ◌&&◌, List, [], ◌∷◌, length, take, drop, get_or, All, Contains, codes, nat_eq, ◌⊎◌, inl, inr, refl, sym, ap, subst, arith}
use Rattle.std.specs.List.{prefix_len, AllByRecursion}
use Rattle.std.proofs.lemmas.Bool.Decides.{nat_tests}
use Rattle.std.proofs.lemmas.List.Folds.{length-prefix_len}
use Rattle.std.proofs.lemmas.List.Elements.{All-head, All-tail, All-cons, All-weaker, All-contains, All-from_recursion}
use Rattle.std.proofs.lemmas.Map.Views.{Contains-from_any}
use Rattle.palm_base.specs.Numbers.{AreDigits}
use Rattle.palm_read.specs.Bytes.{is_digit, is_letter, is_word_byte}
use Rattle.palm_read.specs.Token.{Lexeme, is_sign, are_sign, begins_long_sign, kind_at, more_at, lexeme_at, lexeme_of, signs, Fits, IsLongest, IsNoToken, IsFirstToken}
use Rattle.palm_read.specs.declared.tokens.Token.{Token}
use Rattle.palm_read.specs.declared.tokens.TokenKind.{TokenKind}
use Rattle.palm_read.specs.declared.tokens.TokenKind.TheVariants.{Word, Digits, Sign, Other}
use Rattle.palm_read.proofs.cited.TokenLemmas.{digit_no_letter, sign_only, long_sign_only, digit_from_range, range_from_digit, take-prefix_len, lexeme_text}

clash : (t : Bool) → t ≡ true → t ≡ false → ⊥
clash true e f = cc
clash false e f = cc

-- ---- signs: those of the table are those that the tests tell

data SignText : List ℕ → Type 0 where
  one : (b : ℕ) → is_sign b ≡ true → SignText (b ∷ [])
  two : (b c : ℕ) → are_sign b c ≡ true → SignText (b ∷ c ∷ [])

signs_are : AllByRecursion SignText signs
signs_are = (two 46 46 refl, (one 123 refl, (one 125 refl, (one 40 refl, (one 41 refl, (one 44 refl, (one 58 refl, (one 42 refl, (one 43 refl, (one 45 refl, (two 33 61 refl, (two 60 61 refl, (two 62 61 refl, (one 61 refl, (one 60 refl, (one 62 refl, tt))))))))))))))))

sign_text : (text : List ℕ) → Contains signs text → SignText text
sign_text text c = All-contains SignText signs text (All-from_recursion SignText signs signs_are) c

abbrev IsSignAlone : ℕ → Type 0
IsSignAlone b = Contains signs (b ∷ [])

signs_alone : AllByRecursion IsSignAlone (codes "{}(),:*+-=<>")
signs_alone = ((1, omega arith, refl), ((2, omega arith, refl), ((3, omega arith, refl), ((4, omega arith, refl), ((5, omega arith, refl), ((6, omega arith, refl), ((7, omega arith, refl), ((8, omega arith, refl), ((9, omega arith, refl), ((13, omega arith, refl), ((14, omega arith, refl), ((15, omega arith, refl), tt))))))))))))

same_nat : (x y : ℕ) → nat_eq x y ≡ true → x ≡ y
same_nat x y e = grind (arith, nat_tests)

one_sign : (b : ℕ) → is_sign b ≡ true → Contains signs (b ∷ [])
one_sign b e =
    All-contains IsSignAlone (codes "{}(),:*+-=<>") b (All-from_recursion IsSignAlone (codes "{}(),:*+-=<>") signs_alone) (Contains-from_any {eq = nat_eq} same_nat b (codes "{}(),:*+-=<>") e)

-- the two bytes of a sign of two
data Pair : ℕ → ℕ → Type 0 where
  dots : Pair 46 46
  differs : Pair 33 61
  at_most : Pair 60 61
  at_least : Pair 62 61

either : (p q : Bool) → p || q ≡ true → (p ≡ true) ⊎ (q ≡ true)
either true q e = inl refl
either false q e = inr e

both : (p q : Bool) → p && q ≡ true → (p ≡ true) × (q ≡ true)
both true q e = (refl, e)
both false q e = cc

pair_of : (b c x y : ℕ) → Pair x y → b ≡ x → c ≡ y → Pair b c
pair_of b c x y p e f = subst (λ z. Pair z c) (sym e) (subst (λ z. Pair x z) (sym f) p)

pair_from : (b c : ℕ) → are_sign b c ≡ true → Pair b c
pair_from b c e =
    elim (either (nat_eq b 46 && nat_eq c 46) (nat_eq c 61 && ((nat_eq b 33 || nat_eq b 60) || nat_eq b 62)) e) [
      | inl d ↦ let k = both (nat_eq b 46) (nat_eq c 46) d in pair_of b c 46 46 dots (same_nat b 46 k.0) (same_nat c 46 k.1)
      | inr d ↦
          let k = both (nat_eq c 61) ((nat_eq b 33 || nat_eq b 60) || nat_eq b 62) d in
          let c_is = same_nat c 61 k.0 in
          elim (either (nat_eq b 33 || nat_eq b 60) (nat_eq b 62) k.1) [
            | inl y ↦ elim (either (nat_eq b 33) (nat_eq b 60) y) [
              | inl x ↦ pair_of b c 33 61 differs (same_nat b 33 x) c_is
              | inr x ↦ pair_of b c 60 61 at_most (same_nat b 60 x) c_is
            ]
            | inr x ↦ pair_of b c 62 61 at_least (same_nat b 62 x) c_is
          ]
    ]

pair_sign : (b c : ℕ) → Pair b c → Contains signs (b ∷ c ∷ [])
pair_sign _ _ dots = (0, omega arith, refl)
pair_sign _ _ differs = (10, omega arith, refl)
pair_sign _ _ at_most = (11, omega arith, refl)
pair_sign _ _ at_least = (12, omega arith, refl)

-- ---- what a text that fits at the front says of the first byte

data Fitting (b : ℕ) (bs : List ℕ) (n : ℕ) : Type 0 where
  a_word : (m : ℕ) → n ≡ suc m → is_letter b ≡ true → All (λ c. is_word_byte c ≡ true) (take m bs) → Fitting b bs n
  digits : (m : ℕ) → n ≡ suc m → is_digit b ≡ true → All (λ c. is_digit c ≡ true) (take m bs) → Fitting b bs n
  short : is_sign b ≡ true → length (take n (b ∷ bs)) ≡ 1 → Fitting b bs n
  long : begins_long_sign b bs ≡ true → length (take n (b ∷ bs)) ≡ 2 → Fitting b bs n

begins_two : (b c d m : ℕ) (bs : List ℕ) → are_sign c d ≡ true → c ∷ d ∷ [] ≡ b ∷ take m bs → begins_long_sign b bs ≡ true
begins_two b c d zero bs e q = absurd (omega (arith, ap length q))
begins_two b c d (suc m) [] e q = absurd (omega (arith, ap length q))
begins_two b c d (suc m) (x ∷ xs) e q =
    subst (λ y. are_sign b y ≡ true) (ap (λ t. get_or t 1 0) q) (subst (λ y. are_sign y d ≡ true) (ap (λ t. get_or t 0 0) q) e)

fitting_sign : (b m : ℕ) (bs text : List ℕ) → SignText text → text ≡ b ∷ take m bs → Fitting b bs (suc m)
fitting_sign b m bs _ (one c e) q = short (subst (λ y. is_sign y ≡ true) (ap (λ t. get_or t 0 0) q) e) (sym (ap length q))
fitting_sign b m bs _ (two c d e) q = long (begins_two b c d m bs e q) (sym (ap length q))

no_sign : (text : List ℕ) → SignText text → text ≡ [] → ⊥
no_sign _ (one c e) q = absurd (omega (arith, ap length q))
no_sign _ (two c d e) q = absurd (omega (arith, ap length q))

fitting : (kind : TokenKind) (n b : ℕ) (bs : List ℕ) → Fits kind (take n (b ∷ bs)) → Fitting b bs n
fitting Word zero b bs f = absurd f
fitting Word (suc m) b bs f = a_word m refl f.0 f.1
fitting Digits zero b bs f = absurd (omega (arith, f.some))
fitting Digits (suc m) b bs f =
    digits m refl (digit_from_range b (f.each 0 0 (omega arith))) (λ k x l. digit_from_range _ (f.each (suc k) x (omega arith)))
fitting Sign zero b bs f = absurd (no_sign [] (sign_text [] f) refl)
fitting Sign (suc m) b bs f = fitting_sign b m bs (b ∷ take m bs) (sign_text (b ∷ take m bs) f) refl
fitting Other n b bs f = absurd f

-- ---- fronts

take_again : (k : ℕ) (xs : List ℕ) → take (length (take k xs)) xs ≡ take k xs
take_again zero xs = refl
take_again (suc k) [] = refl
take_again (suc k) (x ∷ xs) = ap (λ ts. x ∷ ts) (take_again k xs)

length_take : (n : ℕ) (xs : List ℕ) → n ≤ length xs → length (take n xs) ≡ n
length_take zero xs l = refl
length_take (suc n) [] l = absurd (omega arith)
length_take (suc n) (x ∷ xs) l = ap suc (length_take n xs (omega arith))

prefix_most : (p : ℕ → Bool) (m : ℕ) (xs : List ℕ) → m ≤ length xs → All (λ c. p c ≡ true) (take m xs) → m ≤ prefix_len p xs
prefix_most p zero xs l h = omega arith
prefix_most p (suc m) [] l h = absurd (omega arith)
prefix_most p (suc m) (x ∷ xs) l h =
    let rest = prefix_most p m xs (omega arith) (All-tail (λ c. p c ≡ true) x (take m xs) h) in
    subst (λ t. suc m ≤ cond t (1 + prefix_len p xs) 0) (sym (All-head (λ c. p c ≡ true) x (take m xs) h)) (omega (arith, rest))

-- ---- the token that begins with a byte

long_begins : (b : ℕ) (bs : List ℕ) → begins_long_sign b bs ≡ true → (is_letter b ≡ false) × (is_digit b ≡ false)
long_begins b [] e = cc
long_begins b (c ∷ cs) e = let only = long_sign_only b c e in (only.0, only.1)

long_text : (b : ℕ) (bs : List ℕ) → begins_long_sign b bs ≡ true → Contains signs (b ∷ take 1 bs) × (length (b ∷ take 1 bs) ≡ 2)
long_text b [] e = cc
long_text b (c ∷ cs) e = (pair_sign b c (pair_from b c e), refl)

digits_fit : (b : ℕ) (bs : List ℕ) → is_digit b ≡ true → AreDigits (b ∷ take (prefix_len is_digit bs) bs)
digits_fit b bs e = record {
  some = omega arith;
  each = All-cons (λ c. (48 ≤ c) × (c ≤ 57)) b _ (range_from_digit b e) (All-weaker (λ c. is_digit c ≡ true) (λ c. (48 ≤ c) × (c ≤ 57)) range_from_digit _ (take-prefix_len is_digit bs));
}

abbrev Longest : ℕ → List ℕ → Lexeme → Type 0
Longest b bs l = IsLongest (b ∷ bs) l ⊎ IsNoToken (b ∷ bs) l

module _ (b : ℕ) (bs : List ℕ) where
  word_most : (n : ℕ) → is_letter b ≡ true → n ≤ length (b ∷ bs) → Fitting b bs n → n ≤ length (b ∷ take (prefix_len is_word_byte bs) bs)
  word_most n e l (a_word m is first rest) =
      let most = prefix_most is_word_byte m bs (omega (arith, is)) rest in omega (arith, is, most, length-prefix_len is_word_byte bs)
  word_most n e l (digits m is first rest) = absurd (clash (is_letter b) e (digit_no_letter b first))
  word_most n e l (short s is) = absurd (clash (is_letter b) e (sign_only b s).0)
  word_most n e l (long s is) = absurd (clash (is_letter b) e (long_begins b bs s).0)

  digits_most : (n : ℕ) → is_letter b ≡ false → is_digit b ≡ true → n ≤ length (b ∷ bs) → Fitting b bs n → n ≤ length (b ∷ take (prefix_len is_digit bs) bs)
  digits_most n other e l (a_word m is first rest) = absurd (clash (is_letter b) first other)
  digits_most n other e l (digits m is first rest) =
      let most = prefix_most is_digit m bs (omega (arith, is)) rest in omega (arith, is, most, length-prefix_len is_digit bs)
  digits_most n other e l (short s is) = absurd (clash (is_digit b) e (sign_only b s).1)
  digits_most n other e l (long s is) = absurd (clash (is_digit b) e (long_begins b bs s).1)

  signs_most : (n most : ℕ) → is_letter b ≡ false → is_digit b ≡ false → 1 ≤ most → (begins_long_sign b bs ≡ true → 2 ≤ most) → n ≤ length (b ∷ bs) → Fitting b bs n → n ≤ most
  signs_most n most other none low high l (a_word m is first rest) = absurd (clash (is_letter b) first other)
  signs_most n most other none low high l (digits m is first rest) = absurd (clash (is_digit b) first none)
  signs_most n most other none low high l (short s is) = omega (arith, is, length_take n (b ∷ bs) l)
  signs_most n most other none low high l (long s is) = omega (arith, is, length_take n (b ∷ bs) l, high s)

  none_fits : (n : ℕ) → is_letter b ≡ false → is_digit b ≡ false → begins_long_sign b bs ≡ false → is_sign b ≡ false → Fitting b bs n → ⊥
  none_fits n other none lone alone (a_word m is first rest) = clash (is_letter b) first other
  none_fits n other none lone alone (digits m is first rest) = clash (is_digit b) first none
  none_fits n other none lone alone (short s is) = clash (is_sign b) s alone
  none_fits n other none lone alone (long s is) = clash (begins_long_sign b bs) s lone

  picked : (l d p s : Bool) → is_letter b ≡ l → is_digit b ≡ d → begins_long_sign b bs ≡ p → is_sign b ≡ s
      → Longest b bs (record { kind = cond l Word (cond d Digits (cond (p || s) Sign Other)); text = b ∷ take (cond l (prefix_len is_word_byte bs) (cond d (prefix_len is_digit bs) (cond p 1 0))) bs })
  picked true d p s el ed ep es = inl (record {
    begins = ap (λ ts. b ∷ ts) (take_again (prefix_len is_word_byte bs) bs);
    fits = (el, take-prefix_len is_word_byte bs);
    longest = λ kind n l f. word_most n el l (fitting kind n b bs f);
  })
  picked false true p s el ed ep es = inl (record {
    begins = ap (λ ts. b ∷ ts) (take_again (prefix_len is_digit bs) bs);
    fits = digits_fit b bs ed;
    longest = λ kind n l f. digits_most n el ed l (fitting kind n b bs f);
  })
  picked false false true s el ed ep es =
      let text = long_text b bs ep in inl (record {
        begins = ap (λ ts. b ∷ ts) (take_again 1 bs);
        fits = text.0;
        longest = λ kind n l f. signs_most n (length (b ∷ take 1 bs)) el ed (omega arith) (λ _. omega (arith, text.1)) l (fitting kind n b bs f);
      })
  picked false false false true el ed ep es = inl (record {
    begins = refl;
    fits = one_sign b es;
    longest = λ kind n l f. signs_most n 1 el ed (omega arith) (λ e. absurd (clash (begins_long_sign b bs) e ep)) l (fitting kind n b bs f);
  })
  picked false false false false el ed ep es = inr (record {
    kind = refl;
    first = refl;
    none = λ kind n f. none_fits n el ed ep es (fitting kind n b bs f);
  })

  longest_at : Longest b bs (lexeme_at b bs)
  unfolding lexeme_at kind_at more_at
  longest_at = picked (is_letter b) (is_digit b) (begins_long_sign b bs) (is_sign b) refl refl refl refl

lexeme_is : (bytes : List ℕ) (from : ℕ) (token : Token) → (h : IsFirstToken bytes from token) → lexeme_of bytes token ≡ lexeme_at h.first h.rest
unfolding lexeme_at
lexeme_is bytes from token h = rw (lexeme_text bytes from token h, h.kind) refl

pub longest_token : (bytes : List ℕ) (from : ℕ) (token : Token) → IsFirstToken bytes from token → IsLongest (drop token.start bytes) (lexeme_of bytes token) ⊎ IsNoToken (drop token.start bytes) (lexeme_of bytes token)
longest_token bytes from token h =
    let P : List ℕ → Lexeme → Type 0 = λ ys l. IsLongest ys l ⊎ IsNoToken ys l in
    subst (λ l. P (drop token.start bytes) l) (sym (lexeme_is bytes from token h)) (subst (λ ys. P ys (lexeme_at h.first h.rest)) (sym h.begins) (longest_at h.first h.rest))
