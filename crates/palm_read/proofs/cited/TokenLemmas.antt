-- The tokens of a text from its front on: what blanks, a word, digits or a sign there give.
use Rattle.std.proofs.Common.{◌≡◌, ℕ, zero, suc, ◌+◌, ◌-◌, ◌<◌, ◌≤◌, ◌^◌, Bool, true, false, cond, List, [], ◌∷◌, ◌++◌, length, take, drop, refl, sym, ap, ◌∙◌, arith, length-drop, All, ◌||◌, one-add, nat_eq}
use Rattle.std.specs.Bool.{⊤}
use Rattle.std.specs.Fmt.{decimal}
use Rattle.std.specs.List.{prefix_len}
use Rattle.std.proofs.lemmas.Bool.Decides.{nat_tests}
use Rattle.std.proofs.lemmas.List.{drop-drop, take_at, drop_at, take_rest}
use Rattle.std.proofs.lemmas.List.Elements.{All-head, All-tail, All-nil, All-cons, All-weaker}
use Rattle.palm_base.specs.Numbers.{AreDigits}
use Rattle.palm_base.proofs.cited.Numerals.{decimal_digits}
use Rattle.palm_read.specs.Bytes.{is_blank, is_digit, is_letter, is_word_byte, after_blanks}
use Rattle.palm_read.specs.Token.{is_sign, are_sign, begins_long_sign, kind_at, more_at, lexeme_at, front_tokens, tokens_of, lexeme_of, IsFirstToken, IsPart}
use Rattle.palm_read.specs.declared.tokens.Token.{Token}
use Rattle.palm_read.specs.declared.tokens.TokenKind.TheVariants.{Word, Digits, Sign, Other}

-- ---- blanks

-- what stands behind the blanks is what is left where as many bytes are dropped as there are blanks in front
pub drop-blanks : (xs : List ℕ) → drop (prefix_len is_blank xs) xs ≡ after_blanks xs
drop-blanks [] = refl
drop-blanks (b ∷ bs) = go (is_blank b) (drop-blanks bs)
  where
    go : (t : Bool) → drop (prefix_len is_blank bs) bs ≡ after_blanks bs → drop (cond t (1 + prefix_len is_blank bs) 0) (b ∷ bs) ≡ cond t (after_blanks bs) (b ∷ bs)
    go true h = rw one-add h
    go false h = refl

length-after_blanks : (xs : List ℕ) → length (after_blanks xs) ≤ length xs
length-after_blanks xs = omega (arith, ap length (drop-blanks xs), length-drop (prefix_len is_blank xs) xs)

-- ---- any room that is enough gives the same tokens

front_tokens-room : (m n : ℕ) (xs : List ℕ) → length xs ≤ m → length xs ≤ n → front_tokens m xs ≡ front_tokens n xs
front_tokens-room m n [] h k = refl
front_tokens-room zero n (b ∷ bs) h k = absurd (omega arith)
front_tokens-room (suc m) zero (b ∷ bs) h k = absurd (omega arith)
front_tokens-room (suc m) (suc n) (b ∷ bs) h k =
    let rest = after_blanks (drop (more_at b bs) bs) in
    let short : length rest ≤ length bs = omega (arith, length-after_blanks (drop (more_at b bs) bs), length-drop (more_at b bs) bs) in
    ap (λ ts. lexeme_at b bs ∷ ts) (front_tokens-room m n rest (omega arith) (omega arith))

-- ---- the first token, and the tokens behind it

pub tokens_of-none : (xs : List ℕ) → after_blanks xs ≡ [] → tokens_of xs ≡ []
unfolding tokens_of
tokens_of-none xs e = ap (front_tokens (length xs)) e

pub tokens_of-step : (xs : List ℕ) (b : ℕ) (bs : List ℕ) → after_blanks xs ≡ b ∷ bs → tokens_of xs ≡ lexeme_at b bs ∷ tokens_of (drop (more_at b bs) bs)
unfolding tokens_of
tokens_of-step xs b bs e =
    let rest = drop (more_at b bs) bs in
    let some : length (b ∷ bs) ≤ length xs = omega (arith, length-after_blanks xs, ap length e) in
    let short : length (after_blanks rest) ≤ length bs = omega (arith, length-after_blanks rest, length-drop (more_at b bs) bs) in
    ap (front_tokens (length xs)) e
    ∙ front_tokens-room (length xs) (suc (length xs)) (b ∷ bs) some (omega arith)
    ∙ ap (λ ts. lexeme_at b bs ∷ ts) (front_tokens-room (length xs) (length rest) (after_blanks rest) (omega arith) (length-after_blanks rest))

-- blanks in front do not matter
pub tokens_of-same : (xs ys : List ℕ) → after_blanks xs ≡ after_blanks ys → tokens_of xs ≡ tokens_of ys
tokens_of-same xs ys e = go (after_blanks ys) refl
  where
    go : (zs : List ℕ) → after_blanks ys ≡ zs → tokens_of xs ≡ tokens_of ys
    go [] k = tokens_of-none xs (e ∙ k) ∙ sym (tokens_of-none ys k)
    go (b ∷ bs) k = tokens_of-step xs b bs (e ∙ k) ∙ sym (tokens_of-step ys b bs k)

pub tokens_of-blank : (b : ℕ) (xs : List ℕ) → is_blank b ≡ true → tokens_of (b ∷ xs) ≡ tokens_of xs
tokens_of-blank b xs e = tokens_of-same (b ∷ xs) xs (ap (λ t. cond t (after_blanks xs) (b ∷ xs)) e)

pub tokens_of-space : (xs : List ℕ) → tokens_of (32 ∷ xs) ≡ tokens_of xs
tokens_of-space xs = tokens_of-blank 32 xs refl

pub tokens_of-nil : tokens_of [] ≡ []
tokens_of-nil = tokens_of-none [] refl

-- a byte that is no blank begins a token
pub tokens_of-front : (b : ℕ) (bs : List ℕ) → is_blank b ≡ false → tokens_of (b ∷ bs) ≡ lexeme_at b bs ∷ tokens_of (drop (more_at b bs) bs)
tokens_of-front b bs e = tokens_of-step (b ∷ bs) b bs (ap (λ t. cond t (after_blanks bs) (b ∷ bs)) e)

-- ---- a word, digits, a sign

-- the text ends, or goes on with a byte that does not pass
abbrev pub Stops : (ℕ → Bool) → List ℕ → Type 0
Stops p [] = ⊤
Stops p (b ∷ bs) = p b ≡ false

pub prefix_len-stops : (p : ℕ → Bool) (xs rest : List ℕ) → All (λ b. p b ≡ true) xs → Stops p rest → prefix_len p (xs ++ rest) ≡ length xs
prefix_len-stops p [] [] h s = refl
prefix_len-stops p [] (b ∷ bs) h s = ap (λ t. cond t (1 + prefix_len p bs) 0) s
prefix_len-stops p (x ∷ xs) rest h s =
    ap (λ t. cond t (1 + prefix_len p (xs ++ rest)) 0) (All-head (λ b. p b ≡ true) x xs h)
    ∙ omega (arith, prefix_len-stops p xs rest (All-tail (λ b. p b ≡ true) x xs h) s)

-- a token of the kind that takes so many bytes
lexeme_at-is : (b : ℕ) (xs rest : List ℕ) (k : _) → kind_at b (xs ++ rest) ≡ k → more_at b (xs ++ rest) ≡ length xs → lexeme_at b (xs ++ rest) ≡ record { kind = k; text = b ∷ xs }
unfolding lexeme_at
lexeme_at-is b xs rest k e m =
    let text : take (more_at b (xs ++ rest)) (xs ++ rest) ≡ xs = ap (λ n. take n (xs ++ rest)) m ∙ take_at xs rest (length xs) refl in
    rw (e, text) refl

front-is : (b : ℕ) (xs rest : List ℕ) (k : _) → is_blank b ≡ false → kind_at b (xs ++ rest) ≡ k → more_at b (xs ++ rest) ≡ length xs → tokens_of (b ∷ (xs ++ rest)) ≡ record { kind = k; text = b ∷ xs } ∷ tokens_of rest
front-is b xs rest k begins e m =
    let left : drop (more_at b (xs ++ rest)) (xs ++ rest) ≡ rest = ap (λ n. drop n (xs ++ rest)) m ∙ drop_at xs rest (length xs) refl in
    tokens_of-front b (xs ++ rest) begins ∙ rw (lexeme_at-is b xs rest k e m, left) refl

letter_no_blank : (b : ℕ) → is_letter b ≡ true → is_blank b ≡ false
letter_no_blank b e = grind (arith, nat_tests)

digit_no_blank : (b : ℕ) → is_digit b ≡ true → is_blank b ≡ false
digit_no_blank b e = grind (arith, nat_tests)

pub digit_no_letter : (b : ℕ) → is_digit b ≡ true → is_letter b ≡ false
digit_no_letter b e = grind (arith, nat_tests)

-- a letter or `_`, bytes that go on a word, and then none that does
pub tokens_of-word : (b : ℕ) (xs rest : List ℕ) → is_letter b ≡ true → All (λ c. is_word_byte c ≡ true) xs → Stops is_word_byte rest → tokens_of (b ∷ (xs ++ rest)) ≡ record { kind = Word; text = b ∷ xs } ∷ tokens_of rest
unfolding kind_at more_at
tokens_of-word b xs rest first more stops =
    front-is b xs rest Word (letter_no_blank b first) (rw first refl) (rw first (prefix_len-stops is_word_byte xs rest more stops))

-- digits, and then no digit
pub tokens_of-digits : (b : ℕ) (xs rest : List ℕ) → is_digit b ≡ true → All (λ c. is_digit c ≡ true) xs → Stops is_digit rest → tokens_of (b ∷ (xs ++ rest)) ≡ record { kind = Digits; text = b ∷ xs } ∷ tokens_of rest
unfolding kind_at more_at
tokens_of-digits b xs rest first more stops =
    front-is b xs rest Digits (digit_no_blank b first) (rw (digit_no_letter b first, first) refl) (rw (digit_no_letter b first, first) (prefix_len-stops is_digit xs rest more stops))

pub sign_only : (b : ℕ) → is_sign b ≡ true → (is_letter b ≡ false) × (is_digit b ≡ false) × (is_blank b ≡ false)
sign_only b e = (grind (arith, nat_tests), grind (arith, nat_tests), grind (arith, nat_tests))

pub long_sign_only : (b c : ℕ) → are_sign b c ≡ true → (is_letter b ≡ false) × (is_digit b ≡ false) × (is_blank b ≡ false)
long_sign_only b c e = (grind (arith, nat_tests), grind (arith, nat_tests), grind (arith, nat_tests))

-- a sign of one byte that begins no sign of two here
pub tokens_of-sign : (b : ℕ) (rest : List ℕ) → is_sign b ≡ true → begins_long_sign b rest ≡ false → tokens_of (b ∷ rest) ≡ record { kind = Sign; text = b ∷ [] } ∷ tokens_of rest
unfolding kind_at more_at
tokens_of-sign b rest one short =
    let only = sign_only b one in
    front-is b [] rest Sign only.2 (rw (only.0, only.1, short, one) refl) (rw (only.0, only.1, short) refl)

-- a sign of two bytes
pub tokens_of-long_sign : (b c : ℕ) (rest : List ℕ) → are_sign b c ≡ true → tokens_of (b ∷ c ∷ rest) ≡ record { kind = Sign; text = b ∷ c ∷ [] } ∷ tokens_of rest
unfolding kind_at more_at
tokens_of-long_sign b c rest two =
    let only = long_sign_only b c two in
    front-is b (c ∷ []) rest Sign only.2 (rw (only.0, only.1, two) refl) (rw (only.0, only.1, two) refl)

-- a byte with which signs of two begin
abbrev pub begins_pairs : ℕ → Bool
begins_pairs b = nat_eq b 46 || nat_eq b 33 || nat_eq b 60 || nat_eq b 62

begins_no_pair : (b : ℕ) (rest : List ℕ) → begins_pairs b ≡ false → begins_long_sign b rest ≡ false
begins_no_pair b [] e = refl
begins_no_pair b (c ∷ cs) e = grind (arith, nat_tests)

-- a sign of one byte with which no sign of two begins: { } ( ) , : * + - =
pub tokens_of-lone_sign : (b : ℕ) (rest : List ℕ) → is_sign b ≡ true → begins_pairs b ≡ false → tokens_of (b ∷ rest) ≡ record { kind = Sign; text = b ∷ [] } ∷ tokens_of rest
tokens_of-lone_sign b rest one lone = tokens_of-sign b rest one (begins_no_pair b rest lone)

-- ---- the decimal text of a number

pub digit_from_range : (b : ℕ) → (48 ≤ b) × (b ≤ 57) → is_digit b ≡ true
digit_from_range b h = grind (arith, nat_tests)

pub tokens_of-number : (ds rest : List ℕ) → AreDigits ds → Stops is_digit rest → tokens_of (ds ++ rest) ≡ record { kind = Digits; text = ds } ∷ tokens_of rest
tokens_of-number [] rest d stops = absurd (omega (arith, d.some))
tokens_of-number (b ∷ bs) rest d stops =
    tokens_of-digits b bs rest (digit_from_range b (d.each 0 0 (omega arith))) (λ k x l. digit_from_range _ (d.each (suc k) x (omega arith))) stops

pub tokens_of-decimal : (n : ℕ) (rest : List ℕ) → n < 10 ^ 64 → Stops is_digit rest → tokens_of (decimal n ++ rest) ≡ record { kind = Digits; text = decimal n } ∷ tokens_of rest
tokens_of-decimal n rest small stops = tokens_of-number (decimal n) rest (decimal_digits n small) stops

-- ---- where a token was found

pub lexeme_text : (bytes : List ℕ) (from : ℕ) (token : Token) → (h : IsFirstToken bytes from token) → take (token.end - token.start) (drop token.start bytes) ≡ h.first ∷ take (more_at h.first h.rest) h.rest
lexeme_text bytes from token h =
    let long : token.end - token.start ≡ 1 + more_at h.first h.rest = omega (arith, h.ends) in
    rw (long, h.begins, one-add) refl

pub lexeme_at-first : (bytes : List ℕ) (from : ℕ) (token : Token) → IsFirstToken bytes from token → tokens_of (drop from bytes) ≡ lexeme_of bytes token ∷ tokens_of (drop token.end bytes)
unfolding lexeme_at
lexeme_at-first bytes from token h =
    let more = more_at h.first h.rest in
    let text = lexeme_text bytes from token h in
    let left : drop token.end bytes ≡ drop more h.rest = rw (h.ends, ← drop-drop (1 + more) token.start bytes, h.begins, one-add) refl in
    tokens_of-step (drop from bytes) h.first h.rest (h.skips ∙ h.begins) ∙ rw (text, left, h.kind) refl

-- what is behind as many blanks as there are
behind_blanks : (bytes : List ℕ) (from blanks : ℕ) → blanks ≡ prefix_len is_blank (take (length bytes - from) (drop from bytes)) → after_blanks (drop from bytes) ≡ take (length bytes - (from + blanks)) (drop (from + blanks) bytes)
behind_blanks bytes from blanks e =
    let count : blanks ≡ prefix_len is_blank (drop from bytes) = e ∙ ap (prefix_len is_blank) (take_rest bytes from) in
    sym (drop-blanks (drop from bytes)) ∙ ap (λ n. drop n (drop from bytes)) (sym count) ∙ drop-drop blanks from bytes ∙ sym (take_rest bytes (from + blanks))

pub none_behind : (bytes : List ℕ) (from blanks : ℕ) → blanks ≡ prefix_len is_blank (take (length bytes - from) (drop from bytes)) → take (length bytes - (from + blanks)) (drop (from + blanks) bytes) ≡ [] → after_blanks (drop from bytes) ≡ []
none_behind bytes from blanks e none = behind_blanks bytes from blanks e ∙ none

pub some_behind : (bytes : List ℕ) (from blanks b : ℕ) (bs : List ℕ) → blanks ≡ prefix_len is_blank (take (length bytes - from) (drop from bytes)) → take (length bytes - (from + blanks)) (drop (from + blanks) bytes) ≡ b ∷ bs → after_blanks (drop from bytes) ≡ b ∷ bs
some_behind bytes from blanks b bs e some = behind_blanks bytes from blanks e ∙ some

pub first_token : (bytes : List ℕ) (from blanks b : ℕ) (bs : List ℕ) (k : _) (more : ℕ) → blanks ≡ prefix_len is_blank (take (length bytes - from) (drop from bytes)) → take (length bytes - (from + blanks)) (drop (from + blanks) bytes) ≡ b ∷ bs → k ≡ kind_at b bs → more ≡ more_at b bs → more ≤ length bs → IsFirstToken bytes from (record { kind = k; start = from + blanks; end = from + blanks + (1 + more) })
first_token bytes from blanks b bs k more e some kind long within =
    let begins = sym (take_rest bytes (from + blanks)) ∙ some in
    record {
      first = b;
      rest = bs;
      behind = omega arith;
      skips = behind_blanks bytes from blanks e ∙ take_rest bytes (from + blanks);
      begins = begins;
      kind = kind;
      ends = ap (λ n. from + blanks + (1 + n)) long;
      within = omega (arith, ap length begins, length-drop (from + blanks) bytes);
    }

-- ---- digits are digits

digits_pick : (letter digit sign : Bool) → cond letter Word (cond digit Digits (cond sign Sign Other)) ≡ Digits → (digit ≡ true) × (letter ≡ false)
digits_pick true digit sign e = cc
digits_pick false true sign e = (refl, refl)
digits_pick false false true e = cc
digits_pick false false false e = cc

digits_kind : (b : ℕ) (bs : List ℕ) → kind_at b bs ≡ Digits → (is_digit b ≡ true) × (is_letter b ≡ false)
unfolding kind_at
digits_kind b bs e = digits_pick (is_letter b) (is_digit b) (begins_long_sign b bs || is_sign b) e

pub range_from_digit : (b : ℕ) → is_digit b ≡ true → (48 ≤ b) × (b ≤ 57)
range_from_digit b e = (grind (arith, nat_tests), grind (arith, nat_tests))

pub take-prefix_len : (p : ℕ → Bool) (bs : List ℕ) → All (λ b. p b ≡ true) (take (prefix_len p bs) bs)
take-prefix_len p [] = All-nil (λ b. p b ≡ true)
take-prefix_len p (b ∷ bs) = go (p b) refl (take-prefix_len p bs)
  where
    go : (t : Bool) → p b ≡ t → All (λ c. p c ≡ true) (take (prefix_len p bs) bs) → All (λ c. p c ≡ true) (take (cond t (1 + prefix_len p bs) 0) (b ∷ bs))
    go true e h = rw one-add (All-cons (λ c. p c ≡ true) b _ e h)
    go false e h = All-nil (λ c. p c ≡ true)

digits_text : (b : ℕ) (bs : List ℕ) → kind_at b bs ≡ Digits → AreDigits (b ∷ take (more_at b bs) bs)
unfolding more_at
digits_text b bs e =
    let k = digits_kind b bs e in
    rw (k.1, k.0) (record {
      some = omega arith;
      each = All-cons (λ c. (48 ≤ c) × (c ≤ 57)) b _ (range_from_digit b k.0) (All-weaker (λ c. is_digit c ≡ true) (λ c. (48 ≤ c) × (c ≤ 57)) range_from_digit _ (take-prefix_len is_digit bs));
    })

pub part_from_first : (bytes : List ℕ) (from : ℕ) (token : Token) → IsFirstToken bytes from token → IsPart bytes token
part_from_first bytes from token h = record {
  ordered = omega (arith, h.ends);
  within = h.within;
  digits = λ e. rw (lexeme_text bytes from token h) (digits_text h.first h.rest (sym h.kind ∙ e));
}
