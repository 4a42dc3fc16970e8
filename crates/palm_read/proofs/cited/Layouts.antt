-- Texts that are laid out word by word: what pieces their tokens spell, that their bytes are plain, and how long they are.
use Rattle.std.proofs.Common.{◌≡◌, ℕ, ℤ, pos, negsuc, suc, ◌+◌, ◌^◌, ◌<◌, ◌≤◌, Bool, true, false, List, [], ◌∷◌, ◌++◌, length, codes, All, refl, sym, ap, ◌∙◌, subst, arith, length-append, ◌&&◌, inl, inr}
use Rattle.std.specs.Bool.{⊤}
use Rattle.std.specs.Fmt.{decimal, signed_decimal}
use Rattle.std.specs.List.{list_all}
use Rattle.std.proofs.lemmas.Bool.{false≢true}
use Rattle.std.proofs.lemmas.Bool.Decides.{nat_tests}
use Rattle.std.proofs.lemmas.Fmt.{length-decimal-le_wide}
use Rattle.std.proofs.lemmas.List.{append_assoc, append-nil}
use Rattle.std.proofs.lemmas.List.Concat.{flat_map-append}
use Rattle.std.proofs.lemmas.List.Elements.{All-nil, All-cons, All-append, All-tail, All-weaker}
use Rattle.std.proofs.lemmas.List.Sums.{AllPass-from_list_all}
use Rattle.palm_base.proofs.cited.Numerals.{decimal_digits, digits_number-decimal}
use Rattle.palm_model.specs.declared.constraint.Op.{Op}
use Rattle.palm_model.specs.declared.constraint.Op.TheVariants.{Eq, Ne, Lt, Le, Gt, Ge}
use Rattle.palm_read.specs.Name.{IsNameText}
use Rattle.palm_read.specs.Bytes.{is_digit, is_letter, is_word_byte, is_plain}
use Rattle.palm_read.specs.Token.{is_sign, are_sign, begins_long_sign, tokens_of}
use Rattle.palm_read.specs.declared.tokens.TokenKind.TheVariants.{Digits}
use Rattle.palm_read.specs.Piece.{Piece, Keyword, Named, Mark, Integer, Natural, Numeral, word, sign, numeral, Spells, op_text}
use Rattle.palm_read.specs.Words.{spaced, after_spaces}
use Rattle.palm_read.proofs.cited.TokenLemmas.{Stops, begins_pairs, tokens_of-space, tokens_of-nil, tokens_of-word, tokens_of-sign, tokens_of-lone_sign, tokens_of-long_sign, tokens_of-decimal}
use Rattle.palm_read.proofs.cited.Begins.{Begins, over, next, begins_then, spells_from_begins}

abbrev pub IsPlainByte : ℕ → Type 0
IsPlainByte b = is_plain b ≡ true

-- ---- what may stand behind a text

abbrev pub Whatever : List ℕ → Type 0
Whatever rest = ⊤

abbrev pub NoDigit : List ℕ → Type 0
NoDigit rest = Stops is_digit rest

abbrev pub NoWord : List ℕ → Type 0
NoWord rest = Stops is_word_byte rest

-- nothing, or a space
abbrev pub Apart : List ℕ → Type 0
Apart [] = ⊤
Apart (b ∷ bs) = b ≡ 32

pub apart_no_digit : (rest : List ℕ) → Apart rest → NoDigit rest
apart_no_digit [] a = tt
apart_no_digit (b ∷ bs) a = ap is_digit a

pub apart_no_word : (rest : List ℕ) → Apart rest → NoWord rest
apart_no_word [] a = tt
apart_no_word (b ∷ bs) a = ap is_word_byte a

-- ---- texts, with such a text behind them

-- the text is of plain bytes, has at most n of them, and its tokens spell the pieces
pub record Lays (Q : List ℕ → Type 0) (n : ℕ) (text : List ℕ) (ps : List Piece) : Type 0 where
  pub begins : (rest : List ℕ) → Q rest → Begins (tokens_of (text ++ rest)) ps (tokens_of rest)
  pub plain : All IsPlainByte text
  pub short : length text ≤ n

pub lays_nothing : {Q : List ℕ → Type 0} → Lays Q 0 [] []
lays_nothing = record { begins = λ rest q. over; plain = All-nil IsPlainByte; short = omega arith }

-- one text behind another
pub lays_join : {Q R : List ℕ → Type 0} {m n : ℕ} {v w : List ℕ} {ps qs : List Piece} → Lays Q m v ps → Lays R n w qs → ((rest : List ℕ) → R rest → Q (w ++ rest)) → Lays R (m + n) (v ++ w) (ps ++ qs)
lays_join {v = v} {w = w} {ps = ps} {qs = qs} l k f = record {
  begins = λ rest r. subst (λ t. Begins (tokens_of t) (ps ++ qs) (tokens_of rest)) (sym (append_assoc v w rest)) (begins_then (l.begins (w ++ rest) (f rest r)) (k.begins rest r));
  plain = All-append IsPlainByte v w l.plain k.plain;
  short = omega (arith, l.short, k.short, length-append v w);
}

pub lays_weaker : {Q R : List ℕ → Type 0} {m : ℕ} (n : ℕ) {text : List ℕ} {ps : List Piece} → Lays Q m text ps → m ≤ n → ((rest : List ℕ) → R rest → Q rest) → Lays R n text ps
lays_weaker n l le f = record { begins = λ rest r. l.begins rest (f rest r); plain = l.plain; short = omega (arith, l.short) }

-- ---- words

letter_plain : (b : ℕ) → is_letter b ≡ true → is_plain b ≡ true
letter_plain b e = grind (arith, nat_tests)

word_byte_plain : (b : ℕ) → is_word_byte b ≡ true → is_plain b ≡ true
word_byte_plain b e = grind (arith, nat_tests)

digit_plain : (b : ℕ) → (48 ≤ b) × (b ≤ 57) → is_plain b ≡ true
digit_plain b e = grind (arith, nat_tests)

sign_plain : (b : ℕ) → is_sign b ≡ true → is_plain b ≡ true
sign_plain b e = grind (arith, nat_tests)

-- a name is a word of at most 32 bytes
pub lays_name : (name : List ℕ) → IsNameText name → Lays NoWord 32 name (Named name ∷ [])
lays_name [] t = absurd t
lays_name (b ∷ bs) t = record {
  begins = λ rest stops. next (word (b ∷ bs) ∷ []) (tokens_of-word b bs rest t.0 t.1 stops) (refl, t.2) over;
  plain = All-cons IsPlainByte b bs (letter_plain b t.0) (All-weaker (λ c. is_word_byte c ≡ true) IsPlainByte word_byte_plain bs t.1);
  short = t.2.short;
}

-- the text is one word, as a test
abbrev pub is_word : List ℕ → Bool
is_word [] = false
is_word (b ∷ bs) = is_letter b && list_all is_word_byte bs

both_hold : (s t : Bool) → (s && t) ≡ true → (s ≡ true) × (t ≡ true)
both_hold true t e = (refl, e)
both_hold false t e = absurd (false≢true e)

pub lays_keyword : (text : List ℕ) → is_word text ≡ true → Lays NoWord (length text) text (Keyword text ∷ [])
lays_keyword [] e = absurd (false≢true e)
lays_keyword (b ∷ bs) e =
    let h = both_hold (is_letter b) (list_all is_word_byte bs) e in
    let more : All (λ c. is_word_byte c ≡ true) bs = AllPass-from_list_all is_word_byte bs h.1 in
    record {
      begins = λ rest stops. next (word (b ∷ bs) ∷ []) (tokens_of-word b bs rest h.0 more stops) refl over;
      plain = All-cons IsPlainByte b bs (letter_plain b h.0) (All-weaker (λ c. is_word_byte c ≡ true) IsPlainByte word_byte_plain bs more);
      short = omega arith;
    }

-- ---- signs

one_plain : (b : ℕ) → is_plain b ≡ true → All IsPlainByte (b ∷ [])
one_plain b e = All-cons IsPlainByte b [] e (All-nil IsPlainByte)

pub lays_mark : (b : ℕ) → is_sign b ≡ true → begins_pairs b ≡ false → Lays Whatever 1 (b ∷ []) (Mark (b ∷ []) ∷ [])
lays_mark b is lone = record {
  begins = λ rest q. next (sign (b ∷ []) ∷ []) (tokens_of-lone_sign b rest is lone) refl over;
  plain = one_plain b (sign_plain b is);
  short = omega arith;
}

pub lays_pair : (b c : ℕ) → are_sign b c ≡ true → is_plain b ≡ true → is_plain c ≡ true → Lays Whatever 2 (b ∷ c ∷ []) (Mark (b ∷ c ∷ []) ∷ [])
lays_pair b c are p q = record {
  begins = λ rest r. next (sign (b ∷ c ∷ []) ∷ []) (tokens_of-long_sign b c rest are) refl over;
  plain = All-cons IsPlainByte b (c ∷ []) p (one_plain c q);
  short = omega arith;
}

no_pair_apart : (b : ℕ) (rest : List ℕ) → are_sign b 32 ≡ false → Apart rest → begins_long_sign b rest ≡ false
no_pair_apart b [] e a = refl
no_pair_apart b (c ∷ cs) e a = ap (are_sign b) a ∙ e

lays_sign_apart : (b : ℕ) → is_sign b ≡ true → are_sign b 32 ≡ false → Lays Apart 2 (b ∷ []) (Mark (b ∷ []) ∷ [])
lays_sign_apart b is alone = record {
  begins = λ rest a. next (sign (b ∷ []) ∷ []) (tokens_of-sign b rest is (no_pair_apart b rest alone a)) refl over;
  plain = one_plain b (sign_plain b is);
  short = omega arith;
}

lays_pair_apart : (b c : ℕ) → are_sign b c ≡ true → is_plain b ≡ true → is_plain c ≡ true → Lays Apart 2 (b ∷ c ∷ []) (Mark (b ∷ c ∷ []) ∷ [])
lays_pair_apart b c are p q = lays_weaker 2 (lays_pair b c are p q) (omega arith) (λ rest a. tt)

pub lays_op : (op : Op) → Lays Apart 2 (op_text op) (Mark (op_text op) ∷ [])
lays_op Eq = lays_sign_apart 61 refl refl
lays_op Ne = lays_pair_apart 33 61 refl refl refl
lays_op Lt = lays_sign_apart 60 refl refl
lays_op Le = lays_pair_apart 60 61 refl refl refl
lays_op Gt = lays_sign_apart 62 refl refl
lays_op Ge = lays_pair_apart 62 61 refl refl refl

-- ---- numbers

decimal_plain : (n : ℕ) → n < 10 ^ 64 → All IsPlainByte (decimal n)
decimal_plain n small = All-weaker (λ b. (48 ≤ b) × (b ≤ 57)) IsPlainByte digit_plain (decimal n) (decimal_digits n small).each

pub lays_natural : (k n : ℕ) → 0 < k → n < 10 ^ k → n < 10 ^ 64 → Lays NoDigit k (decimal n) (Natural n ∷ [])
lays_natural k n some few small = record {
  begins = λ rest stops. next (record { kind = Digits; text = decimal n } ∷ []) (tokens_of-decimal n rest small stops) (decimal n, refl, sym (digits_number-decimal n small)) over;
  plain = decimal_plain n small;
  short = length-decimal-le_wide k n some few small;
}

-- the digits of a number, just so
pub lays_numeral : (k n : ℕ) → 0 < k → n < 10 ^ k → n < 10 ^ 64 → Lays NoDigit k (decimal n) (Numeral (decimal n) ∷ [])
lays_numeral k n some few small = record {
  begins = λ rest stops. next (numeral (decimal n) ∷ []) (tokens_of-decimal n rest small stops) refl over;
  plain = decimal_plain n small;
  short = length-decimal-le_wide k n some few small;
}

-- a whole number that is not negative
pub lays_count : (k n : ℕ) → 0 < k → n < 10 ^ k → n < 10 ^ 64 → Lays NoDigit k (decimal n) (Integer (pos n) ∷ [])
lays_count k n some few small = record {
  begins = λ rest stops. next (record { kind = Digits; text = decimal n } ∷ []) (tokens_of-decimal n rest small stops) (inl (n, (decimal n, refl, sym (digits_number-decimal n small)), refl)) over;
  plain = decimal_plain n small;
  short = length-decimal-le_wide k n some few small;
}

lays_negative : (k n : ℕ) → 0 < k → suc n < 10 ^ k → suc n < 10 ^ 64 → Lays NoDigit (1 + k) (45 ∷ decimal (suc n)) (Integer (negsuc n) ∷ [])
lays_negative k n some few small = record {
  begins = λ rest stops. next (sign (codes "-") ∷ record { kind = Digits; text = decimal (suc n) } ∷ []) (tokens_of-lone_sign 45 (decimal (suc n) ++ rest) refl refl ∙ ap (λ ts. sign (codes "-") ∷ ts) (tokens_of-decimal (suc n) rest small stops)) (inr (suc n, record { kind = Digits; text = decimal (suc n) } ∷ [], refl, (decimal (suc n), refl, sym (digits_number-decimal (suc n) small)), refl)) over;
  plain = All-cons IsPlainByte 45 (decimal (suc n)) refl (decimal_plain (suc n) small);
  short = omega (arith, length-decimal-le_wide k (suc n) some few small);
}

-- the number without its sign is below a bound
abbrev pub IsBelow : ℕ → ℤ → Type 0
IsBelow bound (pos n) = n < bound
IsBelow bound (negsuc n) = suc n < bound

pub lays_integer : (k : ℕ) (z : ℤ) → 0 < k → IsBelow (10 ^ k) z → IsBelow (10 ^ 64) z → Lays NoDigit (1 + k) (signed_decimal z) (Integer z ∷ [])
lays_integer k (pos n) some few small = lays_weaker (1 + k) (lays_count k n some few small) (omega arith) (λ rest q. q)
lays_integer k (negsuc n) some few small = lays_negative k n some few small

-- ---- words with a space before each

pub record Words (n : ℕ) (words : List (List ℕ)) (ps : List Piece) : Type 0 where
  pub lays : Lays Apart n (after_spaces words) ps

pub words_none : Words 0 [] []
words_none = record { lays = lays_nothing }

apart_after : (words : List (List ℕ)) (rest : List ℕ) → Apart rest → Apart (after_spaces words ++ rest)
apart_after [] rest a = a
apart_after (w ∷ ws) rest a = refl

lays_space : {n : ℕ} {text : List ℕ} {ps : List Piece} → Lays Apart n text ps → Lays Apart (1 + n) (32 ∷ text) ps
lays_space {text = text} {ps = ps} l = record {
  begins = λ rest a. subst (λ ts. Begins ts ps (tokens_of rest)) (sym (tokens_of-space (text ++ rest))) (l.begins rest a);
  plain = All-cons IsPlainByte 32 text refl l.plain;
  short = omega (arith, l.short);
}

pub words_next : {m n : ℕ} {w : List ℕ} {words : List (List ℕ)} {ps qs : List Piece} → Lays Apart m w ps → Words n words qs → Words (1 + m + n) (w ∷ words) (ps ++ qs)
words_next {words = words} l k = record { lays = lays_join (lays_space l) k.lays (apart_after words) }

pub words_append : {m n : ℕ} {vs ws : List (List ℕ)} {ps qs : List Piece} → Words m vs ps → Words n ws qs → Words (m + n) (vs ++ ws) (ps ++ qs)
words_append {m = m} {n = n} {vs = vs} {ws = ws} {ps = ps} {qs = qs} l k =
    record { lays = subst (λ t. Lays Apart (m + n) t (ps ++ qs)) (sym (flat_map-append (λ w. codes " " ++ w) vs ws)) (lays_join l.lays k.lays (apart_after ws)) }

pub words_weaker : {m : ℕ} (n : ℕ) {words : List (List ℕ)} {ps : List Piece} → Words m words ps → m ≤ n → Words n words ps
words_weaker n l le = record { lays = lays_weaker n l.lays le (λ rest a. a) }

-- a word of the language, a name and a whole number as words
pub words_keyword : {n : ℕ} (text : List ℕ) → is_word text ≡ true → {words : List (List ℕ)} {qs : List Piece} → Words n words qs → Words (1 + length text + n) (text ∷ words) (Keyword text ∷ qs)
words_keyword text is k = words_next (lays_weaker (length text) (lays_keyword text is) (omega arith) apart_no_word) k

pub words_name : {n : ℕ} (name : List ℕ) → IsNameText name → {words : List (List ℕ)} {qs : List Piece} → Words n words qs → Words (33 + n) (name ∷ words) (Named name ∷ qs)
words_name name t k = words_next (lays_weaker 32 (lays_name name t) (omega arith) apart_no_word) k

pub words_op : {n : ℕ} (op : Op) → {words : List (List ℕ)} {qs : List Piece} → Words n words qs → Words (3 + n) (op_text op ∷ words) (Mark (op_text op) ∷ qs)
words_op op k = words_next (lays_op op) k

pub words_mark : {n : ℕ} (b : ℕ) → is_sign b ≡ true → begins_pairs b ≡ false → {words : List (List ℕ)} {qs : List Piece} → Words n words qs → Words (2 + n) ((b ∷ []) ∷ words) (Mark (b ∷ []) ∷ qs)
words_mark b is lone k = words_next (lays_weaker 1 (lays_mark b is lone) (omega arith) (λ rest a. tt)) k

pub words_number : {m n : ℕ} {text : List ℕ} {ps : List Piece} → Lays NoDigit m text ps → {words : List (List ℕ)} {qs : List Piece} → Words n words qs → Words (1 + m + n) (text ∷ words) (ps ++ qs)
words_number {m = m} l k = words_next (lays_weaker m l (omega arith) apart_no_digit) k

-- ---- the words with one space between two of them

pub words_spell : {n : ℕ} (words : List (List ℕ)) (ps : List Piece) → Words n words ps → Spells (tokens_of (spaced words)) ps
words_spell [] ps l = spells_from_begins (subst (λ ts. Begins (tokens_of []) ps ts) tokens_of-nil (l.lays.begins [] tt))
words_spell (w ∷ ws) ps l =
    let text : tokens_of (after_spaces (w ∷ ws) ++ []) ≡ tokens_of (spaced (w ∷ ws)) = ap tokens_of (append-nil (after_spaces (w ∷ ws))) ∙ tokens_of-space (spaced (w ∷ ws)) in
    spells_from_begins (subst (λ ts. Begins ts ps []) text (subst (λ ts. Begins (tokens_of (after_spaces (w ∷ ws) ++ [])) ps ts) tokens_of-nil (l.lays.begins [] tt)))

pub words_plain : {n : ℕ} (words : List (List ℕ)) (ps : List Piece) → Words n words ps → All IsPlainByte (spaced words)
words_plain [] ps l = All-nil IsPlainByte
words_plain (w ∷ ws) ps l = All-tail IsPlainByte 32 (spaced (w ∷ ws)) l.lays.plain

pub words_short : {n : ℕ} (words : List (List ℕ)) (ps : List Piece) → Words n words ps → length (spaced words) ≤ n
words_short [] ps l = l.lays.short
words_short (w ∷ ws) ps l = omega (arith, l.lays.short)
