-- A text whose tokens are those of a form has plain bytes alone, and a text whose first token is a word is no comment.
use Rattle.std.proofs.Common.{codes, ◌≡◌, ◌≢◌, ℕ, zero, suc, ◌≤◌, nat_eq, ap, Bool, true, false, cond, ◌||◌, List, [], ◌∷◌, length, take, drop, All, refl, sym, subst, arith, inl, inr, length-drop}
use Rattle.std.specs.List.{prefix_len}
use Rattle.std.proofs.lemmas.Bool.Decides.{nat_tests}
use Rattle.std.proofs.lemmas.List.{take-append-drop}
use Rattle.std.proofs.lemmas.List.Elements.{All-nil, All-cons, All-head, All-tail, All-append, All-weaker}
use Rattle.palm_read.specs.Bytes.{after_blanks, is_blank, is_digit, is_letter, is_note, is_plain, is_word_byte, IsPlain}
use Rattle.palm_read.specs.Form.{Form}
use Rattle.palm_read.specs.Token.{Lexeme, is_sign, are_sign, begins_long_sign, kind_at, more_at, lexeme_at, front_tokens, tokens_of}
use Rattle.palm_read.specs.Grammar.{IsForm, pieces}
use Rattle.palm_read.specs.Piece.{Piece, Keyword, Named, Mark, Integer, Natural, Numeral, IsPiece, IsInteger, Spells, word, sign}
use Rattle.palm_read.specs.declared.tokens.TokenKind.TheVariants.{Word, Digits, Sign, Other}
use Rattle.palm_read.proofs.cited.SoundLines.{word_letter}
use Rattle.palm_read.proofs.cited.TokenLemmas.{tokens_of-blank, tokens_of-front, take-prefix_len}

-- ---- no form has a token that is no word, no digits and no sign

abbrev pub IsKnown : Lexeme → Type 0
IsKnown t = t.kind ≢ Other

pub word_known : (text : List ℕ) → IsKnown (record { kind = Word; text = text })
word_known text e = cc

pub digits_known : (text : List ℕ) → IsKnown (record { kind = Digits; text = text })
digits_known text e = cc

pub sign_known : (text : List ℕ) → IsKnown (record { kind = Sign; text = text })
sign_known text e = cc

one_known : (tokens : List Lexeme) (t : Lexeme) → IsKnown t → tokens ≡ t ∷ [] → All IsKnown tokens
one_known tokens t known e = subst (All IsKnown) (sym e) (All-cons IsKnown t [] known (All-nil IsKnown))

two_known : (tokens : List Lexeme) (t : Lexeme) (behind : List Lexeme) → IsKnown t → All IsKnown behind → tokens ≡ t ∷ behind → All IsKnown tokens
two_known tokens t behind known rest e = subst (All IsKnown) (sym e) (All-cons IsKnown t behind known rest)

integer_known : (tokens : List Lexeme) (p : _) → IsInteger tokens p → All IsKnown tokens
integer_known tokens z (inl h) = one_known tokens (record { kind = Digits; text = h.1.0 }) (digits_known h.1.0) h.1.1
integer_known tokens z (inr h) = two_known tokens (sign (codes "-")) h.1 (sign_known (codes "-")) (one_known h.1 (record { kind = Digits; text = h.3.0 }) (digits_known h.3.0) h.3.1) h.2

piece_known : (tokens : List Lexeme) (p : Piece) → IsPiece tokens p → All IsKnown tokens
piece_known tokens (Keyword text) h = one_known tokens (record { kind = Word; text = text }) (word_known text) h
piece_known tokens (Named name) h = one_known tokens (record { kind = Word; text = name }) (word_known name) h.0
piece_known tokens (Mark text) h = one_known tokens (record { kind = Sign; text = text }) (sign_known text) h
piece_known tokens (Integer z) h = integer_known tokens z h
piece_known tokens (Natural n) h = one_known tokens (record { kind = Digits; text = h.0 }) (digits_known h.0) h.1
piece_known tokens (Numeral text) h = one_known tokens (record { kind = Digits; text = text }) (digits_known text) h

pub spelled_known : (tokens : List Lexeme) (ps : List Piece) → Spells tokens ps → All IsKnown tokens
spelled_known tokens [] h = subst (All IsKnown) (sym h) (All-nil IsKnown)
spelled_known tokens (p ∷ ps) h =
    subst (All IsKnown) (sym h.2) (All-append IsKnown h.0 h.1 (piece_known h.0 p h.3) (spelled_known h.1 ps h.4))

-- ---- known tokens have plain bytes

abbrev pub IsPlainByte : ℕ → Type 0
IsPlainByte b = is_plain b ≡ true

blank_plain : (b : ℕ) → is_blank b ≡ true → IsPlainByte b
blank_plain b e = grind (arith, nat_tests)

letter_plain : (b : ℕ) → is_letter b ≡ true → IsPlainByte b
letter_plain b e = grind (arith, nat_tests)

digit_plain : (b : ℕ) → is_digit b ≡ true → IsPlainByte b
digit_plain b e = grind (arith, nat_tests)

word_byte_plain : (b : ℕ) → is_word_byte b ≡ true → IsPlainByte b
word_byte_plain b e = grind (arith, nat_tests)

sign_plain : (b : ℕ) → is_sign b ≡ true → IsPlainByte b
sign_plain b e = grind (arith, nat_tests)

signs_plain : (b c : ℕ) → are_sign b c ≡ true → IsPlainByte b × IsPlainByte c
signs_plain b c e = (grind (arith, nat_tests), grind (arith, nat_tests))

-- the first byte of a known token and those that it takes are plain
front_plain : (b : ℕ) (bs : List ℕ) → kind_at b bs ≢ Other → IsPlainByte b × All IsPlainByte (take (more_at b bs) bs)
unfolding kind_at more_at
front_plain b bs known = go (is_letter b) (is_digit b) (is_sign b) bs refl refl refl known
  where
    lone : (sign : Bool) (cs : List ℕ) → is_sign b ≡ sign → cond sign Sign Other ≢ Other → IsPlainByte b × All IsPlainByte (take 0 cs)
    lone true cs e k = (sign_plain b e, All-nil IsPlainByte)
    lone false cs e k = absurd (k refl)

    long : (two : Bool) (c : ℕ) (cs : List ℕ) (sign : Bool) → are_sign b c ≡ two → is_sign b ≡ sign → cond (two || sign) Sign Other ≢ Other → IsPlainByte b × All IsPlainByte (take (cond two 1 0) (c ∷ cs))
    long true c cs sign t e k = ((signs_plain b c t).0, All-cons IsPlainByte c [] (signs_plain b c t).1 (All-nil IsPlainByte))
    long false c cs sign t e k = lone sign (c ∷ cs) e k

    go : (letter digit sign : Bool) (cs : List ℕ) → is_letter b ≡ letter → is_digit b ≡ digit → is_sign b ≡ sign → cond letter Word (cond digit Digits (cond (begins_long_sign b cs || sign) Sign Other)) ≢ Other → IsPlainByte b × All IsPlainByte (take (cond letter (prefix_len is_word_byte cs) (cond digit (prefix_len is_digit cs) (cond (begins_long_sign b cs) 1 0))) cs)
    go true digit sign cs l d s k = (letter_plain b l, All-weaker (λ c. is_word_byte c ≡ true) IsPlainByte word_byte_plain _ (take-prefix_len is_word_byte cs))
    go false true sign cs l d s k = (digit_plain b d, All-weaker (λ c. is_digit c ≡ true) IsPlainByte digit_plain _ (take-prefix_len is_digit cs))
    go false false sign [] l d s k = lone sign [] s k
    go false false sign (c ∷ cs) l d s k = long (are_sign b c) c cs sign refl s k

pub tokens_plain : (n : ℕ) (bytes : List ℕ) → length bytes ≤ n → All IsKnown (tokens_of bytes) → All IsPlainByte bytes
unfolding lexeme_at
tokens_plain n [] short known = All-nil IsPlainByte
tokens_plain zero (b ∷ bs) short known = absurd (omega (arith, short))
tokens_plain (suc n) (b ∷ bs) short known = go (tokens_plain n) (is_blank b) refl
  where
    go : ((xs : List ℕ) → length xs ≤ n → All IsKnown (tokens_of xs) → All IsPlainByte xs) → (blank : Bool) → is_blank b ≡ blank → All IsPlainByte (b ∷ bs)
    go shorter true e = All-cons IsPlainByte b bs (blank_plain b e) (shorter bs (omega (arith, short)) (subst (All IsKnown) (tokens_of-blank b bs e) known))
    go shorter false e =
        let more = more_at b bs in
        let all = subst (All IsKnown) (tokens_of-front b bs e) known in
        let front = front_plain b bs (All-head IsKnown (lexeme_at b bs) (tokens_of (drop more bs)) all) in
        let rest = shorter (drop more bs) (omega (arith, short, length-drop more bs)) (All-tail IsKnown (lexeme_at b bs) (tokens_of (drop more bs)) all) in
        All-cons IsPlainByte b bs front.0 (subst (All IsPlainByte) (take-append-drop more bs) (All-append IsPlainByte (take more bs) (drop more bs) front.1 rest))

-- a text that says something, is short enough, and is of a form
pub form_plain : (bytes : List ℕ) (form : Form) → length bytes ≤ 65536 → is_note (after_blanks bytes) ≡ false → IsForm (tokens_of bytes) form → IsPlain bytes
form_plain bytes form short says h = record {
  short = short;
  says = says;
  plain = tokens_plain (length bytes) bytes (omega arith) (spelled_known (tokens_of bytes) (pieces form) h.spells);
}

-- ---- a word in front

letter_says : (b : ℕ) → is_letter b ≡ true → nat_eq b 35 ≡ false
letter_says b e = grind (arith, nat_tests)

word_front : (n : ℕ) (bs : List ℕ) (w : List ℕ) (rest : List Lexeme) → front_tokens n bs ≡ word w ∷ rest → is_note bs ≡ false
unfolding lexeme_at
word_front n [] w rest e = absurd cc
word_front zero (b ∷ bs) w rest e = absurd cc
word_front (suc n) (b ∷ bs) w rest e =
    let first : lexeme_at b bs ≡ word w = cc in
    letter_says b (word_letter b bs (ap (λ (l : Lexeme). l.kind) first))

-- a text whose first token is a word says something
pub word_says : (bytes w : List ℕ) (rest : List Lexeme) → tokens_of bytes ≡ word w ∷ rest → is_note (after_blanks bytes) ≡ false
unfolding tokens_of
word_says bytes w rest e = word_front (length bytes) (after_blanks bytes) w rest e
