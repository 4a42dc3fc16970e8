-- Tokens that begin with pieces of a form and go on with a rest.
use Rattle.std.proofs.Common.{◌≡◌, ℕ, ℤ, ◌+◌, ◌<◌, ◌≤◌, Some, List, [], ◌∷◌, ◌++◌, length, refl, ap, ◌∙◌, arith, length-append, inl, inr}
use Rattle.palm_read.specs.declared.tokens.TokenKind.TheVariants.{Word, Digits, Sign}
use Rattle.palm_read.specs.Token.{Lexeme}
use Rattle.palm_read.specs.Name.{IsName}
use Rattle.palm_read.specs.Piece.{Piece, Keyword, Named, Mark, Integer, Natural, Numeral, word, sign, numeral, IsInteger, IsPiece, Spells, digits_number}
use Rattle.palm_read.specs.Reader.Steps.{token_at, behind, keyword_at, mark_at, name_at, natural_at, integer_at}
use Rattle.palm_read.proofs.cited.Front.{token_is, behind_is, name_is, natural_is, integer_is, Starts, digits_first, minus_first}

-- the tokens spell the pieces, one after another, and the rest stands behind them
pub data Begins : List Lexeme → List Piece → List Lexeme → Type 0 where
  over : {tokens : List Lexeme} → Begins tokens [] tokens
  next : {tokens back rest : List Lexeme} {p : Piece} {ps : List Piece} (front : List Lexeme) → tokens ≡ front ++ back → IsPiece front p → Begins back ps rest → Begins tokens (p ∷ ps) rest

pub begins_from_spells : (ps : List Piece) (tokens : List Lexeme) → Spells tokens ps → Begins tokens ps []
begins_from_spells [] tokens s = rw s over
begins_from_spells (p ∷ ps) tokens s = next s.0 s.2 s.3 (begins_from_spells ps s.1 s.4)

pub spells_from_begins : {tokens : List Lexeme} {ps : List Piece} → Begins tokens ps [] → Spells tokens ps
spells_from_begins over = refl
spells_from_begins (next front e p b) = (front, _, e, p, spells_from_begins b)

pub begins_over : {a b : List Lexeme} → Begins a [] b → a ≡ b
begins_over over = refl

pub begins_then : {a b c : List Lexeme} {ps qs : List Piece} → Begins a ps b → Begins b qs c → Begins a (ps ++ qs) c
begins_then over r = r
begins_then (next front e p b) r = next front e p (begins_then b r)

pub begins_split : (ps qs : List Piece) {a c : List Lexeme} → Begins a (ps ++ qs) c → (b : List Lexeme) × Begins a ps b × Begins b qs c
begins_split [] qs r = (_, over, r)
begins_split (p ∷ ps) qs (next front e q b) =
    let s = begins_split ps qs b in
    (s.0, next front e q s.1, s.2)

-- ---- what single readers took is pieces

pub by_keyword : {tokens back rest : List Lexeme} {w : List ℕ} {ps : List Piece} → keyword_at w tokens ≡ Some back → Begins back ps rest → Begins tokens (Keyword w ∷ ps) rest
by_keyword {w = w} e b = next (word w ∷ []) (behind_is Word w _ _ e) refl b

pub by_mark : {tokens back rest : List Lexeme} {w : List ℕ} {ps : List Piece} → mark_at w tokens ≡ Some back → Begins back ps rest → Begins tokens (Mark w ∷ ps) rest
by_mark {w = w} e b = next (sign w ∷ []) (behind_is Sign w _ _ e) refl b

pub by_numeral : {tokens back rest : List Lexeme} {w : List ℕ} {ps : List Piece} → behind Digits w tokens ≡ Some back → Begins back ps rest → Begins tokens (Numeral w ∷ ps) rest
by_numeral {w = w} e b = next (numeral w ∷ []) (behind_is Digits w _ _ e) refl b

pub by_name : {tokens rest : List Lexeme} {x : List ℕ × List Lexeme} {ps : List Piece} → name_at tokens ≡ Some x → Begins x.1 ps rest → Begins tokens (Named x.0 ∷ ps) rest
by_name {x = x} e b = let n = name_is _ x e in next (word x.0 ∷ []) n.0 (refl, n.1) b

pub by_natural : {tokens rest : List Lexeme} {x : ℕ × List Lexeme} {ps : List Piece} → natural_at tokens ≡ Some x → Begins x.1 ps rest → Begins tokens (Natural x.0 ∷ ps) rest
by_natural {x = x} e b = let n = natural_is _ x e in next (record { kind = Digits; text = n.0 } ∷ []) n.1 (n.0, refl, n.2) b

pub by_digits : {tokens rest : List Lexeme} {x : List ℕ × List Lexeme} {ps : List Piece} → token_at Digits tokens ≡ Some x → Begins x.1 ps rest → Begins tokens (Natural (digits_number x.0) ∷ ps) rest
by_digits {x = x} e b = next (record { kind = Digits; text = x.0 } ∷ []) (token_is Digits _ x e) (x.0, refl, refl) b

pub by_integer : {tokens rest : List Lexeme} {x : ℤ × List Lexeme} {ps : List Piece} → integer_at tokens ≡ Some x → Begins x.1 ps rest → Begins tokens (Integer x.0 ∷ ps) rest
by_integer {x = x} e b = let n = integer_is _ x e in next n.0 n.1 n.2 b

-- ---- and pieces are what single readers take

pub keyword_first : {tokens rest : List Lexeme} {w : List ℕ} {ps : List Piece} → Begins tokens (Keyword w ∷ ps) rest → (back : List Lexeme) × (tokens ≡ word w ∷ back) × Begins back ps rest
keyword_first (next {back = back} front e p b) = (back, e ∙ ap (λ ts. ts ++ back) p, b)

pub mark_first : {tokens rest : List Lexeme} {w : List ℕ} {ps : List Piece} → Begins tokens (Mark w ∷ ps) rest → (back : List Lexeme) × (tokens ≡ sign w ∷ back) × Begins back ps rest
mark_first (next {back = back} front e p b) = (back, e ∙ ap (λ ts. ts ++ back) p, b)

pub numeral_first : {tokens rest : List Lexeme} {w : List ℕ} {ps : List Piece} → Begins tokens (Numeral w ∷ ps) rest → (back : List Lexeme) × (tokens ≡ numeral w ∷ back) × Begins back ps rest
numeral_first (next {back = back} front e p b) = (back, e ∙ ap (λ ts. ts ++ back) p, b)

pub name_first : {tokens rest : List Lexeme} {w : List ℕ} {ps : List Piece} → Begins tokens (Named w ∷ ps) rest → (back : List Lexeme) × (tokens ≡ word w ∷ back) × IsName w × Begins back ps rest
name_first (next {back = back} front e p b) = (back, e ∙ ap (λ ts. ts ++ back) p.0, p.1, b)

pub natural_first : {tokens rest : List Lexeme} {n : ℕ} {ps : List Piece} → Begins tokens (Natural n ∷ ps) rest → (digits : List ℕ) × (back : List Lexeme) × (tokens ≡ record { kind = Digits; text = digits } ∷ back) × (n ≡ digits_number digits) × Begins back ps rest
natural_first (next {back = back} front e p b) = (p.0, back, e ∙ ap (λ ts. ts ++ back) p.1, p.2, b)

pub integer_first : {tokens rest : List Lexeme} {z : ℤ} {ps : List Piece} → Begins tokens (Integer z ∷ ps) rest → (back : List Lexeme) × Starts tokens z back × Begins back ps rest
integer_first (next {back = back} front e p b) = (back, starts _ front _ e p, b)
  where
    starts : (tokens front : List Lexeme) (z : ℤ) → tokens ≡ front ++ back → IsInteger front z → Starts tokens z back
    starts tokens front z e p =
        elim p [
          | inl n ↦ rw (e, n.1.1, n.2, n.1.2) digits_first
          | inr n ↦ rw (e, n.2, n.3.1, n.4, n.3.2) minus_first
        ]

-- ---- each piece takes a token at least

front_some : (front : List Lexeme) (p : Piece) → IsPiece front p → 0 < length front
front_some front (Keyword w) h = omega (arith, ap length h)
front_some front (Named w) h = omega (arith, ap length h.0)
front_some front (Mark w) h = omega (arith, ap length h)
front_some front (Numeral w) h = omega (arith, ap length h)
front_some front (Integer z) h =
    elim h [
      | inl n ↦ omega (arith, ap length n.1.1)
      | inr n ↦ omega (arith, ap length n.2)
    ]
front_some front (Natural n) h = omega (arith, ap length h.1)

pub begins_length : {tokens rest : List Lexeme} {ps : List Piece} → Begins tokens ps rest → length rest + length ps ≤ length tokens
begins_length over = omega arith
begins_length (next {back = back} {p = p} front e h b) =
    omega (arith, begins_length b, front_some front p h, ap length e, length-append front back)
