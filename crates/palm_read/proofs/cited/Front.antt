-- Tokens in front of a text, and what the readers of single tokens make of them.
use Rattle.std.proofs.Common.{◌≡◌, ℕ, ℤ, pos, neg_ℤ, Bool, true, false, not, nat_le, Option, Some, None, List, [], ◌∷◌, ◌++◌, length, codes, refl, sym, ap, ◌∙◌, inl, inr, ◌⊎◌}
use Rattle.std.specs.Str.{bytes_eq}
use Rattle.std.proofs.lemmas.Bool.{and_parts, and_from, leb-true, le-leb, both_ways, not-true, not_from_false, false_from_ne_true}
use Rattle.std.proofs.lemmas.Bool.Decides.{Decides-or}
use Rattle.std.specs.Bool.{Decides}
use Rattle.std.proofs.lemmas.Option.{same_Some}
use Rattle.std.proofs.lemmas.Slice.Eq.{bytes_eq-Decides}
use Rattle.palm_read.specs.declared.tokens.TokenKind.{TokenKind}
use Rattle.palm_read.specs.declared.tokens.TokenKind.TheVariants.{Word, Digits, Sign, Other}
use Rattle.palm_read.specs.Token.{Lexeme}
use Rattle.palm_read.specs.Name.{IsName, IsReserved}
use Rattle.palm_read.specs.Piece.{word, sign, IsInteger, digits_number}
use Rattle.palm_read.specs.Reader.Steps.{and_then, when, choose, is_kind, front_text, token_at, behind, is_name, is_reserved, name_at, natural_at, integer_at}

-- ---- a reader that answered

pub and_then_some : {A B : Type 0} {r : Option A} {f : A → Option B} {y : B} → and_then r f ≡ Some y → (x : A) × (r ≡ Some x) × (f x ≡ Some y)
unfolding and_then
and_then_some {r = None} e = absurd cc
and_then_some {r = Some x} e = (x, refl, e)

pub when_some : {A B : Type 0} {o : Option A} {f : A → Option B} {d : Option B} {y : B} → when o f d ≡ Some y → ((x : A) × (o ≡ Some x) × (f x ≡ Some y)) ⊎ ((o ≡ None) × (d ≡ Some y))
unfolding when
when_some {o = None} e = inr (refl, e)
when_some {o = Some x} e = inl (x, refl, e)

pub choose_some : {A : Type 0} {b : Bool} {x y : Option A} {z : A} → choose b x y ≡ Some z → ((b ≡ true) × (x ≡ Some z)) ⊎ ((b ≡ false) × (y ≡ Some z))
unfolding choose
choose_some {b = true} e = inl (refl, e)
choose_some {b = false} e = inr (refl, e)

-- a reading where a test holds, and none where it does not
pub guard_some : {A : Type 0} {b : Bool} {x : Option A} {z : A} → choose b x None ≡ Some z → (b ≡ true) × (x ≡ Some z)
unfolding choose
guard_some {b = true} e = (refl, e)
guard_some {b = false} e = absurd cc

-- ---- texts

pub same_text : (a b : List ℕ) → bytes_eq a b ≡ true → a ≡ b
same_text a b e = (bytes_eq-Decides a b).0 e

pub bytes_eq-same : (a : List ℕ) → bytes_eq a a ≡ true
bytes_eq-same a = (bytes_eq-Decides a a).1 refl

-- ---- single tokens

same_kind : (j k : TokenKind) → is_kind j k ≡ true → j ≡ k
same_kind Word Word e = refl
same_kind Digits Digits e = refl
same_kind Sign Sign e = refl
same_kind Other Other e = refl
same_kind Word Digits e = absurd cc
same_kind Word Sign e = absurd cc
same_kind Word Other e = absurd cc
same_kind Digits Word e = absurd cc
same_kind Digits Sign e = absurd cc
same_kind Digits Other e = absurd cc
same_kind Sign Word e = absurd cc
same_kind Sign Digits e = absurd cc
same_kind Sign Other e = absurd cc
same_kind Other Word e = absurd cc
same_kind Other Digits e = absurd cc
same_kind Other Sign e = absurd cc

lexeme-same : (t : Lexeme) (k : TokenKind) (w : List ℕ) → t.kind ≡ k → t.text ≡ w → t ≡ record { kind = k; text = w }
lexeme-same t k w p q = rw (← p, ← q) refl

-- what a token in front was
pub token_is : (kind : TokenKind) (tokens : List Lexeme) (x : List ℕ × List Lexeme) → token_at kind tokens ≡ Some x → tokens ≡ record { kind = kind; text = x.0 } ∷ x.1
unfolding token_at front_text
token_is kind [] x e = absurd (cc (and_then_some e).1)
token_is kind (t ∷ ts) x e =
    let a = and_then_some e in
    let b = guard_some a.1 in
    let same = same_kind t.kind kind b.0 in
    let text = same_Some t.text a.0 b.1 in
    let made : List ℕ × List Lexeme = (a.0, ts) in
    let left : made ≡ x = same_Some made x a.2 in
    ap (λ u. u ∷ ts) (lexeme-same t kind a.0 same text) ∙ ap (λ (y : List ℕ × List Lexeme). record { kind = kind; text = y.0 } ∷ y.1) left

pub behind_is : (kind : TokenKind) (text : List ℕ) (tokens rest : List Lexeme) → behind kind text tokens ≡ Some rest → tokens ≡ record { kind = kind; text = text } ∷ rest
unfolding behind
behind_is kind text tokens rest e =
    let a = and_then_some e in
    let b = guard_some a.2 in
    let same = same_text a.0.0 text b.0 in
    let left = same_Some _ _ b.1 in
    let is = token_is kind tokens a.0 a.1 in
    cc

-- ---- and what a reader makes of a token that is known

pub token_at-cons : (kind : TokenKind) (text : List ℕ) (rest : List Lexeme) → token_at kind (record { kind = kind; text = text } ∷ rest) ≡ Some (text, rest)
unfolding token_at front_text and_then choose
token_at-cons Word text rest = refl
token_at-cons Digits text rest = refl
token_at-cons Sign text rest = refl
token_at-cons Other text rest = refl

pub behind-cons : (kind : TokenKind) (text : List ℕ) (rest : List Lexeme) → behind kind text (record { kind = kind; text = text } ∷ rest) ≡ Some rest
unfolding behind and_then choose
behind-cons kind text rest = rw (token_at-cons kind text rest, bytes_eq-same text) refl

-- ---- names

reserved : (w : List ℕ) → Decides (is_reserved w) (IsReserved w)
reserved w =
    let is = λ (t : List ℕ). bytes_eq-Decides w t in
    Decides-or _ _ (is (codes "sum")) (Decides-or _ _ (is (codes "table")) (Decides-or _ _ (is (codes "element"))
    (Decides-or _ _ (is (codes "count")) (Decides-or _ _ (is (codes "differ")) (is (codes "in"))))))

pub name-is : (w : List ℕ) → is_name w ≡ true → IsName w
unfolding is_name
name-is w e =
    let a = and_parts (nat_le (length w) 32) (not (is_reserved w)) e in
    record { short = leb-true (length w) 32 a.0; free = λ r. both_ways (is_reserved w) (not-true (is_reserved w) a.1) ((reserved w).1 r) }

pub is_name-name : (w : List ℕ) → IsName w → is_name w ≡ true
unfolding is_name
is_name-name w n =
    and_from (nat_le (length w) 32) (not (is_reserved w)) (le-leb (length w) 32 n.short) (not_from_false (is_reserved w) (false_from_ne_true (is_reserved w) (λ t. n.free ((reserved w).0 t))))

pub name_is : (tokens : List Lexeme) (x : List ℕ × List Lexeme) → name_at tokens ≡ Some x → (tokens ≡ word x.0 ∷ x.1) × IsName x.0
unfolding name_at
name_is tokens x e =
    let a = and_then_some e in
    let b = guard_some a.2 in
    let same = same_Some _ _ b.1 in
    let is = token_is Word tokens a.0 a.1 in
    (cc, rw same at (name-is a.0.0 b.0))

pub name_at-cons : (w : List ℕ) (rest : List Lexeme) → IsName w → name_at (word w ∷ rest) ≡ Some (w, rest)
unfolding name_at and_then choose
name_at-cons w rest n = rw (token_at-cons Word w rest, is_name-name w n) refl

-- ---- numbers

pub natural_is : (tokens : List Lexeme) (x : ℕ × List Lexeme) → natural_at tokens ≡ Some x → (digits : List ℕ) × (tokens ≡ record { kind = Digits; text = digits } ∷ x.1) × (x.0 ≡ digits_number digits)
unfolding natural_at
natural_is tokens x e =
    let a = and_then_some e in
    let same = same_Some _ _ a.2 in
    let is = token_is Digits tokens a.0 a.1 in
    (a.0.0, cc, cc)

pub natural_at-cons : (digits : List ℕ) (rest : List Lexeme) → natural_at (record { kind = Digits; text = digits } ∷ rest) ≡ Some (digits_number digits, rest)
unfolding natural_at and_then
natural_at-cons digits rest = rw (token_at-cons Digits digits rest) refl

-- ---- whole numbers: digits, or `-` and digits

pub integer_is : (tokens : List Lexeme) (x : ℤ × List Lexeme) → integer_at tokens ≡ Some x → (front : List Lexeme) × (tokens ≡ front ++ x.1) × IsInteger front x.0
unfolding integer_at
integer_is tokens x e =
    elim (when_some e) [
      | inl w ↦
          let b = and_then_some w.2 in
          let n = natural_is w.0 b.0 b.1 in
          let made : ℤ × List Lexeme = (neg_ℤ (pos b.0.0), b.0.1) in
          let same : made ≡ x = same_Some made x b.2 in
          let is = behind_is Sign (codes "-") tokens w.0 w.1 in
          let digits : Lexeme = record { kind = Digits; text = n.0 } in (
            sign (codes "-") ∷ digits ∷ [],
            is ∙ ap (λ ts. sign (codes "-") ∷ ts) n.1 ∙ ap (λ (y : ℤ × List Lexeme). sign (codes "-") ∷ digits ∷ y.1) same,
            inr (b.0.0, digits ∷ [], refl, (n.0, refl, n.2), ap (λ (y : ℤ × List Lexeme). y.0) (sym same)),
          )
      | inr w ↦
          let b = and_then_some w.1 in
          let n = natural_is tokens b.0 b.1 in
          let made : ℤ × List Lexeme = (pos b.0.0, b.0.1) in
          let same : made ≡ x = same_Some made x b.2 in
          let digits : Lexeme = record { kind = Digits; text = n.0 } in
          (digits ∷ [], n.1 ∙ ap (λ (y : ℤ × List Lexeme). digits ∷ y.1) same, inl (b.0.0, (n.0, refl, n.2), ap (λ (y : ℤ × List Lexeme). y.0) (sym same)))
    ]

-- a number in front begins with digits or with `-` and digits
pub data Starts : List Lexeme → ℤ → List Lexeme → Type 0 where
  digits_first : {digits : List ℕ} {rest : List Lexeme} → Starts (record { kind = Digits; text = digits } ∷ rest) (pos (digits_number digits)) rest
  minus_first : {digits : List ℕ} {rest : List Lexeme} → Starts (sign (codes "-") ∷ record { kind = Digits; text = digits } ∷ rest) (neg_ℤ (pos (digits_number digits))) rest

pub integer_at-starts : {tokens : List Lexeme} {z : ℤ} {rest : List Lexeme} → Starts tokens z rest → integer_at tokens ≡ Some (z, rest)
unfolding integer_at natural_at behind token_at front_text and_then when choose
integer_at-starts digits_first = refl
integer_at-starts minus_first = refl
