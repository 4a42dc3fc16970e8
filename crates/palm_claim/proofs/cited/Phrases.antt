-- The phrases of certificates: the reader reads just the tokens of one, and none of them is a form of a session.
use Rattle.std.proofs.Common.{◌≡◌, ℕ, ℤ, pos, ◌-ℤ◌, ◌≤◌, nat_le, int_lt, true, not, Option, Some, None, List, [], ◌∷◌, map, All, codes, refl, sym, ap, ◌∙◌, subst, arith, inl, inr}
use Rattle.std.specs.List.{flat_map}
use Rattle.std.proofs.lemmas.Bool.{and_parts, and_from, leb-true, le-leb}
use Rattle.std.proofs.lemmas.Int.{ints}
use Rattle.std.proofs.lemmas.List.Elements.{All-nil, All-from_recursion, recursion_from_All}
use Rattle.std.proofs.lemmas.Option.{same_Some}
use Rattle.palm_model.specs.Limits.{IsValue}
use Rattle.palm_read.specs.declared.tokens.TokenKind.TheVariants.{Digits}
use Rattle.palm_read.specs.Bounds.{IsFromOneTo}
use Rattle.palm_read.specs.Piece.{Piece, Keyword, Natural, Spells, numeral, word, sign, digits_number}
use Rattle.palm_read.specs.Reader.Lines.{header_at as session_header_at, numbered_at, bare_at, search_form_at, line_at, form_at}
use Rattle.palm_read.specs.Reader.Steps.{Reading, and_then, when, choose, is_name, front_text, token_at, behind, keyword_at, name_at, natural_at, integer_at}
use Rattle.palm_read.specs.Token.{Lexeme}
use Rattle.palm_read.proofs.cited.Begins.{Begins, over, begins_over, by_digits, by_integer, by_keyword, by_mark, by_name, by_numeral, integer_first, keyword_first, mark_first, name_first, natural_first, numeral_first}
use Rattle.palm_read.proofs.cited.Front.{Starts, and_then_some, when_some, guard_some, same_text, token_at-cons, name_at-cons, integer_at-starts}
use Rattle.palm_read.proofs.cited.LineForms.{conflict_word}
use Rattle.palm_read.proofs.cited.Many.{IsItem, many_at_takes, many_at_again}
use Rattle.palm_read.proofs.cited.Names.{moved, not_none, not_some, same_item, same_rest, starts_no_name}
use Rattle.palm_claim.specs.Reader.{is_number, is_value, value_at, next_number, has_some, numbers_at, reasons_at, step_at, claim_at, header_at, phrase_at}
use Rattle.palm_claim.specs.Statement.{phrases, phrase_pieces, reasons_pieces, IsStepNumber, AreInRange}
use Rattle.palm_claim.specs.Phrases.{ArePhrases, header_of, header_pieces, is_worded}
use Rattle.palm_claim.proofs.cited.Saying.{Taken, by_pieces, taken_as}
use Rattle.palm_claim.specs.declared.statement.CertificatePhrase.{CertificatePhrase}
use Rattle.palm_claim.specs.declared.statement.CertificatePhrase.TheVariants.{Header, Step, ValueClaim, ConflictClaim, End}

-- ---- numbers in their ranges

pub is_value-value : (v : ℤ) → is_value v ≡ true → IsValue v
is_value-value v e =
    let a = and_parts (not (int_lt v (pos 0 -ℤ pos 1000000))) (not (int_lt (pos 1000000) v)) e in
    record { above = grind (arith, ints, a.0); below = grind (arith, ints, a.1) }

pub value-is_value : (v : ℤ) → IsValue v → is_value v ≡ true
value-is_value v is =
    and_from (not (int_lt v (pos 0 -ℤ pos 1000000))) (not (int_lt (pos 1000000) v)) (grind (arith, ints, is.above)) (grind (arith, ints, is.below))

pub value_takes : (tokens : List Lexeme) (x : ℤ × List Lexeme) → value_at tokens ≡ Some x → (integer_at tokens ≡ Some x) × IsValue x.0
unfolding value_at
value_takes tokens x e =
    let a = and_then_some e in
    let b = guard_some a.2 in
    let same : a.0 ≡ x = same_Some a.0 x b.1 in
    (a.1 ∙ b.1, subst (λ (y : ℤ × List Lexeme). IsValue y.0) same (is_value-value a.0.0 b.0))

pub value_again : {tokens rest : List Lexeme} {v : ℤ} → Starts tokens v rest → IsValue v → value_at tokens ≡ Some (v, rest)
unfolding value_at and_then choose
value_again {v = v} s is = rw (integer_at-starts s, value-is_value v is) refl

-- numbers counted from 1
pub number_from : (most k : ℕ) → is_number most k ≡ true → IsFromOneTo most k
number_from most k e =
    let a = and_parts (nat_le 1 k) (nat_le k most) e in
    let one : 1 ≤ k = leb-true 1 k a.0 in
    (omega (arith, one), leb-true k most a.1)

pub number_to : (most k : ℕ) → IsFromOneTo most k → is_number most k ≡ true
number_to most k is =
    let some = is.0 in
    and_from (nat_le 1 k) (nat_le k most) (le-leb 1 k (omega (arith, some))) (le-leb k most is.1)

-- ---- numbers of steps

abbrev pub number_pieces : ℕ → List Piece
number_pieces k = Natural k ∷ []

number_takes : (tokens rest : List Lexeme) (a : ℕ) → next_number tokens ≡ Some (Some a, rest) → Begins tokens (number_pieces a) rest × IsStepNumber a
unfolding next_number
number_takes tokens rest a e =
    elim (when_some e) [
      | inl w ↦
          let k : ℕ = digits_number w.0.0 in
          let g = guard_some w.2 in
          (moved number_pieces tokens k a w.0.1 rest g.1 (by_digits w.1 over), subst IsStepNumber (same_item k a w.0.1 rest g.1).0 (number_from 4294967295 k g.0))
      | inr w ↦ absurd (not_some a tokens rest w.1)
    ]

number_leaves : (tokens rest : List Lexeme) → next_number tokens ≡ Some (None, rest) → rest ≡ tokens
unfolding next_number
number_leaves tokens rest e =
    elim (when_some e) [
      | inl w ↦ absurd (not_none (digits_number w.0.0) w.0.1 rest (guard_some w.2).1)
      | inr w ↦ same_rest {A = ℕ} tokens rest w.1
    ]

number_again : (tokens rest : List Lexeme) (a : ℕ) → IsStepNumber a → Begins tokens (number_pieces a) rest → next_number tokens ≡ Some (Some a, rest)
unfolding next_number when choose
number_again tokens rest a is b =
    let d = natural_first b in
    let made : ℕ → Option ℕ × List Lexeme = λ k. (Some k, rest) in
    rw (d.2, token_at-cons Digits d.0 d.1, number_to 4294967295 (digits_number d.0) (subst IsStepNumber d.3 is), begins_over d.4) (ap (λ k. Some (made k)) (sym d.3))

pub number_item : IsItem next_number number_pieces IsStepNumber
number_item = record {
  takes = number_takes;
  leaves = number_leaves;
  again = number_again;
  some = λ a. omega arith;
}

numbers_same : (ks : List ℕ) → flat_map number_pieces ks ≡ map Natural ks
numbers_same [] = refl
numbers_same (k ∷ ks) = ap (λ ps. Natural k ∷ ps) (numbers_same ks)

numbers_takes : (tokens : List Lexeme) (x : List ℕ × List Lexeme) → numbers_at tokens ≡ Some x → Begins tokens (map Natural x.0) x.1 × All IsStepNumber x.0 × (has_some x.0 ≡ true)
unfolding numbers_at
numbers_takes tokens x e =
    let Taken : List ℕ × List Lexeme → Type 0 = λ y. Begins tokens (map Natural y.0) y.1 × All IsStepNumber y.0 × (has_some y.0 ≡ true) in
    let a = and_then_some e in
    let g = guard_some a.2 in
    let t = many_at_takes next_number number_pieces IsStepNumber number_item tokens a.0 a.1 in
    let taken : Taken a.0 = (subst (λ ps. Begins tokens ps a.0.1) (numbers_same a.0.0) t.0, All-from_recursion IsStepNumber a.0.0 t.1, g.0) in
    subst Taken (same_Some a.0 x g.1) taken

-- ---- reasons

from_pieces : (ks : List ℕ) → has_some ks ≡ true → Keyword (codes "from") ∷ map Natural ks ≡ reasons_pieces ks
from_pieces [] e = cc
from_pieces (k ∷ ks) e = refl

pub reasons_takes : (tokens : List Lexeme) (x : List ℕ × List Lexeme) → reasons_at tokens ≡ Some x → Taken reasons_pieces (All IsStepNumber) tokens x
unfolding reasons_at
reasons_takes tokens x e =
    elim (when_some e) [
      | inl w ↦
          let n = numbers_takes w.0 x w.2 in
          (subst (λ ps. Begins tokens ps x.1) (from_pieces x.0 n.2) (by_keyword w.1 n.0), n.1)
      | inr w ↦ taken_as reasons_pieces (All IsStepNumber) tokens ([], tokens) x w.1 (over, All-nil IsStepNumber)
    ]

no_number : next_number [] ≡ Some (None, [])
unfolding next_number token_at front_text and_then when
no_number = refl

pub reasons_again : (ks : List ℕ) (tokens : List Lexeme) → All IsStepNumber ks → Begins tokens (reasons_pieces ks) [] → reasons_at tokens ≡ Some (ks, [])
unfolding reasons_at numbers_at behind token_at front_text and_then when choose
reasons_again [] tokens is b = rw (begins_over b) refl
reasons_again (k ∷ ks) tokens is b =
    let w = keyword_first b in
    let spelled : Begins w.0 (flat_map number_pieces (k ∷ ks)) [] = subst (λ ps. Begins w.0 ps []) (sym (numbers_same (k ∷ ks))) w.2 in
    let read = many_at_again next_number number_pieces IsStepNumber number_item (k ∷ ks) w.0 [] (recursion_from_All IsStepNumber (k ∷ ks) is) spelled no_number in
    rw (w.1, read) refl

-- ---- headers

pub header_takes : (kind : List ℕ) (tokens rest : List Lexeme) → header_at kind tokens ≡ Some rest → Begins tokens (header_pieces kind) rest
unfolding header_at
header_takes kind tokens rest e =
    let first = and_then_some e in
    let second = and_then_some first.2 in
    let third = and_then_some second.2 in
    by_keyword first.1 (by_mark second.1 (by_keyword third.1 (by_numeral third.2 over)))

pub header_tokens : (kind : List ℕ) (tokens : List Lexeme) → Begins tokens (header_pieces kind) [] → tokens ≡ header_of kind
header_tokens kind tokens b =
    let first = keyword_first b in
    let second = mark_first first.2 in
    let third = keyword_first second.2 in
    let fourth = numeral_first third.2 in
    rw (first.1, second.1, third.1, fourth.1, begins_over fourth.2) refl

-- cited by the writers of certificates and of proofs
pub header_spelled : (kind : List ℕ) (tokens : List Lexeme) → tokens ≡ header_of kind → Spells tokens (header_pieces kind)
header_spelled kind tokens e = rw e (word (codes "palm") ∷ [], _, refl, refl, (sign (codes "-") ∷ [], _, refl, refl, (word kind ∷ [], _, refl, refl, (numeral (codes "1") ∷ [], [], refl, refl, refl))))

-- ---- forms

abbrev TakenPhrase : List Lexeme → CertificatePhrase × List Lexeme → Type 0
TakenPhrase tokens x = Taken phrase_pieces AreInRange tokens x

taken : (tokens : List Lexeme) (made x : CertificatePhrase × List Lexeme) → ◌≡◌ {A = Reading CertificatePhrase} (Some made) (Some x) → TakenPhrase tokens made → TakenPhrase tokens x
taken = taken_as phrase_pieces AreInRange

step_takes : (tokens back : List Lexeme) (x : CertificatePhrase × List Lexeme) → keyword_at (codes "step") tokens ≡ Some back → step_at back ≡ Some x → TakenPhrase tokens x
unfolding step_at
step_takes tokens back x k e =
    let name = and_then_some e in
    let value = and_then_some name.2 in
    let rest = and_then_some value.2 in
    let by = and_then_some rest.2 in
    let reasons = and_then_some by.2 in
    let v = value_takes name.0.1 value.0 value.1 in
    let r = reasons_takes by.0.1 reasons.0 reasons.1 in
    taken tokens (Step name.0.0 value.0.0 by.0.0 reasons.0.0, reasons.0.1) x reasons.2
    (by_keyword k (by_name name.1 (by_integer v.0 (by_keyword rest.1 (by_name by.1 r.0)))), (v.1, r.1))

claim_takes : (tokens back : List Lexeme) (x : CertificatePhrase × List Lexeme) → keyword_at (codes "claim") tokens ≡ Some back → claim_at back ≡ Some x → TakenPhrase tokens x
unfolding claim_at
claim_takes tokens back x k e =
    let name = and_then_some e in
    elim (when_some name.2) [
      | inl w ↦
          let g = guard_some w.2 in
          let same = same_text name.0.0 (codes "conflict") g.0 in
          taken tokens (ConflictClaim w.0.0, w.0.1) x g.1 (by_keyword k (by_keyword (conflict_word back name.0 name.1 same) (by_name w.1 over)), tt)
      | inr w ↦
          let value = and_then_some w.1 in
          let v = value_takes name.0.1 value.0 value.1 in
          taken tokens (ValueClaim name.0.0 value.0.0, value.0.1) x value.2 (by_keyword k (by_name name.1 (by_integer v.0 over)), v.1)
    ]

phrase_takes : (tokens : List Lexeme) (x : CertificatePhrase × List Lexeme) → phrase_at tokens ≡ Some x → TakenPhrase tokens x
unfolding phrase_at
phrase_takes tokens x e =
    elim (when_some e) [
      | inl w ↦ step_takes tokens w.0 x w.1 w.2
      | inr u ↦ elim (when_some u.1) [
        | inl w ↦ claim_takes tokens w.0 x w.1 w.2
        | inr v ↦ elim (when_some v.1) [
          | inl w ↦ taken tokens (End, w.0) x w.2 (by_keyword w.1 over, tt)
          | inr w ↦ let rest = and_then_some w.1 in taken tokens (Header, rest.0) x rest.2 (header_takes (codes "cert") tokens rest.0 rest.1, tt)
        ]
      ]
    ]

-- ---- and where a phrase stands it is read

conflict_name : (rest : List Lexeme) → name_at (word (codes "conflict") ∷ rest) ≡ Some (codes "conflict", rest)
unfolding name_at is_name token_at front_text and_then choose
conflict_name rest = refl

-- the reader finds its way by the first word
phrase_again : (tokens : List Lexeme) (s : CertificatePhrase) → Begins tokens (phrase_pieces s) [] → AreInRange s → phrase_at tokens ≡ Some (s, [])
unfolding phrase_at header_at step_at claim_at behind token_at front_text and_then when choose
phrase_again tokens Header b range = rw (header_tokens (codes "cert") tokens b) refl
phrase_again tokens (Step name value by reasons) b range =
    let k = keyword_first b in
    let n = name_first k.2 in
    let i = integer_first n.3 in
    let w = keyword_first i.2 in
    let m = name_first w.2 in
    rw (k.1, n.1, name_at-cons name n.0 n.2, value_again i.1 range.0, w.1, m.1, name_at-cons by m.0 m.2, reasons_again reasons m.0 range.1 m.3) refl
phrase_again tokens (ValueClaim name value) b range =
    let k = keyword_first b in
    let n = name_first k.2 in
    let i = integer_first n.3 in
    rw (k.1, n.1, name_at-cons name n.0 n.2, starts_no_name i.1, value_again i.1 range, begins_over i.2) refl
phrase_again tokens (ConflictClaim name) b range =
    let k = keyword_first b in
    let w = keyword_first k.2 in
    let n = name_first w.2 in
    rw (k.1, w.1, conflict_name w.0, n.1, name_at-cons name n.0 n.2, begins_over n.3) refl
phrase_again tokens End b range = let k = keyword_first b in rw (k.1, begins_over k.2) refl

-- ---- none is a form of a session

no_form : (tokens : List Lexeme) (s : CertificatePhrase) → Begins tokens (phrase_pieces s) [] → form_at tokens ≡ None
unfolding form_at line_at session_header_at numbered_at search_form_at bare_at integer_at natural_at behind token_at front_text and_then when choose
no_form tokens Header b = rw (header_tokens (codes "cert") tokens b) refl
no_form tokens (Step name value by reasons) b = let k = keyword_first b in rw (k.1, (name_first k.2).1) refl
no_form tokens (ValueClaim name value) b = rw (keyword_first b).1 refl
no_form tokens (ConflictClaim name) b = rw (keyword_first b).1 refl
no_form tokens End b = rw (keyword_first b).1 refl

worded : (s : CertificatePhrase) → is_worded (phrase_pieces s) ≡ true
worded End = refl
worded _ = refl

pub are_phrases : ArePhrases phrases
are_phrases = by_pieces phrases phrase_takes phrase_again worded no_form
