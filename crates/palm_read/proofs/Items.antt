-- The lists of the grammar: the readers of one more name, number, row and term read just the pieces of one.
use Rattle.std.proofs.Common.{◌≡◌, ℕ, ℤ, ◌<◌, Bool, true, false, Option, Some, None, List, [], ◌∷◌, ◌++◌, length, codes, refl, sym, ap, ◌∙◌, subst, arith, inl, inr}
use Rattle.std.specs.Bool.{⊤}
use Rattle.std.specs.List.{flat_map}
use Rattle.std.specs.Str.{bytes_eq}
use Rattle.std.proofs.lemmas.Bool.{eqb-true, eq-eqb}
use Rattle.std.proofs.lemmas.Option.{same_Some}
use Rattle.palm_read.specs.declared.tokens.TokenKind.TheVariants.{Digits, Sign}
use Rattle.palm_read.specs.Token.{Lexeme}
use Rattle.palm_read.specs.Linear.{linear_unsigned_term, linear_later_term, TermForm}
use Rattle.palm_read.specs.Piece.{Piece, Mark, Integer, word, sign, digits_number, listed, in_parentheses}
use Rattle.palm_read.specs.Reader.Lists.{next_value, values_at, next_row}
use Rattle.palm_read.specs.Reader.Shapes.{linear_term_at, linear_next_term}
use Rattle.palm_read.specs.Reader.Steps.{and_then, when, choose, front_text, token_at, behind, mark_at}
use Rattle.palm_read.proofs.cited.Front.{Starts, digits_first, minus_first, and_then_some, when_some, guard_some, token_at-cons, behind-cons, name_at-cons, integer_at-starts}
use Rattle.palm_read.proofs.cited.Begins.{Begins, over, by_mark, by_name, by_integer, by_digits, mark_first, name_first, integer_first, natural_first, begins_over, begins_then, begins_split}
use Rattle.palm_read.proofs.cited.Many.{IsItem, many_at_takes, many_at_again}
use Rattle.palm_read.proofs.cited.Names.{all_fit, moved, not_none, not_some, same_item, same_rest}

-- ---- numbers behind a comma

abbrev pub value_pieces : ℤ → List Piece
value_pieces v = Mark (codes ",") ∷ Integer v ∷ []

value_takes : (tokens rest : List Lexeme) (a : ℤ) → next_value tokens ≡ Some (Some a, rest) → Begins tokens (value_pieces a) rest
unfolding next_value
value_takes tokens rest a e =
    elim (when_some e) [
      | inl w ↦
          let v = and_then_some w.2 in
          moved value_pieces tokens v.0.0 a v.0.1 rest v.2 (by_mark w.1 (by_integer v.1 over))
      | inr w ↦ absurd (not_some a tokens rest w.1)
    ]

value_leaves : (tokens rest : List Lexeme) → next_value tokens ≡ Some (None, rest) → rest ≡ tokens
unfolding next_value
value_leaves tokens rest e =
    elim (when_some e) [
      | inl w ↦
          let v = and_then_some w.2 in
          absurd (not_none v.0.0 v.0.1 rest v.2)
      | inr w ↦ same_rest {A = ℤ} tokens rest w.1
    ]

value_again : (tokens rest : List Lexeme) (a : ℤ) → Begins tokens (value_pieces a) rest → next_value tokens ≡ Some (Some a, rest)
unfolding next_value when and_then
value_again tokens rest a b =
    let m = mark_first b in
    let i = integer_first m.2 in
    rw (m.1, behind-cons Sign (codes ",") m.0, integer_at-starts i.1, begins_over i.2) refl

pub value_item : IsItem next_value value_pieces (λ _. ⊤)
value_item = record {
  takes = λ tokens rest a e. (value_takes tokens rest a e, tt);
  leaves = value_leaves;
  again = λ tokens rest a _ b. value_again tokens rest a b;
  some = λ a. omega arith;
}

-- ---- numbers up to a sign

abbrev pub values_pieces : List ℕ → List ℤ → List Piece
values_pieces close vs = listed vs ++ Mark close ∷ []

pub values_takes : (close : List ℕ) (tokens : List Lexeme) (x : List ℤ × List Lexeme) → values_at close tokens ≡ Some x → Begins tokens (values_pieces close x.0) x.1
unfolding values_at
values_takes close tokens x e =
    let Taken : List ℤ × List Lexeme → Type 0 = λ y. Begins tokens (values_pieces close y.0) y.1 in
    elim (when_some e) [
      | inl w ↦
          let made : List ℤ × List Lexeme = ([], w.0) in
          let taken : Taken made = by_mark w.1 over in
          subst Taken (same_Some made x w.2) taken
      | inr w ↦
          let first = and_then_some w.1 in
          let others = and_then_some first.2 in
          let last = and_then_some others.2 in
          let made : List ℤ × List Lexeme = (first.0.0 ∷ others.0.0, last.0) in
          let more = many_at_takes next_value value_pieces (λ _. ⊤) value_item first.0.1 others.0 others.1 in
          let taken : Taken made = by_integer first.1 (begins_then more.0 (by_mark last.1 over)) in
          subst Taken (same_Some made x last.2) taken
    ]

-- no other sign than `-` stands in front of a number
pub starts_no_mark : {tokens rest : List Lexeme} {z : ℤ} (text : List ℕ) → bytes_eq (codes "-") text ≡ false → Starts tokens z rest → mark_at text tokens ≡ None
unfolding behind token_at front_text and_then choose
starts_no_mark text other digits_first = refl
starts_no_mark text other minus_first = rw other refl

pub behind_other : (text other : List ℕ) (rest : List Lexeme) → bytes_eq text other ≡ false → mark_at other (sign text ∷ rest) ≡ None
unfolding behind token_at front_text and_then choose
behind_other text other rest e = rw e refl

value_stops : (text : List ℕ) (rest : List Lexeme) → bytes_eq text (codes ",") ≡ false → next_value (sign text ∷ rest) ≡ Some (None, sign text ∷ rest)
unfolding next_value when
value_stops text rest e = rw (behind_other text (codes ",") rest e) refl

pub values_again : (close : List ℕ) → bytes_eq (codes "-") close ≡ false → bytes_eq close (codes ",") ≡ false → (vs : List ℤ) (tokens rest : List Lexeme) → Begins tokens (values_pieces close vs) rest → values_at close tokens ≡ Some (vs, rest)
unfolding values_at when and_then
values_again close minus comma [] tokens rest b =
    let m = mark_first b in
    rw (m.1, behind-cons Sign close m.0, begins_over m.2) refl
values_again close minus comma (v ∷ vs) tokens rest b =
    let i = integer_first b in
    let s = begins_split (flat_map value_pieces vs) (Mark close ∷ []) i.2 in
    let m = mark_first s.2 in
    let stop : next_value s.0 ≡ Some (None, s.0) = rw m.1 (value_stops close m.0 comma) in
    let others = many_at_again next_value value_pieces (λ _. ⊤) value_item vs i.0 s.0 (all_fit vs) s.1 stop in
    rw (starts_no_mark close minus i.1, integer_at-starts i.1, others, m.1, behind-cons Sign close m.0, begins_over m.2) refl

-- ---- rows

abbrev pub HasWidth : ℕ → List ℤ → Type 0
HasWidth width row = length row ≡ width

row_takes : (width : ℕ) (tokens rest : List Lexeme) (a : List ℤ) → next_row width tokens ≡ Some (Some a, rest) → Begins tokens (in_parentheses a) rest × HasWidth width a
unfolding next_row
row_takes width tokens rest a e =
    elim (when_some e) [
      | inl w ↦
          let row = and_then_some w.2 in
          let fits = guard_some row.2 in
          let same = same_item row.0.0 a row.0.1 rest fits.1 in
          let taken = by_mark w.1 (values_takes (codes ")") w.0 row.0 row.1) in
          (moved in_parentheses tokens row.0.0 a row.0.1 rest fits.1 taken, sym (ap length same.0) ∙ eqb-true (length row.0.0) width fits.0)
      | inr w ↦ absurd (not_some a tokens rest w.1)
    ]

row_leaves : (width : ℕ) (tokens rest : List Lexeme) → next_row width tokens ≡ Some (None, rest) → rest ≡ tokens
unfolding next_row
row_leaves width tokens rest e =
    elim (when_some e) [
      | inl w ↦
          let row = and_then_some w.2 in
          absurd (not_none row.0.0 row.0.1 rest (guard_some row.2).1)
      | inr w ↦ same_rest {A = List ℤ} tokens rest w.1
    ]

row_again : (width : ℕ) (tokens rest : List Lexeme) (a : List ℤ) → HasWidth width a → Begins tokens (in_parentheses a) rest → next_row width tokens ≡ Some (Some a, rest)
unfolding next_row when and_then choose
row_again width tokens rest a fits b =
    let m = mark_first b in
    rw (m.1, behind-cons Sign (codes "(") m.0, values_again (codes ")") refl refl a m.0 rest m.2, eq-eqb (length a) width fits) refl

pub row_item : (width : ℕ) → IsItem (next_row width) in_parentheses (HasWidth width)
row_item width = record {
  takes = row_takes width;
  leaves = row_leaves width;
  again = row_again width;
  some = λ a. omega arith;
}

-- ---- terms

pub term_takes : (minus : Bool) (tokens : List Lexeme) (x : TermForm × List Lexeme) → linear_term_at minus tokens ≡ Some x → Begins tokens (linear_unsigned_term x.0.factor x.0.name) x.1 × (x.0.minus ≡ minus)
unfolding linear_term_at
term_takes minus tokens x e =
    let Taken : TermForm × List Lexeme → Type 0 = λ y. Begins tokens (linear_unsigned_term y.0.factor y.0.name) y.1 × (y.0.minus ≡ minus) in
    elim (when_some e) [
      | inl w ↦
          let rest = and_then_some w.2 in
          let name = and_then_some rest.2 in
          let made : TermForm × List Lexeme = (record { minus = minus; factor = Some (digits_number w.0.0); name = name.0.0 }, name.0.1) in
          let taken : Taken made = (by_digits w.1 (by_mark rest.1 (by_name name.1 over)), refl) in
          subst Taken (same_Some made x name.2) taken
      | inr w ↦
          let name = and_then_some w.1 in
          let made : TermForm × List Lexeme = (record { minus = minus; factor = None; name = name.0.0 }, name.0.1) in
          let taken : Taken made = (by_name name.1 over, refl) in
          subst Taken (same_Some made x name.2) taken
    ]

no_digits : (w : List ℕ) (rest : List Lexeme) → token_at Digits (word w ∷ rest) ≡ None
unfolding token_at front_text and_then choose
no_digits w rest = refl

pub term_again : (minus : Bool) (factor : Option ℕ) (name : List ℕ) (tokens rest : List Lexeme) → Begins tokens (linear_unsigned_term factor name) rest → linear_term_at minus tokens ≡ Some (record { minus = minus; factor = factor; name = name }, rest)
unfolding linear_term_at when and_then
term_again minus None name tokens rest b =
    let n = name_first b in
    rw (n.1, no_digits name n.0, name_at-cons name n.0 n.2, begins_over n.3) refl
term_again minus (Some k) name tokens rest b =
    let d = natural_first b in
    let m = mark_first d.4 in
    let n = name_first m.2 in
    let made : ℕ → TermForm × List Lexeme = λ c. (record { minus = minus; factor = Some c; name = name }, rest) in
    rw (d.2, token_at-cons Digits d.0 d.1, m.1, behind-cons Sign (codes "*") m.0, n.1, name_at-cons name n.0 n.2, begins_over n.3) (ap (λ c. Some (made c)) (sym d.3))

abbrev pub term_pieces : TermForm → List Piece
term_pieces t = linear_later_term t.minus (linear_unsigned_term t.factor t.name)

-- a term behind its sign
signed_term : (minus : Bool) (tokens rest : List Lexeme) (t : TermForm) → Begins tokens (linear_later_term minus (linear_unsigned_term t.factor t.name)) rest → t.minus ≡ minus → Begins tokens (term_pieces t) rest
signed_term minus tokens rest t b e = rw e b

linear_next_term_takes : (tokens rest : List Lexeme) (a : TermForm) → linear_next_term tokens ≡ Some (Some a, rest) → Begins tokens (term_pieces a) rest
unfolding linear_next_term
linear_next_term_takes tokens rest a e =
    elim (when_some e) [
      | inl w ↦
          let t = and_then_some w.2 in
          let taken = term_takes false w.0 t.0 t.1 in
          moved term_pieces tokens t.0.0 a t.0.1 rest t.2 (signed_term false tokens t.0.1 t.0.0 (by_mark w.1 taken.0) taken.1)
      | inr v ↦ elim (when_some v.1) [
        | inl w ↦
            let t = and_then_some w.2 in
            let taken = term_takes true w.0 t.0 t.1 in
            moved term_pieces tokens t.0.0 a t.0.1 rest t.2 (signed_term true tokens t.0.1 t.0.0 (by_mark w.1 taken.0) taken.1)
        | inr w ↦ absurd (not_some a tokens rest w.1)
      ]
    ]

linear_next_term_leaves : (tokens rest : List Lexeme) → linear_next_term tokens ≡ Some (None, rest) → rest ≡ tokens
unfolding linear_next_term
linear_next_term_leaves tokens rest e =
    elim (when_some e) [
      | inl w ↦
          let t = and_then_some w.2 in
          absurd (not_none t.0.0 t.0.1 rest t.2)
      | inr v ↦ elim (when_some v.1) [
        | inl w ↦
            let t = and_then_some w.2 in
            absurd (not_none t.0.0 t.0.1 rest t.2)
        | inr w ↦ same_rest {A = TermForm} tokens rest w.1
      ]
    ]

linear_next_term_again : (minus : Bool) (factor : Option ℕ) (name : List ℕ) (tokens rest : List Lexeme) → Begins tokens (linear_later_term minus (linear_unsigned_term factor name)) rest → linear_next_term tokens ≡ Some (Some (record { minus = minus; factor = factor; name = name }), rest)
unfolding linear_next_term when and_then
linear_next_term_again false factor name tokens rest b =
    let m = mark_first b in
    rw (m.1, behind-cons Sign (codes "+") m.0, term_again false factor name m.0 rest m.2) refl
linear_next_term_again true factor name tokens rest b =
    let m = mark_first b in
    rw (m.1, behind_other (codes "-") (codes "+") m.0 refl, behind-cons Sign (codes "-") m.0, term_again true factor name m.0 rest m.2) refl

later_some : (minus : Bool) (ps : List Piece) → 0 < length (linear_later_term minus ps)
later_some false ps = omega arith
later_some true ps = omega arith

pub term_item : IsItem linear_next_term term_pieces (λ _. ⊤)
term_item = record {
  takes = λ tokens rest a e. (linear_next_term_takes tokens rest a e, tt);
  leaves = linear_next_term_leaves;
  again = λ tokens rest a _ b. linear_next_term_again a.minus a.factor a.name tokens rest b;
  some = λ a. later_some a.minus (linear_unsigned_term a.factor a.name);
}
