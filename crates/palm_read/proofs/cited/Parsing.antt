-- What reading a line answers: the line, or the first refusal; and no line has two answers.
use Rattle.std.proofs.Common.{◌≡◌, ◌↔◌, ℕ, ◌+◌, ◌<◌, ◌≤◌, Bool, true, false, Option, Some, None, Result, Ok, Err, List, [], ◌∷◌, length, get_or, drop, All, refl, sym, ap, ◌∙◌, subst, arith, inl, inr, ◌⊎◌, nat_lt, nat_eq}
use Rattle.std.specs.List.{prefix_len}
use Rattle.std.proofs.lemmas.Bool.{cases_lt, ltb-true, ltb-false, false≢true}
use Rattle.std.proofs.lemmas.List.{drop_all, drop_more}
use Rattle.std.proofs.lemmas.List.Elements.{All-nil, All-cons, All-head, All-tail}
use Rattle.std.proofs.lemmas.Option.{none-some}
use Rattle.palm_read.specs.declared.line.Line.{Line}
use Rattle.palm_read.specs.declared.line.Line.TheVariants.{Comment, Header, VarIn, Add, Prove, Minimize, Prefer, PreferNone, Preferred}
use Rattle.palm_read.specs.declared.line.Shape.TheVariants.{Within}
use Rattle.palm_read.specs.declared.parse.LineError.{LineError}
use Rattle.palm_read.specs.declared.parse.LineError.TheVariants.{Bytes, Form as NoForm, Range as OutOfRange, Empty, Repeated, NoMemory}
use Rattle.palm_read.specs.Bytes.{is_blank, after_blanks, is_note, IsComment, is_plain, IsPlain}
use Rattle.palm_read.specs.Token.{tokens_of}
use Rattle.palm_read.specs.Form.{ShapeForm, WithinForm, Form, AddForm}
use Rattle.palm_read.specs.Grammar.{IsForm}
use Rattle.palm_read.specs.Limits.{IsInRange, HasNothing, HasRepeat}
use Rattle.palm_read.specs.Modes.{Allows, AllowsShape}
use Rattle.palm_read.specs.declared.mode.Mode.{Mode}
use Rattle.palm_read.specs.declared.mode.Mode.TheVariants.{First, One, Two}
use Rattle.palm_read.specs.Reader.Checks.{PassesChecks}
use Rattle.palm_read.specs.Reading.{shape_of, line_of, IsRead, a_comment, a_form, HasBadBytes, IsRefusedBy, IsReadAs}
use Rattle.palm_read.specs.Reader.Lines.{form_at}
use Rattle.palm_read.specs.Reader.Held.{HoldsAll, GivesAll, held_shape, held_line}
use Rattle.palm_read.proofs.cited.TokenLemmas.{drop-blanks}
use Rattle.palm_read.proofs.cited.LineForms.{form_takes, form_again, one_form}
use Rattle.palm_read.proofs.Ranges.{same_form, line_in, in_line, range_decided}
use Rattle.palm_read.proofs.Refusals.{nothing_decided, repeat_decided}

-- ---- the first byte behind the blanks

pub note_at_end : (bytes : List ℕ) (n : ℕ) → n ≡ prefix_len is_blank bytes → false ≡ nat_lt n (length bytes) → true ≡ is_note (after_blanks bytes)
note_at_end bytes n e past =
    let none : after_blanks bytes ≡ [] = sym (drop-blanks bytes) ∙ ap (λ k. drop k bytes) (sym e) ∙ drop_all n bytes (ltb-false n (length bytes) (sym past)) in
    ap is_note (sym none)

pub note_at : (bytes : List ℕ) (n b : ℕ) → n ≡ prefix_len is_blank bytes → true ≡ nat_lt n (length bytes) → b ≡ get_or bytes n b → nat_eq b 35 ≡ is_note (after_blanks bytes)
note_at bytes n b e within read =
    let lt = ltb-true n (length bytes) (sym within) in
    let some : after_blanks bytes ≡ get_or bytes n b ∷ drop (n + 1) bytes = sym (drop-blanks bytes) ∙ ap (λ k. drop k bytes) (sym e) ∙ drop_more bytes n b lt in
    ap (λ c. nat_eq c 35) read ∙ ap is_note (sym some)

-- ---- what is answered

pub comment_read : (mode : Mode) (bytes : List ℕ) → length bytes ≤ 65536 → is_note (after_blanks bytes) ≡ true → IsRead mode bytes Comment
comment_read mode bytes short note = a_comment (record { short = short; note = note })

pub long_refused : (bytes : List ℕ) → 65536 < length bytes → HasBadBytes bytes
long_refused bytes long = record { no_comment = λ c. absurd (omega (arith, c.short)); not_plain = λ p. absurd (omega (arith, p.short)) }

pub odd_refused : (bytes : List ℕ) → is_note (after_blanks bytes) ≡ false → (All (λ b. is_plain b ≡ true) bytes → ⊥) → HasBadBytes bytes
odd_refused bytes says odd = record { no_comment = λ c. false≢true (sym says ∙ c.note); not_plain = λ p. odd p.plain }

pub no_form_refused : (mode : Mode) (bytes : List ℕ) → IsPlain bytes → form_at (tokens_of bytes) ≡ None → IsRefusedBy mode bytes NoForm
no_form_refused mode bytes plain none = (plain, λ form is allowed. none-some form (sym none ∙ form_again (tokens_of bytes) form is))

pub no_form_held : (bytes : List ℕ) (error : LineError) → error ≡ NoForm → GivesAll held_line (Err error) (form_at (tokens_of bytes)) → form_at (tokens_of bytes) ≡ None
no_form_held bytes error is gives = subst (λ (e : LineError). GivesAll held_line (Err e) (form_at (tokens_of bytes))) is gives

-- no form fits: for odd bytes, or for the tokens
pub formless : (mode : Mode) (bytes : List ℕ) (error : LineError) → length bytes ≤ 65536 → is_note (after_blanks bytes) ≡ false → form_at (tokens_of bytes) ≡ None → (error ≡ NoForm → All (λ b. is_plain b ≡ true) bytes) → (error ≡ Bytes → All (λ b. is_plain b ≡ true) bytes → ⊥) → ((error ≡ NoForm) ⊎ (error ≡ Bytes)) → IsRefusedBy mode bytes error
formless mode bytes error short says none plain odd (inl is) =
    subst (IsRefusedBy mode bytes) (sym is) (no_form_refused mode bytes (record { short = short; says = says; plain = plain is }) none)
formless mode bytes error short says none plain odd (inr is) = subst (IsRefusedBy mode bytes) (sym is) (odd_refused bytes says (odd is))

-- whether a mode allows a line is seen from what is held
allows_shape : (mode : Mode) (shape : ShapeForm) → AllowsShape mode (shape_of (held_shape shape)) ↔ AllowsShape mode (shape_of shape)
allows_shape mode (WithinForm var domain) = (λ a. a, λ a. a)
allows_shape mode _ = (λ a. a, λ a. a)

allows_held : (mode : Mode) (form : Form) → Allows mode (held_line form) ↔ Allows mode (line_of form)
allows_held mode (AddForm name shape) = allows_shape mode shape
allows_held mode _ = (λ a. a, λ a. a)

module _ (mode : Mode) (bytes : List ℕ) (line : Line) (plain : IsPlain bytes) (h : HoldsAll held_line line (form_at (tokens_of bytes))) where
  held_form_is : IsForm (tokens_of bytes) h.form
  held_form_is = form_takes (tokens_of bytes) h.form h.read

  held_allowed : Allows mode line → Allows mode (line_of h.form)
  held_allowed a = (allows_held mode h.form).0 (subst (Allows mode) h.is a)

  held_range : IsInRange line → IsInRange (line_of h.form)
  held_range range = in_line h.form (subst IsInRange h.is range)

  held_same : IsInRange line → line ≡ line_of h.form
  held_same range = h.is ∙ ap line_of (same_form h.form (held_range range))

  not_allowed : (Allows mode line → ⊥) → (form : Form) → IsForm (tokens_of bytes) form → Allows mode (line_of form) → ⊥
  not_allowed odd form is allowed =
      let same = one_form (tokens_of bytes) form h.form is held_form_is in
      odd (subst (Allows mode) (sym h.is) ((allows_held mode h.form).1 (subst (λ f. Allows mode (line_of f)) same allowed)))

  pub answered : (result : Result Line LineError) → PassesChecks mode line result → IsReadAs mode bytes result
  answered (Ok kept) k =
      let same = held_same k.2 in
      a_form h.form plain held_form_is (held_allowed k.1) (held_range k.2)
      (λ n. k.3 (subst HasNothing (sym same) n))
      (λ r. k.4 (subst HasRepeat (sym same) r))
      (k.0 ∙ same)
  answered (Err NoForm) k = (plain, not_allowed k)
  answered (Err OutOfRange) k =
      elim (range_decided h.form) [
        | inl range ↦ absurd (k.1 (subst IsInRange (sym h.is) (line_in h.form range)))
        | inr out ↦ (plain, h.form, held_form_is, held_allowed k.0, out)
      ]
  answered (Err Empty) k =
      (plain, h.form, held_form_is, held_allowed k.0, held_range k.1, subst HasNothing (held_same k.1) k.2)
  answered (Err Repeated) k =
      let same = held_same k.1 in
      (plain, h.form, held_form_is, held_allowed k.0, held_range k.1, λ n. k.2 (subst HasNothing (sym same) n), subst HasRepeat same k.3)
  answered (Err NoMemory) k = tt
  answered (Err Bytes) k = absurd k

-- ---- no line has two answers

comment_not_plain : (bytes : List ℕ) → IsComment bytes → IsPlain bytes → ⊥
comment_not_plain bytes c p = false≢true (sym p.says ∙ c.note)

abbrev RangeIn : Form → Type 0
RangeIn form = IsInRange (line_of form)

abbrev NothingIn : Form → Type 0
NothingIn form = HasNothing (line_of form)

abbrev RepeatIn : Form → Type 0
RepeatIn form = HasRepeat (line_of form)

same_forms : (bytes : List ℕ) (f g : Form) → IsForm (tokens_of bytes) f → IsForm (tokens_of bytes) g → f ≡ g
same_forms bytes f g h k = one_form (tokens_of bytes) f g h k

-- not even in two modes
pub one_reading : (m n : Mode) (bytes : List ℕ) (a b : Line) → IsRead m bytes a → IsRead n bytes b → a ≡ b
one_reading m n bytes a b (a_comment c) (a_comment d) = refl
one_reading m n bytes a b (a_comment c) (a_form g p h l r o t e) = absurd (comment_not_plain bytes c p)
one_reading m n bytes a b (a_form f p h l r o t e) (a_comment c) = absurd (comment_not_plain bytes c p)
one_reading m n bytes a b (a_form f p h l r o t e) (a_form g q k j s i u d) = e ∙ ap line_of (same_forms bytes f g h k) ∙ sym d

pub read_not_refused : (mode : Mode) (bytes : List ℕ) (line : Line) (error : LineError) → IsRead mode bytes line → IsRefusedBy mode bytes error → error ≡ NoMemory
read_not_refused mode bytes line Bytes (a_comment c) r = absurd (r.no_comment c)
read_not_refused mode bytes line NoForm (a_comment c) r = absurd (comment_not_plain bytes c r.0)
read_not_refused mode bytes line OutOfRange (a_comment c) r = absurd (comment_not_plain bytes c r.0)
read_not_refused mode bytes line Empty (a_comment c) r = absurd (comment_not_plain bytes c r.0)
read_not_refused mode bytes line Repeated (a_comment c) r = absurd (comment_not_plain bytes c r.0)
read_not_refused mode bytes line NoMemory (a_comment c) r = refl
read_not_refused mode bytes line Bytes (a_form f p h l i n t e) r = absurd (r.not_plain p)
read_not_refused mode bytes line NoForm (a_form f p h l i n t e) r = absurd (r.1 f h l)
read_not_refused mode bytes line OutOfRange (a_form f p h l i n t e) r = absurd (r.4 (subst RangeIn (same_forms bytes f r.1 h r.2) i))
read_not_refused mode bytes line Empty (a_form f p h l i n t e) r = absurd (n (subst NothingIn (same_forms bytes r.1 f r.2 h) r.5))
read_not_refused mode bytes line Repeated (a_form f p h l i n t e) r = absurd (t (subst RepeatIn (same_forms bytes r.1 f r.2 h) r.6))
read_not_refused mode bytes line NoMemory (a_form f p h l i n t e) r = refl

pub one_refusal : (mode : Mode) (bytes : List ℕ) (d e : LineError) → IsRefusedBy mode bytes d → IsRefusedBy mode bytes e → (d ≡ NoMemory → ⊥) → (e ≡ NoMemory → ⊥) → d ≡ e
one_refusal mode bytes Bytes Bytes r s m n = refl
one_refusal mode bytes Bytes NoForm r s m n = absurd (r.not_plain s.0)
one_refusal mode bytes Bytes OutOfRange r s m n = absurd (r.not_plain s.0)
one_refusal mode bytes Bytes Empty r s m n = absurd (r.not_plain s.0)
one_refusal mode bytes Bytes Repeated r s m n = absurd (r.not_plain s.0)
one_refusal mode bytes Bytes NoMemory r s m n = absurd (n refl)
one_refusal mode bytes NoForm Bytes r s m n = absurd (s.not_plain r.0)
one_refusal mode bytes NoForm NoForm r s m n = refl
one_refusal mode bytes NoForm OutOfRange r s m n = absurd (r.1 s.1 s.2 s.3)
one_refusal mode bytes NoForm Empty r s m n = absurd (r.1 s.1 s.2 s.3)
one_refusal mode bytes NoForm Repeated r s m n = absurd (r.1 s.1 s.2 s.3)
one_refusal mode bytes NoForm NoMemory r s m n = absurd (n refl)
one_refusal mode bytes OutOfRange Bytes r s m n = absurd (s.not_plain r.0)
one_refusal mode bytes OutOfRange NoForm r s m n = absurd (s.1 r.1 r.2 r.3)
one_refusal mode bytes OutOfRange OutOfRange r s m n = refl
one_refusal mode bytes OutOfRange Empty r s m n = absurd (r.4 (subst RangeIn (same_forms bytes s.1 r.1 s.2 r.2) s.4))
one_refusal mode bytes OutOfRange Repeated r s m n = absurd (r.4 (subst RangeIn (same_forms bytes s.1 r.1 s.2 r.2) s.4))
one_refusal mode bytes OutOfRange NoMemory r s m n = absurd (n refl)
one_refusal mode bytes Empty Bytes r s m n = absurd (s.not_plain r.0)
one_refusal mode bytes Empty NoForm r s m n = absurd (s.1 r.1 r.2 r.3)
one_refusal mode bytes Empty OutOfRange r s m n = absurd (s.4 (subst RangeIn (same_forms bytes r.1 s.1 r.2 s.2) r.4))
one_refusal mode bytes Empty Empty r s m n = refl
one_refusal mode bytes Empty Repeated r s m n = absurd (s.5 (subst NothingIn (same_forms bytes r.1 s.1 r.2 s.2) r.5))
one_refusal mode bytes Empty NoMemory r s m n = absurd (n refl)
one_refusal mode bytes Repeated Bytes r s m n = absurd (s.not_plain r.0)
one_refusal mode bytes Repeated NoForm r s m n = absurd (s.1 r.1 r.2 r.3)
one_refusal mode bytes Repeated OutOfRange r s m n = absurd (s.4 (subst RangeIn (same_forms bytes r.1 s.1 r.2 s.2) r.4))
one_refusal mode bytes Repeated Empty r s m n = absurd (r.5 (subst NothingIn (same_forms bytes s.1 r.1 s.2 r.2) s.5))
one_refusal mode bytes Repeated Repeated r s m n = refl
one_refusal mode bytes Repeated NoMemory r s m n = absurd (n refl)
one_refusal mode bytes NoMemory e r s m n = absurd (m refl)

-- ---- each line has an answer

plain_decided : (bytes : List ℕ) → All (λ b. is_plain b ≡ true) bytes ⊎ (All (λ b. is_plain b ≡ true) bytes → ⊥)
plain_decided [] = inl (All-nil (λ b. is_plain b ≡ true))
plain_decided (b ∷ bs) = go (is_plain b) refl (plain_decided bs)
  where
    go : (t : Bool) → is_plain b ≡ t → All (λ c. is_plain c ≡ true) bs ⊎ (All (λ c. is_plain c ≡ true) bs → ⊥) → All (λ c. is_plain c ≡ true) (b ∷ bs) ⊎ (All (λ c. is_plain c ≡ true) (b ∷ bs) → ⊥)
    go true e (inl all) = inl (All-cons (λ c. is_plain c ≡ true) b bs e all)
    go true e (inr odd) = inr (λ all. odd (All-tail (λ c. is_plain c ≡ true) b bs all))
    go false e rest = inr (λ all. false≢true (sym e ∙ All-head (λ c. is_plain c ≡ true) b bs all))

abbrev Refusal : Mode → List ℕ → Type 0
Refusal mode bytes = (error : LineError) × (error ≡ NoMemory → ⊥) × IsRefusedBy mode bytes error

abbrev Answer : Mode → List ℕ → Type 0
Answer mode bytes = ((line : Line) × IsRead mode bytes line) ⊎ Refusal mode bytes

first_decided : (mode : Mode) → (mode ≡ First) ⊎ (mode ≡ First → ⊥)
first_decided First = inl refl
first_decided One = inr (λ e. cc)
first_decided Two = inr (λ e. cc)

two_decided : (mode : Mode) → (mode ≡ Two) ⊎ (mode ≡ Two → ⊥)
two_decided First = inr (λ e. cc)
two_decided One = inr (λ e. cc)
two_decided Two = inl refl

allowed_decided : (mode : Mode) (line : Line) → Allows mode line ⊎ (Allows mode line → ⊥)
allowed_decided mode Header = first_decided mode
allowed_decided mode (VarIn name universe domain) = two_decided mode
allowed_decided mode (Add name (Within var domain)) = two_decided mode
allowed_decided mode (Add name shape) = inl tt
allowed_decided mode (Prove budget) = two_decided mode
allowed_decided mode (Minimize target budget) = two_decided mode
allowed_decided mode (Prefer name weight) = two_decided mode
allowed_decided mode (PreferNone name) = two_decided mode
allowed_decided mode Preferred = two_decided mode
allowed_decided mode _ = inl tt

module _ (mode : Mode) (bytes : List ℕ) (plain : IsPlain bytes) where
  answer_allowed : (form : Form) → IsForm (tokens_of bytes) form → Allows mode (line_of form) → Answer mode bytes
  answer_allowed form is allowed =
      elim (range_decided form) [
        | inr out ↦ inr (OutOfRange, λ e. cc, (plain, form, is, allowed, out))
        | inl range ↦ elim (nothing_decided (line_of form)) [
          | inl none ↦ inr (Empty, λ e. cc, (plain, form, is, allowed, range, none))
          | inr some ↦ elim (repeat_decided (line_of form)) [
            | inl twice ↦ inr (Repeated, λ e. cc, (plain, form, is, allowed, range, some, twice))
            | inr apart ↦ inl (line_of form, a_form form plain is allowed range some apart refl)
          ]
        ]
      ]

  answer_form : (form : Form) → IsForm (tokens_of bytes) form → Answer mode bytes
  answer_form form is =
      elim (allowed_decided mode (line_of form)) [
        | inl allowed ↦ answer_allowed form is allowed
        | inr odd ↦ inr (NoForm, λ e. cc, (plain, λ other it a. odd (subst (λ f. Allows mode (line_of f)) (same_forms bytes other form it is) a)))
      ]

  answer_plain : Answer mode bytes
  answer_plain = go (form_at (tokens_of bytes)) refl
    where
      go : (reading : Option Form) → form_at (tokens_of bytes) ≡ reading → Answer mode bytes
      go None e = inr (NoForm, λ e. cc, no_form_refused mode bytes plain e)
      go (Some form) e = answer_form form (form_takes (tokens_of bytes) form e)

pub each_answered : (mode : Mode) (bytes : List ℕ) → Answer mode bytes
each_answered mode bytes =
    elim (cases_lt 65536 (length bytes)) [
      | inl long ↦ inr (Bytes, λ e. cc, long_refused bytes long)
      | inr short ↦ go (is_note (after_blanks bytes)) refl short (plain_decided bytes)
    ]
  where
    go : (t : Bool) → is_note (after_blanks bytes) ≡ t → length bytes ≤ 65536 → All (λ b. is_plain b ≡ true) bytes ⊎ (All (λ b. is_plain b ≡ true) bytes → ⊥) → Answer mode bytes
    go true e short rest = inl (Comment, comment_read mode bytes short e)
    go false e short (inl plain) = answer_plain mode bytes (record { short = short; says = e; plain = plain })
    go false e short (inr odd) = inr (Bytes, λ d. cc, odd_refused bytes e odd)
