-- Every line that is read keeps to the limits of names, numbers and lists.
use Rattle.std.proofs.Common.{inl, inr, ◌≡◌, ℕ, ℤ, pos, zero, suc, ◌<◌, Bool, true, false, ◌||◌, cond, List, [], ◌∷◌, ◌++◌, length, take, drop, map, codes, All, refl, sym, ap, ◌∙◌, subst, arith}
use Rattle.std.specs.Prelude.{Any, ◌<ℤ◌, IfOk, Result, Ok, Err}
use Rattle.std.specs.List.{AllByRecursion}
use Rattle.std.proofs.lemmas.Int.{by_lt_z}
use Rattle.std.proofs.lemmas.List.Elements.{All-nil, All-cons, All-head, All-tail}
use Rattle.palm_model.specs.Domains.{Ascends}
use Rattle.palm_model.specs.Limits.{IsUpTo, IsValue}
use Rattle.palm_model.specs.Table.{IsRow}
use Rattle.palm_read.specs.Bytes.{is_letter, is_digit, is_word_byte, after_blanks}
use Rattle.palm_read.specs.Token.{Lexeme, kind_at, more_at, lexeme_at, front_tokens, tokens_of, begins_long_sign, is_sign}
use Rattle.palm_read.specs.declared.tokens.TokenKind.TheVariants.{Word, Digits, Sign, Other}
use Rattle.palm_read.specs.Domain.{DomainForm, Interval, Members, domain_pieces, set_of, domain_of, IsSoundDomain}
use Rattle.palm_read.specs.Form.{ShapeForm, CompareVarForm, CompareConstForm, LinearForm, TableForm, ElementForm, CountForm, DifferForm, WithinForm, Form, DeclareForm, DeclareInForm, AddForm}
use Rattle.palm_read.specs.Linear.{TermForm, term_of, IsSoundTerm}
use Rattle.palm_read.specs.Grammar.{shape_pieces, IsForm, IsProperShape}
use Rattle.palm_read.specs.Name.{IsName, IsNameText}
use Rattle.palm_read.specs.Piece.{Piece, Keyword, Named, Mark, word, Spells}
use Rattle.palm_read.specs.Reading.{shape_of, line_of, IsRead, IsReadAs, a_comment, a_form}
use Rattle.palm_read.specs.Limits.{HasNoValue, HasNothing, HasRepeat, IsDomainInRange, IsInRange, IsShapeInRange}
use Rattle.palm_read.specs.Sound.{IsSoundShape, IsSound}
use Rattle.palm_read.specs.declared.line.NameTerm.{NameTerm}
use Rattle.palm_read.specs.declared.line.Line.{Line}
use Rattle.palm_read.specs.declared.mode.Mode.{Mode}
use Rattle.palm_read.specs.declared.parse.LineError.{LineError}
use Rattle.palm_read.proofs.cited.TokenLemmas.{take-prefix_len}
use Rattle.palm_read.proofs.cited.Sets.{Rises, rises_set}
use Rattle.palm_read.proofs.Refusals.{any_here, any_there}

-- ---- a name that is read is a letter and what goes on a word

abbrev pub IsWordText : List ℕ → Type 0
IsWordText [] = ⊥
IsWordText (b ∷ bytes) = (is_letter b ≡ true) × All (λ c. is_word_byte c ≡ true) bytes

abbrev pub IsWordy : Lexeme → Type 0
IsWordy l = l.kind ≡ Word → IsWordText l.text

word_pick : (letter digit sign : Bool) → cond letter Word (cond digit Digits (cond sign Sign Other)) ≡ Word → letter ≡ true
word_pick true digit sign e = refl
word_pick false true sign e = cc
word_pick false false true e = cc
word_pick false false false e = cc

pub word_letter : (b : ℕ) (bs : List ℕ) → kind_at b bs ≡ Word → is_letter b ≡ true
unfolding kind_at
word_letter b bs e = word_pick (is_letter b) (is_digit b) (begins_long_sign b bs || is_sign b) e

word_more : (b : ℕ) (bs : List ℕ) → is_letter b ≡ true → All (λ c. is_word_byte c ≡ true) (take (more_at b bs) bs)
unfolding more_at
word_more b bs e = rw e (take-prefix_len is_word_byte bs)

wordy_first : (b : ℕ) (bs : List ℕ) → IsWordy (lexeme_at b bs)
unfolding lexeme_at
wordy_first b bs k = let e = word_letter b bs k in (e, word_more b bs e)

wordy_front : (n : ℕ) (bs : List ℕ) → All IsWordy (front_tokens n bs)
wordy_front n [] = All-nil IsWordy
wordy_front zero (b ∷ bs) = All-nil IsWordy
wordy_front (suc n) (b ∷ bs) = All-cons IsWordy (lexeme_at b bs) _ (wordy_first b bs) (wordy_front n (after_blanks (drop (more_at b bs) bs)))

pub wordy_tokens : (bytes : List ℕ) → All IsWordy (tokens_of bytes)
unfolding tokens_of
wordy_tokens bytes = wordy_front (length bytes) (after_blanks bytes)

pub name_text : (name : List ℕ) → IsWordText name → IsName name → IsNameText name
name_text [] w n = absurd w
name_text (b ∷ bytes) w n = (w.0, w.1, n)

-- the name behind the first word of a form
named_text : (tokens : List Lexeme) (text name : List ℕ) (more : List Piece) → All IsWordy tokens → Spells tokens (Keyword text ∷ Named name ∷ more) → IsNameText name
named_text tokens text name more wordy s =
    let second : tokens ≡ word text ∷ word name ∷ s.4.1 = s.2 ∙ ap (λ l. l ++ s.1) s.3 ∙ ap (λ l. word text ∷ l) (s.4.2 ∙ ap (λ l. l ++ s.4.1) s.4.3.0) in
    let all : All IsWordy (word text ∷ word name ∷ s.4.1) = subst (All IsWordy) second wordy in
    name_text name (All-head IsWordy (word name) s.4.1 (All-tail IsWordy (word text) (word name ∷ s.4.1) all) refl) s.4.3.1

-- ---- domains

some_length : {X : Type 0} (xs : List X) → (xs ≡ [] → ⊥) → 0 < length xs
some_length [] none = absurd (none refl)
some_length (x ∷ xs) none = omega arith

all_above : (v : ℤ) (ws : List ℤ) → AllByRecursion (λ w. v <ℤ w) ws → All (λ w. v <ℤ w) ws
all_above v [] h = All-nil (λ w. v <ℤ w)
all_above v (w ∷ ws) h = All-cons (λ u. v <ℤ u) w ws h.0 (all_above v ws h.1)

ascends : (vs : List ℤ) → Rises vs → Ascends vs
ascends [] r = tt
ascends (v ∷ vs) r = (all_above v vs r.0, ascends vs r.1)

sound_domain : (d : DomainForm) → IsDomainInRange (domain_of d) → (HasNoValue (domain_of d) → ⊥) → IsSoundDomain (domain_of d)
sound_domain (Interval low high) h none = (h.0, h.1, by_lt_z high low (λ l. absurd (none l)) (λ l. l))
sound_domain (Members vs) h none = (some_length (set_of vs) none, ascends (set_of vs) (rises_set vs), h)

-- ---- constraints

sound_terms : (ts : List NameTerm) → All (λ t. IsUpTo 100000 t.factor) ts → (Any (λ t. t.factor ≡ pos 0) ts → ⊥) → All IsSoundTerm ts
sound_terms [] h none = All-nil IsSoundTerm
sound_terms (t ∷ ts) h none =
    All-cons IsSoundTerm t ts (λ e. none (any_here (λ u. u.factor ≡ pos 0) t ts e), All-head (λ u. IsUpTo 100000 u.factor) t ts h)
    (sound_terms ts (All-tail (λ u. IsUpTo 100000 u.factor) t ts h) (λ a. none (any_there (λ u. u.factor ≡ pos 0) t ts a)))

sound_rows : (n : ℕ) (rows : List (List ℤ)) → All (All IsValue) rows → All (λ row. length row ≡ n) rows → All (IsRow n) rows
sound_rows n [] h l = All-nil (IsRow n)
sound_rows n (row ∷ rows) h l =
    All-cons (IsRow n) row rows (All-head (λ r. length r ≡ n) row rows l, All-head (All IsValue) row rows h)
    (sound_rows n rows (All-tail (All IsValue) row rows h) (All-tail (λ r. length r ≡ n) row rows l))

some_terms : (ts : List TermForm) → 0 < length ts → 0 < length (map term_of ts)
some_terms [] h = h
some_terms (t ∷ ts) h = omega arith

sound_shape : (name : List ℕ) (s : ShapeForm) → IsShapeInRange (shape_of s) → IsProperShape s → (HasNothing (line_of (AddForm name s)) → ⊥) → IsSoundShape (shape_of s)
sound_shape name (CompareVarForm left op right k) h p none = h
sound_shape name (CompareConstForm left op v) h p none = h
sound_shape name (LinearForm ts op b) h p none = (some_terms ts p.0, sound_terms (map term_of ts) h.0 none, p.1, h.1)
sound_shape name (TableForm vars rows) h p none = (p.0, some_length rows none, sound_rows (length vars) rows h p.1)
sound_shape name (ElementForm outcome index entries) h p none = (some_length entries none, h)
sound_shape name (CountForm v vars op t) h p none = (p, h.0, h.1)
sound_shape name (DifferForm vars) h p none = p
sound_shape name (WithinForm var domain) h p none = sound_domain domain h none

-- ---- lines

sound_form : (bytes : List ℕ) (form : Form) → IsForm (tokens_of bytes) form → IsInRange (line_of form) → (HasNothing (line_of form) → ⊥) → (HasRepeat (line_of form) → ⊥) → IsSound (line_of form)
sound_form bytes (DeclareForm name domain) f h none once =
    (named_text (tokens_of bytes) (codes "var") name (domain_pieces domain) (wordy_tokens bytes) f.spells, sound_domain domain h none)
sound_form bytes (DeclareInForm name universe domain) f h none once =
    (named_text (tokens_of bytes) (codes "var") name (domain_pieces universe ++ Keyword (codes "in") ∷ domain_pieces domain) (wordy_tokens bytes) f.spells, sound_domain universe h.0 (λ l. none (inl l)), sound_domain domain h.1 (λ r. none (inr r)))
sound_form bytes (AddForm name shape) f h none once =
    (named_text (tokens_of bytes) (codes "add") name (Mark (codes ":") ∷ shape_pieces shape) (wordy_tokens bytes) f.spells, once, sound_shape name shape h f.proper none)
sound_form bytes _ f h none once = tt

pub read_sound : (mode : Mode) (bytes : List ℕ) (line : Line) → IsRead mode bytes line → IsSound line
read_sound mode bytes line (a_comment c) = tt
read_sound mode bytes line (a_form form p f allowed r none once e) =
    subst IsSound (sym e) (sound_form bytes form f r none once)

pub sound_answer : (mode : Mode) (bytes : List ℕ) (result : Result Line LineError) → IsReadAs mode bytes result → IfOk result IsSound
sound_answer mode bytes (Ok line) r = read_sound mode bytes line r
sound_answer mode bytes (Err error) r = tt
