-- What a line says, in any family of texts that list variables and constraints and have phrases of their own: the reader finds it,
-- and no line says two things.
use Rattle.std.proofs.Common.{◌≡◌, ℕ, ◌<◌, ◌≤◌, true, [], ◌∷◌, length, arith, Option, Some, None, List, refl, sym, ap, ◌∙◌, subst, inl, inr, ◌⊎◌}
use Rattle.std.proofs.lemmas.Bool.{cases_lt, false≢true}
use Rattle.std.proofs.lemmas.Option.{same_Some, none-some}
use Rattle.palm_read.specs.Bytes.{IsComment, IsPlain}
use Rattle.palm_read.specs.Grammar.{IsForm}
use Rattle.palm_read.specs.Piece.{Piece, Keyword, Spells, word}
use Rattle.palm_read.specs.Reader.Steps.{Reading, and_then, choose}
use Rattle.palm_read.specs.Reader.Lines.{form_at}
use Rattle.palm_read.specs.Form.{Form}
use Rattle.palm_read.specs.Reading.{IsRead, IsRefusedBy, a_comment, a_form, line_of}
use Rattle.palm_read.specs.Token.{Lexeme, tokens_of}
use Rattle.palm_read.specs.declared.line.Line.{Line}
use Rattle.palm_read.specs.declared.line.Line.TheVariants.{Comment as CommentLine, Var, Add, Relax}
use Rattle.palm_read.specs.Form.{RelaxForm}
use Rattle.palm_read.specs.declared.mode.Mode.TheVariants.{Two}
use Rattle.palm_read.specs.declared.parse.LineError.{LineError}
use Rattle.palm_read.specs.declared.parse.LineError.TheVariants.{NoMemory}
use Rattle.palm_read.proofs.cited.Begins.{Begins, begins_from_spells, keyword_first, spells_from_begins}
use Rattle.palm_read.proofs.cited.Front.{and_then_some, guard_some}
use Rattle.palm_read.proofs.cited.LineForms.{empty_is, form_again}
use Rattle.palm_read.proofs.cited.PlainTokens.{spelled_known, tokens_plain, word_says}
use Rattle.palm_read.proofs.cited.Parsing.{one_reading, read_not_refused, each_answered}
use Rattle.palm_claim.specs.Phrases.{ArePhrases, Phrases, Says, is_worded, of_line, phrase_of}
use Rattle.palm_claim.specs.declared.statement.Statement.{Statement}
use Rattle.palm_claim.specs.declared.statement.Statement.TheVariants.{Comment, Variable, Constraint, Phrase}

-- ---- the phrase of all tokens

-- what was taken of the tokens begins with its pieces, with its numbers in range; also cited by proofs
abbrev pub Taken : {A : Type 0} → (A → List Piece) → (A → Type 0) → List Lexeme → A × List Lexeme → Type 0
Taken pieces InRange tokens x = Begins tokens (pieces x.0) x.1 × InRange x.0

pub taken_as : {A : Type 0} (pieces : A → List Piece) (InRange : A → Type 0) (tokens : List Lexeme) (made x : A × List Lexeme)
    → ◌≡◌ {A = Reading A} (Some made) (Some x) → Taken pieces InRange tokens made → Taken pieces InRange tokens x
taken_as pieces InRange tokens made x e t = subst (Taken pieces InRange tokens) (same_Some made x e) t

-- phrases that are taken and read again by their pieces
pub by_pieces : {P : Type 0} (phrases : Phrases P)
    → ((tokens : List Lexeme) (x : P × List Lexeme) → phrases.phrase_at tokens ≡ Some x → Taken phrases.pieces phrases.AreInRange tokens x)
    → ((tokens : List Lexeme) (phrase : P) → Begins tokens (phrases.pieces phrase) [] → phrases.AreInRange phrase → phrases.phrase_at tokens ≡ Some (phrase, []))
    → ((phrase : P) → is_worded (phrases.pieces phrase) ≡ true)
    → ((tokens : List Lexeme) (phrase : P) → Begins tokens (phrases.pieces phrase) [] → form_at tokens ≡ None) → ArePhrases phrases
unfolding phrase_of and_then choose
by_pieces phrases takes again worded no_form = record {
  takes = λ tokens x e last.
      let t = takes tokens x e in
      (spells_from_begins (subst (λ rest. Begins tokens (phrases.pieces x.0) rest) (empty_is x.1 last) t.0), t.1);
  again = λ tokens phrase h range. rw (again tokens phrase (begins_from_spells (phrases.pieces phrase) tokens h) range) refl;
  worded = worded;
  no_form = λ tokens phrase h. no_form tokens phrase (begins_from_spells (phrases.pieces phrase) tokens h);
}

-- tokens that begin with a word
begins_word : (ps : List Piece) (tokens : List Lexeme) → is_worded ps ≡ true → Begins tokens ps [] → (w : List ℕ) × (rest : List Lexeme) × (tokens ≡ word w ∷ rest)
begins_word (Keyword w ∷ ps) tokens e b = let k = keyword_first b in (w, k.0, k.1)
begins_word _ tokens e b = absurd (false≢true e)

-- ---- comments

no_comment : (form : Form) → CommentLine ≡ line_of form → ⊥
no_comment (RelaxForm name) e = cc
no_comment _ e = cc

read_comment : (bytes : List ℕ) → IsRead Two bytes CommentLine → IsComment bytes
read_comment bytes (a_comment c) = c
read_comment bytes (a_form form p h a r n t e) = absurd (no_comment form e)

module _ {P : Type 0} (phrases : Phrases P) (are : ArePhrases phrases) where
  -- what is read is a phrase with its numbers in range
  phrase_is : (tokens : List Lexeme) (phrase : P) → phrase_of phrases.phrase_at tokens ≡ Some phrase → Spells tokens (phrases.pieces phrase) × phrases.AreInRange phrase
  unfolding phrase_of
  phrase_is tokens phrase e =
      let read = and_then_some e in
      let last = guard_some read.2 in
      let is = are.takes tokens read.0 read.1 last.0 in
      let same : read.0.0 ≡ phrase = same_Some read.0.0 phrase last.1 in
      (subst (λ (p : P). Spells tokens (phrases.pieces p)) same is.0, subst (λ (p : P). phrases.AreInRange p) same is.1)

  -- ---- how a line says something: as a line of a session, or by a phrase

  abbrev AsLine : List ℕ → Statement P → Type 0
  AsLine bytes s = (line : Line) × IsRead Two bytes line × (of_line line ≡ Some s)

  abbrev AsPhrase : List ℕ → Statement P → Type 0
  AsPhrase bytes s = (phrase : P) × (s ≡ Phrase phrase) × IsPlain bytes × (phrase_of phrases.phrase_at (tokens_of bytes) ≡ Some phrase)

  says_as : (bytes : List ℕ) (s : Statement P) → Says phrases bytes s → AsLine bytes s ⊎ AsPhrase bytes s
  says_as bytes Comment h = inl (CommentLine, a_comment h, refl)
  says_as bytes (Variable name domain) h = inl (Var name domain, h, refl)
  says_as bytes (Constraint name shape) h = inl (Add name shape, h, refl)
  says_as bytes (Phrase phrase) h = inr (phrase, refl, h.0, are.again (tokens_of bytes) phrase h.1 h.2)

  -- what a line of a session says there
  pub line_says : (bytes : List ℕ) (line : Line) (s : Statement P) → IsRead Two bytes line → of_line line ≡ Some s → Says phrases bytes s
  line_says bytes CommentLine s r e = subst (Says phrases bytes) (same_Some Comment s e) (read_comment bytes r)
  line_says bytes (Var name domain) s r e = subst (Says phrases bytes) (same_Some (Variable name domain) s e) r
  line_says bytes (Add name shape) s r e = subst (Says phrases bytes) (same_Some (Constraint name shape) s e) r
  line_says bytes (Relax name) s r e = absurd (none-some s e)
  line_says bytes _ s r e = absurd (none-some s e)

  -- and what a phrase says
  pub phrase_says : (bytes : List ℕ) (phrase : P) → length bytes ≤ 65536 → phrase_of phrases.phrase_at (tokens_of bytes) ≡ Some phrase → Says phrases bytes (Phrase phrase)
  phrase_says bytes phrase short e =
      let h = phrase_is (tokens_of bytes) phrase e in
      let ps = phrases.pieces phrase in
      let w = begins_word ps (tokens_of bytes) (are.worded phrase) (begins_from_spells ps (tokens_of bytes) h.0) in (
        record {
          short = short;
          says = word_says bytes w.0 w.1 w.2;
          plain = tokens_plain (length bytes) bytes (omega arith) (spelled_known (tokens_of bytes) ps h.0);
        },
        h.0,
        h.1,
      )

  -- ---- a line is not both

  no_form : (tokens : List Lexeme) (phrase : P) (form : Form) → Spells tokens (phrases.pieces phrase) → IsForm tokens form → ⊥
  no_form tokens phrase form h is = none-some form (sym (are.no_form tokens phrase h) ∙ form_again tokens form is)

  not_both : (bytes : List ℕ) (line : Line) (phrase : P) → IsRead Two bytes line → IsPlain bytes → Spells (tokens_of bytes) (phrases.pieces phrase) → ⊥
  not_both bytes _ phrase (a_comment c) plain h = false≢true (sym plain.says ∙ c.note)
  not_both bytes line phrase (a_form form p is a r n t e) plain h = no_form (tokens_of bytes) phrase form h is

  -- no line says two things
  pub one_saying : (bytes : List ℕ) (s t : Statement P) → Says phrases bytes s → Says phrases bytes t → s ≡ t
  one_saying bytes s t a b = elim (says_as bytes s a) [
    | inl l ↦ elim (says_as bytes t b) [
      | inl m ↦ same_Some s t (sym l.2 ∙ ap of_line (one_reading Two Two bytes l.0 m.0 l.1 m.1) ∙ m.2)
      | inr p ↦ absurd (not_both bytes l.0 p.0 l.1 p.2 (phrase_is (tokens_of bytes) p.0 p.3).0)
    ]
    | inr p ↦ elim (says_as bytes t b) [
      | inl m ↦ absurd (not_both bytes m.0 p.0 m.1 p.2 (phrase_is (tokens_of bytes) p.0 p.3).0)
      | inr q ↦ p.1 ∙ ap (λ (phrase : P). Phrase phrase) (same_Some p.0 q.0 (sym p.3 ∙ q.3)) ∙ sym q.1
    ]
  ]

  -- ---- and lines that say nothing

  line_short : (bytes : List ℕ) (line : Line) → IsRead Two bytes line → length bytes ≤ 65536
  line_short bytes _ (a_comment c) = c.short
  line_short bytes line (a_form form p h a r n t e) = p.short

  -- a line that is too long
  pub long_says_nothing : (bytes : List ℕ) → 65536 < length bytes → (s : Statement P) → Says phrases bytes s → ⊥
  long_says_nothing bytes long s h = elim (says_as bytes s h) [
    | inl l ↦ absurd (omega (arith, long, line_short bytes l.0 l.1))
    | inr p ↦ absurd (omega (arith, long, p.2.short))
  ]

  -- a line of a session that says nothing there
  pub line_says_nothing : (bytes : List ℕ) (line : Line) → IsRead Two bytes line → ◌≡◌ {A = Option (Statement P)} (of_line line) None → (s : Statement P) → Says phrases bytes s → ⊥
  line_says_nothing bytes line r none s h = elim (says_as bytes s h) [
    | inl l ↦ none-some s (sym none ∙ ap of_line (one_reading Two Two bytes line l.0 r l.1) ∙ l.2)
    | inr p ↦ not_both bytes line p.0 r p.2 (phrase_is (tokens_of bytes) p.0 p.3).0
  ]

  -- a line that is no phrase, and is refused as a line of a session
  pub refused_says_nothing : (bytes : List ℕ) (error : LineError) → IsRefusedBy Two bytes error → (error ≡ NoMemory → ⊥) → phrase_of phrases.phrase_at (tokens_of bytes) ≡ None → (s : Statement P) → Says phrases bytes s → ⊥
  refused_says_nothing bytes error refused known none s h = elim (says_as bytes s h) [
    | inl l ↦ known (read_not_refused Two bytes l.0 error l.1 refused)
    | inr p ↦ none-some p.0 (sym none ∙ p.3)
  ]

  -- each line says something, or nothing
  pub each_said : (bytes : List ℕ) → ((s : Statement P) × Says phrases bytes s) ⊎ ((s : Statement P) → Says phrases bytes s → ⊥)
  each_said bytes = by_phrase (phrase_of phrases.phrase_at (tokens_of bytes)) refl
    where
      by_line : (line : Line) → IsRead Two bytes line → (o : Option (Statement P)) → of_line line ≡ o → ((s : Statement P) × Says phrases bytes s) ⊎ ((s : Statement P) → Says phrases bytes s → ⊥)
      by_line line r None e = inr (line_says_nothing bytes line r e)
      by_line line r (Some s) e = inl (s, line_says bytes line s r e)

      by_phrase : (o : Option P) → phrase_of phrases.phrase_at (tokens_of bytes) ≡ o → ((s : Statement P) × Says phrases bytes s) ⊎ ((s : Statement P) → Says phrases bytes s → ⊥)
      by_phrase (Some phrase) e = elim (cases_lt 65536 (length bytes)) [
        | inl long ↦ inr (long_says_nothing bytes long)
        | inr short ↦ inl (Phrase phrase, phrase_says bytes phrase short e)
      ]
      by_phrase None e = elim (each_answered Two bytes) [
        | inl r ↦ by_line r.0 r.1 (of_line r.0) refl
        | inr r ↦ inr (refused_says_nothing bytes r.0 r.2 r.1 e)
      ]
