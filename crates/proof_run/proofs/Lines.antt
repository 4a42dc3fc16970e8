-- What the lines of a proof say that are not those of a session: read by their tokens, they say what was written.
use Rattle.std.proofs.Common.{◌≡◌, ℕ, ℤ, ◌+◌, ◌*◌, ◌<◌, ◌≤◌, false, List, [], ◌∷◌, ◌++◌, length, map, flat_map, codes, All, Contains, refl, sym, ap, ◌∙◌, subst, append_assoc, arith}
use Rattle.std.specs.Bool.{⊤}
use Rattle.std.specs.Fmt.{signed_decimal}
use Rattle.std.proofs.lemmas.List.{length-map}
use Rattle.std.proofs.lemmas.List.Elements.{All-contains, All-head, All-map, All-tail}
use Rattle.std.proofs.lemmas.List.Sums.{AllPass-from_list_all}
use Rattle.palm_base.specs.declared.terms.Pair.{Pair}
use Rattle.palm_base.specs.declared.terms.Cid.{Cid}
use Rattle.palm_base.specs.declared.terms.Cid.TheVariants.{Decide, Not, User}
use Rattle.palm_base.proofs.cited.Members.{all_members, member_here, member_there, member_unmap}
use Rattle.palm_model.specs.Constraint.{Distinct}
use Rattle.palm_model.specs.Domains.{Has}
use Rattle.palm_model.specs.Event.{vars_of}
use Rattle.palm_model.specs.Limits.{IsValue}
use Rattle.palm_read.specs.Bytes.{IsPlain, after_blanks, is_note, is_plain}
use Rattle.palm_read.specs.Name.{IsNameText}
use Rattle.palm_read.specs.Piece.{Piece, Integer, Keyword, Mark, Named}
use Rattle.palm_read.specs.Token.{kind_at, lexeme_at, more_at, tokens_of}
use Rattle.palm_read.specs.Words.{spaced}
use Rattle.palm_read.proofs.cited.Layouts.{Lays, NoDigit, Words, apart_no_digit, lays_join, lays_mark, lays_name, lays_natural, lays_weaker, words_keyword, words_name, words_next, words_none, words_number, words_plain, words_short, words_spell, words_weaker}
use Rattle.palm_read.proofs.cited.PrintedParts.{lays_value}
use Rattle.palm_book.specs.Book.{BookVar, Contents, HasNumber, IsBook, initial_of, name_of, user_name, values_at}
use Rattle.palm_book.specs.declared.book.BookCon.{BookCon}
use Rattle.palm_book.specs.declared.limits.TheConstants.{MOST_CONSTRAINTS, MOST_VARIABLES}
use Rattle.palm_book.proofs.cited.Any.{member_any}
use Rattle.palm_claim.specs.Statement.{IsStepNumber}
use Rattle.palm_lang.specs.Reply.{fixed_word, lead_word}
use Rattle.palm_lang.specs.declared.reply.Fixed.TheVariants.{End as EndWord}
use Rattle.palm_lang.specs.declared.reply.Lead.TheVariants.{NoSolution}
use Rattle.palm_cert.proofs.cited.Declared.{are_values, name_text}
use Rattle.palm_cert.proofs.cited.Lengths.{within_book}
use Rattle.palm_cert.proofs.cited.Reached.{values_same}
use Rattle.palm_cert.proofs.cited.Saying.{value_within, words_from}
use Rattle.palm_search.proofs.cited.Weighing.{distinct_below}
use Rattle.palm_claim.specs.Phrases.{header_of}
use Rattle.palm_claim.proofs.cited.Phrases.{header_spelled}
use Rattle.proof_text.specs.Statement.{IsGroundInRange, Says, ground_pieces, lemma_pieces, pair_pieces, step_pieces, users_pieces, wipe_pieces}
use Rattle.proof_text.specs.declared.statement.NamedPair.{NamedPair}
use Rattle.palm_claim.specs.declared.statement.Statement.TheVariants.{Phrase}
use Rattle.proof_text.specs.declared.statement.ProofPhrase.TheVariants.{End, Header, Lemma, Step, Users, Wipe}
use Rattle.proof_run.specs.Lemma.{lemma_of, lemma_words, pair_word, step_words, why_words, wipe_words}
use Rattle.proof_run.proofs.Own.{book_named}
use Rattle.proof_run.proofs.Situation.{why_of}

-- ---- names and values of a book

-- the pair with the name of its variable
abbrev pub named_pair : List BookVar → Pair → NamedPair
named_pair variables p = record { name = name_of variables p.var; value = p.value }

module _ (book : Contents) (is : IsBook book) where
  -- a declared pair is of a variable of the book, which has a name, and its value is one
  pub pair_exists : (p : Pair) → Has (initial_of book) p.var p.value → p.var < length book.variables
  pair_exists p has = within_book book.variables p.var p.value (subst (λ (vs : List ℤ). Contains vs p.value) (values_same book.variables p.var) has)

  pub variable_text : (x : ℕ) → x < length book.variables → IsNameText (name_of book.variables x)
  variable_text x lt = name_text book.variables x is.variable_names lt

  pub pair_value : (p : Pair) → Has (initial_of book) p.var p.value → IsValue p.value
  pair_value p has =
      let are = are_values book.variables p.var is.values (pair_exists p has) in
      All-contains IsValue (values_at book.variables p.var) p.value are.each (subst (λ (vs : List ℤ). Contains vs p.value) (values_same book.variables p.var) has)

  -- the name of a user
  pub user_text : (n : ℕ) → HasNumber book n → IsNameText (user_name book.constraints (User n))
  user_text n some =
      let r = member_any (λ (c : BookCon). c.number ≡ n) book.constraints some in
      let named : user_name book.constraints (User n) ≡ r.0.name = ap (λ (k : ℕ). user_name book.constraints (User k)) (sym r.2) ∙ book_named book is r.0 r.1 in
      subst IsNameText (sym named) (All-contains (λ (c : BookCon). IsNameText c.name) book.constraints r.0 is.constraint_names r.1)

-- ---- the header and the end

header_tokens : tokens_of (codes "palm-proof 1") ≡ header_of (codes "proof")
unfolding tokens_of kind_at more_at lexeme_at
header_tokens = refl

pub header_says : Says (codes "palm-proof 1") (Phrase Header)
header_says = (record { short = omega arith; says = refl; plain = AllPass-from_list_all is_plain (codes "palm-proof 1") refl }, header_spelled (codes "proof") (tokens_of (codes "palm-proof 1")) header_tokens, tt)

-- a line of words that are no note
line_plain : {n : ℕ} (words : List (List ℕ)) (ps : List Piece) → Words n words ps → length (spaced words) ≤ 65536 → is_note (after_blanks (spaced words)) ≡ false → IsPlain (spaced words)
line_plain words ps lays short says = record { short = short; says = says; plain = words_plain words ps lays }

pub end_says : Says (fixed_word EndWord) (Phrase End)
end_says =
    let words = words_keyword (codes "end") refl words_none in
    let pieces = Keyword (codes "end") ∷ [] in
    (line_plain (codes "end" ∷ []) pieces words (omega arith) refl, words_spell (codes "end" ∷ []) pieces words, tt)

-- ---- the first line of a lemma

-- NAME, "=" and VALUE are one word
lays_pair_word : (variables : List BookVar) (p : Pair) → IsNameText (name_of variables p.var) → IsValue p.value → Lays NoDigit 41 (pair_word variables p) (pair_pieces (named_pair variables p))
lays_pair_word variables p named value =
    let given : Lays NoDigit 9 (codes "=" ++ signed_decimal p.value) (Mark (codes "=") ∷ Integer p.value ∷ []) = lays_join (lays_mark 61 refl refl) (lays_value p.value (value_within p.value value)) (λ rest q. tt) in
    let whole : Lays NoDigit 41 (name_of variables p.var ++ (codes "=" ++ signed_decimal p.value)) (pair_pieces (named_pair variables p)) = lays_join (lays_name (name_of variables p.var) named) given (λ rest q. refl) in
    subst (λ (text : List ℕ). Lays NoDigit 41 text (pair_pieces (named_pair variables p))) (sym (append_assoc (name_of variables p.var) (codes "=") (signed_decimal p.value))) whole

words_pairs : (variables : List BookVar) (pairs : List Pair) → ((p : Pair) → Contains pairs p → IsNameText (name_of variables p.var) × IsValue p.value)
    → Words (length pairs * 42) (map (pair_word variables) pairs) (flat_map pair_pieces (map (named_pair variables) pairs))
words_pairs variables [] each = words_none
words_pairs variables (p ∷ pairs) each =
    let here = each p (member_here p pairs) in
    let rest = words_pairs variables pairs (λ q m. each q (member_there p pairs q m)) in
    words_weaker (length (p ∷ pairs) * 42) (words_next (lays_weaker 41 (lays_pair_word variables p here.0 here.1) (omega arith) apart_no_digit) rest) (omega arith)

-- ---- why a step takes its pair out

-- what is asked of the id of a step: a user is one of the book, and a negation was given by a lemma
abbrev pub CanSay : Contents → List Pair → Cid → Type 0
CanSay book undone (Decide x) = ⊤
CanSay book undone (Not p) = (1 ≤ lemma_of undone p) × (lemma_of undone p ≤ 18446744073709551615)
CanSay book undone (User n) = HasNumber book n

module _ (book : Contents) (is : IsBook book) (undone : List Pair) where
  words_why : (by : Cid) (numbers : List ℕ) → CanSay book undone by → All IsStepNumber numbers
      → Words (50 + length numbers * 11) (why_words book undone by numbers) (ground_pieces (why_of book undone by numbers))
  words_why (Decide x) numbers can small = words_weaker (50 + length numbers * 11) (words_keyword (codes "assume") refl words_none) (omega arith)
  words_why (Not p) numbers can small =
      let number = lemma_of undone p in
      words_weaker (50 + length numbers * 11) (words_keyword (codes "lemma") refl (words_number (lays_natural 20 number (omega arith) (omega (arith, can.1)) (omega (arith, can.1))) words_none)) (omega arith)
  words_why (User n) numbers can small =
      words_weaker (50 + length numbers * 11) (words_keyword (codes "by") refl (words_name (user_name book.constraints (User n)) (user_text book is n can) (words_from numbers small))) (omega arith)

  why_in_range : (by : Cid) (numbers : List ℕ) → CanSay book undone by → All IsStepNumber numbers → IsGroundInRange (why_of book undone by numbers)
  why_in_range (Decide x) numbers can small = tt
  why_in_range (Not p) numbers can small = (omega (arith, can.0), can.1)
  why_in_range (User n) numbers can small = small

  -- ---- the lines of a lemma

  pub step_says : (pair : Pair) (by : Cid) (numbers : List ℕ) → Has (initial_of book) pair.var pair.value → CanSay book undone by → All IsStepNumber numbers
      → length (spaced (step_words book undone pair by numbers)) ≤ 65536
      → Says (spaced (step_words book undone pair by numbers)) (Phrase (Step (name_of book.variables pair.var) pair.value (why_of book undone by numbers)))
  step_says pair by numbers has can small short =
      let name = name_of book.variables pair.var in
      let value = pair_value book is pair has in
      let named = variable_text book is pair.var (pair_exists book is pair has) in
      let words = words_keyword (codes "step") refl (words_name name named (words_number (lays_value pair.value (value_within pair.value value)) (words_why by numbers can small))) in
      let pieces = step_pieces name pair.value (why_of book undone by numbers) in
      (line_plain (step_words book undone pair by numbers) pieces words short refl, words_spell (step_words book undone pair by numbers) pieces words, (value, why_in_range by numbers can small))

module _ (book : Contents) (is : IsBook book) where
  -- pairs that are declared and apart are no more than the variables
  pub apart_few : (pairs : List Pair) → ((p : Pair) → Contains pairs p → Has (initial_of book) p.var p.value) → Distinct (vars_of pairs) → length pairs ≤ MOST_VARIABLES
  apart_few pairs declared apart =
      let few = distinct_below (vars_of pairs) (length book.variables) apart
      (λ x m. let r = member_unmap (λ (p : Pair). p.var) pairs x m in subst (λ (y : ℕ). y < length book.variables) r.2 (pair_exists book is r.0 (declared r.0 r.1))) in
      omega (arith, few, length-map pairs (λ (p : Pair). p.var), is.few_variables)

  pub lemma_says : (pairs : List Pair) → ((p : Pair) → Contains pairs p → Has (initial_of book) p.var p.value) → Distinct (vars_of pairs)
      → Says (spaced (lemma_words book.variables pairs)) (Phrase (Lemma (map (named_pair book.variables) pairs)))
  lemma_says pairs declared apart =
      let each : (p : Pair) → Contains pairs p → IsNameText (name_of book.variables p.var) × IsValue p.value =
      λ p m. (variable_text book is p.var (pair_exists book is p (declared p m)), pair_value book is p (declared p m)) in
      let words = words_keyword (codes "lemma") refl (words_pairs book.variables pairs each) in
      let pieces = lemma_pieces (map (named_pair book.variables) pairs) in
      let short : length (spaced (lemma_words book.variables pairs)) ≤ 65536 = omega (arith, words_short (lemma_words book.variables pairs) pieces words, apart_few pairs declared apart) in
      let values : All (λ (n : NamedPair). IsValue n.value) (map (named_pair book.variables) pairs) =
      All-map (λ (n : NamedPair). IsValue n.value) (named_pair book.variables) pairs (all_members (λ (p : Pair). IsValue p.value) pairs (λ p m. (each p m).1)) in
      (line_plain (lemma_words book.variables pairs) pieces words short refl, words_spell (lemma_words book.variables pairs) pieces words, values)

  pub wipe_says : (x : ℕ) → x < length book.variables → Says (spaced (wipe_words book.variables x)) (Phrase (Wipe (name_of book.variables x)))
  wipe_says x lt =
      let name = name_of book.variables x in
      let words = words_keyword (codes "wipe") refl (words_name name (variable_text book is x lt) words_none) in
      let short : length (spaced (wipe_words book.variables x)) ≤ 65536 = omega (arith, words_short (wipe_words book.variables x) (wipe_pieces name) words) in
      (line_plain (wipe_words book.variables x) (wipe_pieces name) words short refl, words_spell (wipe_words book.variables x) (wipe_pieces name) words, tt)

-- ---- the constraints that have no solution

words_users : (names : List (List ℕ)) → All IsNameText names → Words (length names * 33) names (map Named names)
words_users [] texts = words_none
words_users (name ∷ names) texts =
    words_weaker (length (name ∷ names) * 33) (words_name name (All-head IsNameText name names texts) (words_users names (All-tail IsNameText name names texts))) (omega arith)

pub users_says : (names : List (List ℕ)) → All IsNameText names → length names ≤ MOST_CONSTRAINTS → Says (spaced (lead_word NoSolution ∷ names)) (Phrase (Users names))
users_says names texts few =
    let words = words_keyword (codes "none") refl (words_users names texts) in
    let pieces = users_pieces names in
    let short : length (spaced (codes "none" ∷ names)) ≤ 65536 = omega (arith, words_short (codes "none" ∷ names) pieces words, few) in
    (line_plain (codes "none" ∷ names) pieces words short refl, words_spell (codes "none" ∷ names) pieces words, tt)
