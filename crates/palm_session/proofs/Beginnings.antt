-- No reply but a refusal begins as refusals do.
use Rattle.std.proofs.Common.{◌≡◌, ℕ, ℤ, pos, negsuc, ◌+◌, ◌<◌, ◌%◌, ◌^◌, ◌⊎◌, Bool, true, false, not, ◌||◌, List, [], ◌∷◌, ◌++◌, All, Option, Some, None, nat_eq, eqb-true, eq-eqb, inl, inr, refl, sym, ap, ◌∙◌, subst, append_assoc, arith}
use Rattle.std.specs.Prelude.{codes, decimal, zip, flat_map}
use Rattle.std.specs.Fmt.{signed_decimal}
use Rattle.std.proofs.lemmas.Bool.{cases_Bool, false≢true, or_cases, or_left, or_right}
use Rattle.std.proofs.lemmas.Fmt.{decimal_by_steps}
use Rattle.std.proofs.lemmas.Int.{ints}
use Rattle.std.proofs.lemmas.List.Elements.{All-cons, All-head, All-tail}
use Rattle.palm_base.specs.declared.terms.Pair.{Pair}
use Rattle.palm_book.specs.Book.{BookVar, Contents, name_of}
use Rattle.palm_book.specs.declared.book.BookCon.{BookCon}
use Rattle.palm_lang.specs.Reply.{con_text, domain_line, entry_line, fixed_text, pair_text, reasons_text, removal_line, state_word, var_line}
use Rattle.palm_lang.specs.declared.reply.Fixed.{Fixed}
use Rattle.palm_lang.specs.declared.reply.Fixed.TheVariants.{Done, Contradiction, Paused, Present, Consistent, Bye, End}
use Rattle.palm_model.specs.Domains.{Domains}
use Rattle.palm_model.specs.Limits.{IsValue}
use Rattle.palm_read.specs.Bytes.{is_digit, is_letter, is_word_byte}
use Rattle.palm_read.specs.Name.{IsNameText}
use Rattle.palm_search.specs.declared.ending.SearchEnd.{SearchEnd}
use Rattle.palm_search.specs.declared.ending.SearchEnd.TheVariants.{Found, NoSolution, Spent}
use Rattle.palm_session.specs.Answers.{domains_text, end_text, list_text}
use Rattle.palm_session.specs.EachLine.{BeginsRefusal}

-- ---- bytes that differ

-- whether some byte of the text is not the one that stands at its place in the beginning
abbrev pub differs : List ℕ → List ℕ → Bool
differs [] text = false
differs (p ∷ ps) [] = false
differs (p ∷ ps) (b ∷ text) = not (nat_eq p b) || differs ps text

abbrev pub refusal_start : List ℕ
refusal_start = codes "error E"

-- a text does not differ from its beginning
begins_alike : (ps rest : List ℕ) → differs ps (ps ++ rest) ≡ true → ⊥
begins_alike [] rest d = false≢true d
begins_alike (p ∷ ps) rest d = elim (or_cases (not (nat_eq p p)) (differs ps (ps ++ rest)) d) [
  | inl n ↦ false≢true (rw (eq-eqb p p refl) at n)
  | inr later ↦ begins_alike ps rest later
]

pub no_refusal : (reply text : List ℕ) → reply ≡ text → differs refusal_start text ≡ true → BeginsRefusal reply → ⊥
no_refusal reply text is d begins =
    begins_alike refusal_start begins.0 (subst (λ (t : List ℕ). differs refusal_start t ≡ true) (sym is ∙ begins.1) d)

-- what differs so does so however it goes on
pub differs_longer : (ps text more : List ℕ) → differs ps text ≡ true → differs ps (text ++ more) ≡ true
differs_longer [] text more d = absurd (false≢true d)
differs_longer (p ∷ ps) [] more d = absurd (false≢true d)
differs_longer (p ∷ ps) (b ∷ text) more d = elim (or_cases (not (nat_eq p b)) (differs ps text) d) [
  | inl here ↦ or_left (not (nat_eq p b)) (differs ps (text ++ more)) here
  | inr later ↦ or_right (not (nat_eq p b)) (differs ps (text ++ more)) (differs_longer ps text more later)
]

-- what differs at its first byte differs from a longer beginning
differs_first : (p : ℕ) (ps text : List ℕ) → differs (p ∷ []) text ≡ true → differs (p ∷ ps) text ≡ true
differs_first p ps [] d = absurd (false≢true d)
differs_first p ps (b ∷ text) d = elim (or_cases (not (nat_eq p b)) false d) [
  | inl here ↦ or_left (not (nat_eq p b)) (differs ps text) here
  | inr later ↦ absurd (false≢true later)
]

unequal : (p b : ℕ) → (p ≡ b → ⊥) → not (nat_eq p b) ≡ true
unequal p b n = elim (cases_Bool (nat_eq p b)) [
  | inl t ↦ absurd (n (eqb-true p b t))
  | inr f ↦ rw f refl
]

-- ---- numbers

-- a number has no byte above its digits
above_digits : (p n : ℕ) → 57 < p → n < 2 ^ 64 → differs (p ∷ []) (decimal n) ≡ true
above_digits p n above small = decimal_by_steps (λ m ds. differs (p ∷ []) ds ≡ true)
    (λ m few. or_left (not (nat_eq p (48 + m))) false (unequal p (48 + m) (λ e. absurd (omega (arith, e, few, above)))))
    (λ m ds many d. differs_longer (p ∷ []) ds ((48 + m % 10) ∷ []) d)
    n small

above_value : (v : ℤ) → IsValue v → differs (69 ∷ []) (signed_decimal v) ≡ true
above_value (pos n) is = above_digits 69 n (omega arith) (omega (arith, ints, is.above, is.below))
above_value (negsuc n) is = refl

-- ---- names

name_bytes : (name : List ℕ) → IsNameText name → All (λ b. is_word_byte b ≡ true) name
name_bytes [] is = absurd is
name_bytes (b ∷ name) is = All-cons (λ c. is_word_byte c ≡ true) b name (or_left (is_letter b) (is_digit b) is.0) is.1

-- what stands behind a name differs from the beginning wherever the name ends, up to a byte that no name has
abbrev Stops : List ℕ → List ℕ → Type 0
Stops text [] = ⊥
Stops text (p ∷ ps) = (differs (p ∷ ps) text ≡ true) × ((is_word_byte p ≡ false) ⊎ Stops text ps)

no_word : (p b : ℕ) → is_word_byte p ≡ false → is_word_byte b ≡ true → p ≡ b → ⊥
no_word p b apart word e = false≢true (sym apart ∙ ap is_word_byte e ∙ word)

name_differs : (text ps name : List ℕ) → Stops text ps → All (λ b. is_word_byte b ≡ true) name → differs ps (name ++ text) ≡ true
name_differs text [] name stops word = absurd stops
name_differs text (p ∷ ps) [] stops word = stops.0
name_differs text (p ∷ ps) (b ∷ name) stops word = elim stops.1 [
  | inl apart ↦ or_left (not (nat_eq p b)) (differs ps (name ++ text)) (unequal p b (no_word p b apart (All-head (λ c. is_word_byte c ≡ true) b name word)))
  | inr later ↦ or_right (not (nat_eq p b)) (differs ps (name ++ text)) (name_differs text ps name later (All-tail (λ c. is_word_byte c ≡ true) b name word))
]

colon_stops : Stops (codes ":") refusal_start
colon_stops = (refl, inr (refl, inr (refl, inr (refl, inr (refl, inr (refl, inl refl))))))

value_stops : (v : ℤ) → IsValue v → Stops (codes " " ++ signed_decimal v) refusal_start
value_stops v is = (refl, inr (refl, inr (refl, inr (refl, inr (refl, inr (above_value v is, inl refl))))))

-- ---- texts

pub word_differs : (word : Fixed) → differs refusal_start (fixed_text word) ≡ true
word_differs Done = refl
word_differs Contradiction = refl
word_differs Paused = refl
word_differs Present = refl
word_differs Consistent = refl
word_differs Bye = refl
word_differs End = refl

pub domain_differs : (name : List ℕ) (values : List ℤ) → IsNameText name → differs refusal_start (domain_line name values) ≡ true
domain_differs name values is =
    let listed = flat_map (λ v. codes " " ++ signed_decimal v) values in
    differs_longer refusal_start (name ++ codes ":" ++ listed) (10 ∷ [])
    (differs_longer refusal_start (name ++ codes ":") listed (name_differs (codes ":") refusal_start name colon_stops (name_bytes name is)))

pub domains_differ : (variables : List BookVar) (d : Domains) → All (λ e. IsNameText e.name) variables → differs refusal_start (domains_text variables d) ≡ true
domains_differ [] d named = refl
domains_differ (e ∷ variables) [] named = refl
domains_differ (e ∷ variables) (values ∷ d) named =
    let rest = flat_map (λ p. domain_line p.0.name p.1) (zip variables d) in
    differs_longer refusal_start (domain_line e.name values ++ rest) (fixed_text End)
    (differs_longer refusal_start (domain_line e.name values) rest (domain_differs e.name values (All-head (λ v. IsNameText v.name) e variables named)))

-- a constraint as `list` shows it begins with its number
entries_differ : (variables : List BookVar) (constraints : List BookCon) → All (λ c. c.number < 2 ^ 64) constraints
    → differs refusal_start (flat_map (entry_line variables) constraints ++ fixed_text End) ≡ true
entries_differ variables [] small = refl
entries_differ variables (c ∷ constraints) small =
    differs_longer refusal_start (flat_map (entry_line variables) (c ∷ constraints)) (fixed_text End)
    (differs_longer refusal_start (entry_line variables c) (flat_map (entry_line variables) constraints) (entry_differs variables c (All-head (λ e. e.number < 2 ^ 64) c constraints small)))
  where
    entry_differs : (variables : List BookVar) (c : BookCon) → c.number < 2 ^ 64 → differs refusal_start (entry_line variables c) ≡ true
    entry_differs variables c small =
        let first = differs_first 101 (114 ∷ 114 ∷ 111 ∷ 114 ∷ 32 ∷ 69 ∷ []) (decimal c.number) (above_digits 101 c.number (omega arith) small) in
        let rest = flat_map (λ w. codes " " ++ w) (state_word c.active ∷ c.name ∷ codes ":" ∷ con_text variables c.con ∷ []) in
        differs_longer refusal_start (decimal c.number ++ rest) (10 ∷ []) (differs_longer refusal_start (decimal c.number) rest first)

listed_differ : (variables shown : List BookVar) (constraints : List BookCon) → All (λ c. c.number < 2 ^ 64) constraints
    → differs refusal_start (flat_map (λ e. var_line e.name e.values) variables ++ flat_map (entry_line shown) constraints ++ fixed_text End) ≡ true
listed_differ [] shown constraints small = entries_differ shown constraints small
listed_differ (e ∷ variables) shown constraints small = refl

pub list_differs : (book : Contents) → All (λ c. c.number < 2 ^ 64) book.constraints → differs refusal_start (list_text book) ≡ true
list_differs book small = listed_differ book.variables book.variables book.constraints small

-- a removal as `log` shows it begins with its pair
pub removal_differs : (variables : List BookVar) (by : List ℕ) (pair : Pair) (reasons : List Pair) → IsNameText (name_of variables pair.var) → IsValue pair.value
    → differs refusal_start (removal_line variables by pair reasons) ≡ true
removal_differs variables by pair reasons named is =
    let name = name_of variables pair.var in
    let first : differs refusal_start (name ++ codes " " ++ signed_decimal pair.value) ≡ true =
    subst (λ (t : List ℕ). differs refusal_start t ≡ true) (sym (append_assoc name (codes " ") (signed_decimal pair.value)))
    (name_differs (codes " " ++ signed_decimal pair.value) refusal_start name (value_stops pair.value is) (name_bytes name named)) in
    differs_longer refusal_start (pair_text variables pair ++ codes " by " ++ by ++ reasons_text variables reasons) (10 ∷ [])
    (differs_longer refusal_start (pair_text variables pair ++ codes " by " ++ by) (reasons_text variables reasons)
    (differs_longer refusal_start (pair_text variables pair ++ codes " by ") by
    (differs_longer refusal_start (pair_text variables pair) (codes " by ") first)))

pub end_differs : (book : Contents) (end : SearchEnd) (dropped : Option ℕ) → differs refusal_start (end_text book end dropped) ≡ true
end_differs book (Found values) dropped = refl
end_differs book (NoSolution users) dropped = refl
end_differs book (Spent turns) None = refl
end_differs book (Spent turns) (Some k) = refl
