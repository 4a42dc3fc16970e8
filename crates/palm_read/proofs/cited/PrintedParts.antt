-- The parts of a printed line laid out: names, numbers, rows of values, sums and offsets.
use Rattle.std.proofs.Common.{◌≡◌, ℕ, ℤ, pos, negsuc, zero, suc, ◌+◌, ◌*◌, ◌^◌, ◌<◌, ◌≤◌, Bool, true, false, Option, Some, None, List, [], ◌∷◌, ◌++◌, length, map, flat_map, codes, All, refl, ap, ◌∙◌, subst, arith, unwrap_or, nat_eq, add-one}
use Rattle.std.specs.Bool.{⊤}
use Rattle.std.specs.Fmt.{decimal, signed_decimal}
use Rattle.std.specs.Prelude.{Any, option_to_list}
use Rattle.std.proofs.lemmas.Bool.Decides.{nat_tests}
use Rattle.std.proofs.lemmas.Int.{ints}
use Rattle.std.proofs.lemmas.List.Elements.{All-head, All-tail}
use Rattle.palm_read.specs.Name.{IsNameText}
use Rattle.palm_read.specs.Bytes.{is_digit}
use Rattle.palm_read.specs.Token.{Lexeme}
use Rattle.palm_read.specs.Comparison.{OffsetForm, NoOffset, Plus, Minus, offset_pieces, offset_numbers, offset_of, offset_words}
use Rattle.palm_read.specs.Count.{TargetForm, Number, Variable, target_pieces, target_numbers, line_target, target_words}
use Rattle.palm_read.specs.Domain.{Interval, Members, domain_pieces, count_in, range_text, set_text}
use Rattle.palm_read.specs.Linear.{TermForm, linear_unsigned_term, linear_first_term, linear_later_term, linear_terms, signed, term_of, linear_product_text, linear_first_text, linear_later_words, linear_terms_words}
use Rattle.palm_read.specs.Piece.{Piece, Named, Mark, Integer, Natural, word, Spells, listed, in_parentheses}
use Rattle.palm_read.specs.Bounds.{IsWithin, a_value, up_to, from_one_to}
use Rattle.palm_read.specs.Words.{with_commas, row_text}
use Rattle.palm_read.proofs.Ranges.{term_numbers, a_bound}
use Rattle.palm_read.proofs.Refusals.{any_here, any_there}
use Rattle.palm_read.proofs.cited.AllOfBoth.{all_right}
use Rattle.palm_read.proofs.cited.SoundLines.{IsWordy, name_text}
use Rattle.palm_read.proofs.cited.Layouts.{Whatever, NoDigit, NoWord, apart_no_word, Lays, lays_nothing, lays_join, lays_weaker, lays_name, lays_mark, lays_pair, lays_natural, lays_count, IsBelow, lays_integer, Words, words_none, words_next, words_weaker, words_name, words_mark, words_number}
use Rattle.palm_read.proofs.Canonical.{canonical_offset, canonical_factor, canonical_term, AreWithin, within_left, within_right}

-- ---- the names of a form that was read are names

abbrev pub HasNames : List Piece → Type 0
HasNames [] = ⊤
HasNames (Named name ∷ ps) = IsNameText name × HasNames ps
HasNames (_ ∷ ps) = HasNames ps

pub has_names : (ps : List Piece) (tokens : List Lexeme) → All IsWordy tokens → Spells tokens ps → HasNames ps
has_names [] tokens wordy s = tt
has_names (Named name ∷ ps) tokens wordy s =
    let all : All IsWordy (word name ∷ s.1) = subst (All IsWordy) (s.2 ∙ ap (λ l. l ++ s.1) s.3.0) wordy in
    (name_text name (All-head IsWordy (word name) s.1 all refl) s.3.1, has_names ps s.1 (All-tail IsWordy (word name) s.1 all) s.4)
has_names (p ∷ ps) tokens wordy s = has_names ps s.1 (all_right IsWordy s.0 s.1 (subst (All IsWordy) s.2 wordy)) s.4

pub names_left : (ps qs : List Piece) → HasNames (ps ++ qs) → HasNames ps
names_left [] qs h = tt
names_left (Named name ∷ ps) qs h = (h.0, names_left ps qs h.1)
names_left (p ∷ ps) qs h = names_left ps qs h

pub names_right : (ps qs : List Piece) → HasNames (ps ++ qs) → HasNames qs
names_right [] qs h = h
names_right (Named name ∷ ps) qs h = names_right ps qs h.1
names_right (p ∷ ps) qs h = names_right ps qs h

pub words_names : (names : List (List ℕ)) → HasNames (map Named names) → Words (length names * 33) names (map Named names)
words_names [] h = words_none
words_names (name ∷ names) h = words_weaker (length (name ∷ names) * 33) (words_name name h.0 (words_names names h.1)) (omega arith)

-- ---- numbers

below_value : (v : ℤ) → IsWithin (a_value v) → IsBelow (10 ^ 7) v × IsBelow (10 ^ 64) v
below_value (pos n) w = (omega (arith, ints, w.0, w.1), omega (arith, ints, w.0, w.1))
below_value (negsuc n) w = (omega (arith, ints, w.0, w.1), omega (arith, ints, w.0, w.1))

pub lays_value : (v : ℤ) → IsWithin (a_value v) → Lays NoDigit 8 (signed_decimal v) (Integer v ∷ [])
lays_value v w = let b = below_value v w in lays_integer 7 v (omega arith) b.0 b.1

below_bound : (v : ℤ) → IsWithin (a_bound v) → IsBelow (10 ^ 13) v × IsBelow (10 ^ 64) v
below_bound (pos n) w = (omega (arith, ints, w.0, w.1), omega (arith, ints, w.0, w.1))
below_bound (negsuc n) w = (omega (arith, ints, w.0, w.1), omega (arith, ints, w.0, w.1))

pub lays_bound : (v : ℤ) → IsWithin (a_bound v) → Lays NoDigit 14 (signed_decimal v) (Integer v ∷ [])
lays_bound v w = let b = below_bound v w in lays_integer 13 v (omega arith) b.0 b.1

below_counted : (most n : ℕ) → most < 10 ^ 20 → IsWithin (from_one_to most (pos n)) → (n < 10 ^ 20) × (n < 10 ^ 64)
below_counted most n few w = (omega (arith, ints, w.1), omega (arith, ints, w.1))

pub lays_counted : (most : ℕ) (z : ℤ) → most < 10 ^ 20 → IsWithin (from_one_to most z) → Lays NoDigit 20 (decimal (count_in z)) (Integer z ∷ [])
lays_counted most (pos n) few w = let b = below_counted most n few w in lays_count 20 n (omega arith) b.0 b.1
lays_counted most (negsuc n) few w = absurd (omega (arith, ints, w.0))

-- ---- values in a row

comma_stops : (vs : List ℤ) (rest : List ℕ) → NoDigit rest → NoDigit (flat_map (λ v. codes "," ++ signed_decimal v) vs ++ rest)
comma_stops [] rest q = q
comma_stops (v ∷ vs) rest q = refl

lays_more_values : (vs : List ℤ) → AreWithin (map a_value vs) → Lays NoDigit (length vs * 9) (flat_map (λ v. codes "," ++ signed_decimal v) vs) (flat_map (λ v. Mark (codes ",") ∷ Integer v ∷ []) vs)
lays_more_values [] w = lays_nothing
lays_more_values (v ∷ vs) w =
    let one : Lays NoDigit 9 (codes "," ++ signed_decimal v) (Mark (codes ",") ∷ Integer v ∷ []) = lays_join (lays_mark 44 refl refl) (lays_value v w.0) (λ rest q. tt) in
    lays_weaker (length (v ∷ vs) * 9) (lays_join one (lays_more_values vs w.1) (comma_stops vs)) (omega arith) (λ rest q. q)

lays_values : (vs : List ℤ) → AreWithin (map a_value vs) → Lays NoDigit (length vs * 9) (with_commas vs) (listed vs)
lays_values [] w = lays_nothing
lays_values (v ∷ vs) w = lays_weaker (length (v ∷ vs) * 9) (lays_join (lays_value v w.0) (lays_more_values vs w.1) (comma_stops vs)) (omega arith) (λ rest q. q)

-- values between two signs
lays_between : (before behind : ℕ) (vs : List ℤ) → Lays Whatever 1 (before ∷ []) (Mark (before ∷ []) ∷ []) → Lays Whatever 1 (behind ∷ []) (Mark (behind ∷ []) ∷ []) → is_digit behind ≡ false → AreWithin (map a_value vs) → Lays Whatever (2 + length vs * 9) (before ∷ (with_commas vs ++ behind ∷ [])) (Mark (before ∷ []) ∷ listed vs ++ Mark (behind ∷ []) ∷ [])
lays_between before behind vs first last other w =
    lays_weaker (2 + length vs * 9) (lays_join first (lays_join (lays_values vs w) last (λ rest q. other)) (λ rest q. tt)) (omega arith) (λ rest q. q)

pub lays_set : (vs : List ℤ) → AreWithin (map a_value vs) → Lays Whatever (2 + length vs * 9) (set_text vs) (domain_pieces (Members vs))
lays_set vs w = lays_between 123 125 vs (lays_mark 123 refl refl) (lays_mark 125 refl refl) refl w

pub lays_row : (vs : List ℤ) → AreWithin (map a_value vs) → Lays Whatever (2 + length vs * 9) (row_text vs) (in_parentheses vs)
lays_row vs w = lays_between 40 41 vs (lays_mark 40 refl refl) (lays_mark 41 refl refl) refl w

pub lays_range : (low high : ℤ) → IsWithin (a_value low) → IsWithin (a_value high) → Lays NoDigit 18 (range_text low high) (domain_pieces (Interval low high))
lays_range low high v w =
    let lower : Lays Whatever 10 (signed_decimal low ++ codes "..") (Integer low ∷ Mark (codes "..") ∷ []) = lays_join (lays_value low v) (lays_pair 46 46 refl refl refl) (λ rest q. refl) in
    lays_join lower (lays_value high w) (λ rest q. tt)

words_row : {n : ℕ} (vs : List ℤ) → AreWithin (map a_value vs) → {words : List (List ℕ)} {qs : List Piece} → Words n words qs → Words (3 + length vs * 9 + n) (row_text vs ∷ words) (in_parentheses vs ++ qs)
words_row vs w k = words_weaker _ (words_next (lays_weaker (2 + length vs * 9) (lays_row vs w) (omega arith) (λ rest a. tt)) k) (omega arith)

pub words_rows : (rows : List (List ℤ)) → AreWithin (flat_map (map a_value) rows) → All (λ row. length row ≤ 16) rows → Words (length rows * 147) (map row_text rows) (flat_map in_parentheses rows)
words_rows [] w few = words_none
words_rows (row ∷ rows) w few =
    let short : length row ≤ 16 = All-head (λ (r : List ℤ). length r ≤ 16) row rows few in
    words_weaker (length (row ∷ rows) * 147) (words_row row (within_left (map a_value row) (flat_map (map a_value) rows) w) (words_rows rows (within_right (map a_value row) (flat_map (map a_value) rows) w) (All-tail (λ (r : List ℤ). length r ≤ 16) row rows few))) (omega arith)

-- ---- sums and offsets

no_one : (n : ℕ) → nat_eq (suc (suc n)) 1 ≡ false
no_one n = grind (arith, nat_tests)

no_zero : (n : ℕ) → nat_eq (suc n) 0 ≡ false
no_zero n = grind (arith, nat_tests)

below_factor : (most n : ℕ) → most < 10 ^ 7 → IsWithin (up_to most n) → (n < 10 ^ 7) × (n < 10 ^ 64)
below_factor most n few w = (omega (arith, ints, w.1), omega (arith, ints, w.1))

lays_product : (factor : Option ℕ) (name : List ℕ) → (factor ≡ Some 0 → ⊥) → AreWithin (map (up_to 100000) (option_to_list factor)) → IsNameText name → Lays NoWord 40 (linear_product_text (unwrap_or factor 1) name) (linear_unsigned_term (canonical_factor factor) name)
lays_product None name some w t = lays_weaker 40 (lays_name name t) (omega arith) (λ rest q. q)
lays_product (Some zero) name some w t = absurd (some refl)
lays_product (Some (suc zero)) name some w t = lays_weaker 40 (lays_name name t) (omega arith) (λ rest q. q)
lays_product (Some (suc (suc n))) name some w t =
    let b = below_factor 100000 (suc (suc n)) (omega arith) w.0 in
    let times : Lays Whatever 8 (decimal (suc (suc n)) ++ codes "*") (Natural (suc (suc n)) ∷ Mark (codes "*") ∷ []) = lays_join (lays_natural 7 (suc (suc n)) (omega arith) b.0 b.1) (lays_mark 42 refl refl) (λ rest q. refl) in
    rw (no_one n) (lays_join times (lays_name name t) (λ rest q. tt))

lays_linear_first_term : (minus : Bool) (factor : Option ℕ) (name : List ℕ) → (factor ≡ Some 0 → ⊥) → AreWithin (map (up_to 100000) (option_to_list factor)) → IsNameText name → Lays NoWord 41 (linear_first_text (signed minus (unwrap_or factor 1)) name) (linear_first_term minus (linear_unsigned_term (canonical_factor factor) name))
lays_linear_first_term false factor name some w t = lays_weaker 41 (lays_product factor name some w t) (omega arith) (λ rest q. q)
lays_linear_first_term true None name some w t = lays_join (lays_mark 45 refl refl) (lays_product None name some w t) (λ rest q. tt)
lays_linear_first_term true (Some zero) name some w t = absurd (some refl)
lays_linear_first_term true (Some (suc n)) name some w t = rw add-one (lays_join (lays_mark 45 refl refl) (lays_product (Some (suc n)) name some w t) (λ rest q. tt))

words_linear_later_term : {k : ℕ} (minus : Bool) (factor : Option ℕ) (name : List ℕ) → (factor ≡ Some 0 → ⊥) → AreWithin (map (up_to 100000) (option_to_list factor)) → IsNameText name → {words : List (List ℕ)} {qs : List Piece} → Words k words qs → Words (43 + k) (linear_later_words (signed minus (unwrap_or factor 1)) name ++ words) (linear_later_term minus (linear_unsigned_term (canonical_factor factor) name) ++ qs)
words_linear_later_term false factor name some w t k = words_weaker _ (words_mark 43 refl refl (words_next (lays_weaker 40 (lays_product factor name some w t) (omega arith) apart_no_word) k)) (omega arith)
words_linear_later_term true None name some w t k = words_weaker _ (words_mark 45 refl refl (words_next (lays_weaker 40 (lays_product None name some w t) (omega arith) apart_no_word) k)) (omega arith)
words_linear_later_term true (Some zero) name some w t k = absurd (some refl)
words_linear_later_term true (Some (suc n)) name some w t k =
    rw add-one (words_weaker _ (words_mark 45 refl refl (words_next (lays_weaker 40 (lays_product (Some (suc n)) name some w t) (omega arith) apart_no_word) k)) (omega arith))

words_linear_later_terms : (ts : List TermForm) → (Any (λ t. t.factor ≡ Some 0) ts → ⊥) → AreWithin (flat_map term_numbers ts) → HasNames (flat_map (λ t. linear_later_term t.minus (linear_unsigned_term t.factor t.name)) ts) → Words (length ts * 43) (flat_map (λ t. linear_later_words t.factor t.name) (map term_of ts)) (flat_map (λ t. linear_later_term t.minus (linear_unsigned_term t.factor t.name)) (map canonical_term ts))
words_linear_later_terms [] some w names = words_none
words_linear_later_terms (t ∷ ts) some w names =
    let named = later_name t.minus t.factor t.name (flat_map (λ t. linear_later_term t.minus (linear_unsigned_term t.factor t.name)) ts) names in
    let later = words_linear_later_terms ts (λ a. some (any_there (λ u. u.factor ≡ Some 0) t ts a)) (within_right (term_numbers t) (flat_map term_numbers ts) w) named.1 in
    words_weaker (length (t ∷ ts) * 43) (words_linear_later_term t.minus t.factor t.name (λ e. some (any_here (λ u. u.factor ≡ Some 0) t ts e)) (within_left (term_numbers t) (flat_map term_numbers ts) w) named.0 later) (omega arith)
  where
    later_name : (minus : Bool) (factor : Option ℕ) (name : List ℕ) (more : List Piece) → HasNames (linear_later_term minus (linear_unsigned_term factor name) ++ more) → IsNameText name × HasNames more
    later_name false None name more h = h
    later_name false (Some n) name more h = h
    later_name true None name more h = h
    later_name true (Some n) name more h = h

pub words_linear : (ts : List TermForm) → (Any (λ t. t.factor ≡ Some 0) ts → ⊥) → AreWithin (flat_map term_numbers ts) → HasNames (linear_terms ts) → Words (length ts * 43) (linear_terms_words (map term_of ts)) (linear_terms (map canonical_term ts))
words_linear [] some w names = words_none
words_linear (t ∷ ts) some w names =
    let named = first_name t.minus t.factor t.name (flat_map (λ t. linear_later_term t.minus (linear_unsigned_term t.factor t.name)) ts) names in
    let later = words_linear_later_terms ts (λ a. some (any_there (λ u. u.factor ≡ Some 0) t ts a)) (within_right (term_numbers t) (flat_map term_numbers ts) w) named.1 in
    let first = lays_linear_first_term t.minus t.factor t.name (λ e. some (any_here (λ u. u.factor ≡ Some 0) t ts e)) (within_left (term_numbers t) (flat_map term_numbers ts) w) named.0 in
    words_weaker (length (t ∷ ts) * 43) (words_next (lays_weaker 41 first (omega arith) apart_no_word) later) (omega arith)
  where
    first_name : (minus : Bool) (factor : Option ℕ) (name : List ℕ) (more : List Piece) → HasNames (linear_first_term minus (linear_unsigned_term factor name) ++ more) → IsNameText name × HasNames more
    first_name false None name more h = h
    first_name false (Some n) name more h = h
    first_name true None name more h = h
    first_name true (Some n) name more h = h

pub words_offset : (k : OffsetForm) → AreWithin (offset_numbers k) → Words 10 (offset_words (offset_of k)) (offset_pieces (canonical_offset k))
words_offset NoOffset w = words_weaker 10 words_none (omega arith)
words_offset (Plus zero) w = words_weaker 10 words_none (omega arith)
words_offset (Plus (suc n)) w =
    let b = below_factor 2000000 (suc n) (omega arith) w.0 in
    rw (no_zero n) (words_mark 43 refl refl (words_number (lays_natural 7 (suc n) (omega arith) b.0 b.1) words_none))
words_offset (Minus zero) w = words_weaker 10 words_none (omega arith)
words_offset (Minus (suc n)) w =
    let b = below_factor 2000000 (suc n) (omega arith) w.0 in
    rw add-one (words_mark 45 refl refl (words_number (lays_natural 7 (suc n) (omega arith) b.0 b.1) words_none))

pub words_target : (t : TargetForm) → AreWithin (target_numbers t) → HasNames (target_pieces t) → Words 33 (target_words (line_target t)) (target_pieces t)
words_target (Number v) w names = words_weaker 33 (words_number (lays_value v w.0) words_none) (omega arith)
words_target (Variable name) w names = words_name name names.0 words_none
