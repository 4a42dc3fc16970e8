-- The words that a line is printed as, laid out: their tokens spell its canonical form.
use Rattle.std.proofs.Common.{◌≡◌, ℕ, ℤ, ◌+◌, ◌*◌, ◌<◌, ◌≤◌, Bool, true, false, cond, Option, Some, None, List, [], ◌∷◌, ◌++◌, length, map, flat_map, codes, All, refl, subst, arith, nat_eq, inl, inr}
use Rattle.std.specs.Fmt.{decimal, signed_decimal}
use Rattle.std.specs.Prelude.{option_to_list}
use Rattle.std.proofs.lemmas.Bool.{cases_lt}
use Rattle.std.proofs.lemmas.Fmt.{decimal_digit}
use Rattle.std.proofs.lemmas.List.{length-map, length-append, append-nil}
use Rattle.std.proofs.lemmas.List.Elements.{All-weaker}
use Rattle.palm_read.specs.Name.{IsNameText}
use Rattle.palm_read.specs.Domain.{DomainForm, Interval, Members, domain_pieces, domain_numbers, IsLarge, set_of, count_in, domain_of, domain_text}
use Rattle.palm_read.specs.Form.{ShapeForm, CompareVarForm, CompareConstForm, LinearForm, TableForm, ElementForm, CountForm, DifferForm, WithinForm, Form, HeaderForm, DeclareForm, DeclareInForm, AddForm, RelaxForm, EnforceForm, RetractForm, DomainsForm, DomainOfForm, ListForm, LogForm, WhyForm, ConflictForm, MinimalConflictForm, MinimalForm, PauseForm, ResumeForm, StepForm, SolveDbtForm, SolveRepairForm, ProveForm, MinimizeForm, PreferForm, PreferNoneForm, PreferredForm, CertForm, CertConflictForm, GuideForm, GuideNoneForm, OrderForm, OrderNoneForm, DropGuideForm, DropOrderForm, QuitForm}
use Rattle.palm_read.specs.Linear.{TermForm, linear_terms, term_of}
use Rattle.palm_read.specs.Count.{target_pieces, line_target_names, line_target}
use Rattle.palm_read.specs.Grammar.{shape_pieces, budget_pieces, pieces, IsProper, IsProperShape}
use Rattle.palm_read.specs.Piece.{Piece, Keyword, Named, Mark, Integer, Numeral, op_text, in_parentheses}
use Rattle.palm_read.specs.Bounds.{IsWithin, a_value, from_one_to}
use Rattle.palm_read.specs.Limits.{shape_numbers, numbers, HasNothing, IsBeyond, HasManyRows, names_of}
use Rattle.palm_read.specs.Reading.{shape_of, budget_of, line_of}
use Rattle.palm_read.specs.declared.limits.TheConstants.{NO_BUDGET}
use Rattle.palm_read.specs.Text.{shape_words, line_words}
use Rattle.palm_read.specs.declared.line.NameTerm.{NameTerm}
use Rattle.palm_read.proofs.Ranges.{term_numbers, a_bound}
use Rattle.palm_read.proofs.cited.Layouts.{Apart, apart_no_digit, Lays, lays_weaker, lays_numeral, Words, is_word, words_none, words_next, words_append, words_weaker, words_keyword, words_name, words_op, words_mark, words_number}
use Rattle.palm_read.proofs.Canonical.{canonical_domain, canonical_shape, canonical_budget, canonical, AreWithin, within_left, within_right, set_within}
use Rattle.palm_read.proofs.Refusals.{in_zeros}
use Rattle.palm_read.proofs.cited.PrintedParts.{names_left, names_right, words_names, lays_value, lays_bound, lays_counted, lays_set, lays_row, lays_range, words_rows, words_linear, words_offset, words_target, HasNames}

not_above : (most n : ℕ) → (most < n → ⊥) → n ≤ most
not_above most n h = elim (cases_lt most n) [ inl lt ↦ absurd (h lt) | inr le ↦ le ]

-- ---- domains

lays_domain : (d : DomainForm) → AreWithin (domain_numbers d) → (IsLarge (domain_of d) → ⊥) → Lays Apart 2399 (domain_text (domain_of d)) (domain_pieces (canonical_domain d))
lays_domain (Interval low high) w near = lays_weaker 2399 (lays_range low high w.0 w.1.0) (omega arith) apart_no_digit
lays_domain (Members vs) w near =
    let short = not_above 256 (length (set_of vs)) near in
    lays_weaker 2399 (lays_set (set_of vs) (set_within vs w)) (omega arith) (λ rest a. tt)

words_last : {n : ℕ} {w : List ℕ} (ps : List Piece) → Lays Apart n w ps → Words (1 + n) (w ∷ []) ps
words_last {n = n} {w = w} ps l = subst (λ qs. Words (1 + n) (w ∷ []) qs) (append-nil ps) (words_weaker (1 + n) (words_next l words_none) (omega arith))

words_domain : (d : DomainForm) → AreWithin (domain_numbers d) → (IsLarge (domain_of d) → ⊥) → Words 2400 (domain_text (domain_of d) ∷ []) (domain_pieces (canonical_domain d))
words_domain d w near = words_last (domain_pieces (canonical_domain d)) (lays_domain d w near)

-- ---- constraints

few_terms : (ts : List TermForm) → length (map (λ t. t.name) (map term_of ts)) ≤ 16 → length ts ≤ 16
few_terms ts h = omega (arith, length-map (map term_of ts) (λ (t : NameTerm). t.name), length-map ts term_of)

few_vars : (vars more : List (List ℕ)) → length (vars ++ more) ≤ 16 → length vars ≤ 16
few_vars vars more h = omega (arith, length-append vars more)

narrow_rows : (vars : List (List ℕ)) (rows : List (List ℤ)) → length vars ≤ 16 → All (λ row. length row ≡ length vars) rows → All (λ row. length row ≤ 16) rows
narrow_rows vars rows few h = All-weaker (λ (row : List ℤ). length row ≡ length vars) (λ row. length row ≤ 16) (λ row e. omega arith) rows h

words_shape : (name : List ℕ) (s : ShapeForm) → IsProperShape s → (HasNothing (line_of (AddForm name s)) → ⊥) → AreWithin (shape_numbers s) → HasNames (shape_pieces s) → length (names_of (shape_of s)) ≤ 16 → (HasManyRows (shape_of s) → ⊥) → Words 40000 (shape_words (shape_of s)) (shape_pieces (canonical_shape s))
words_shape name (CompareVarForm left op right k) p some w h few rows =
    words_weaker 40000 (words_name left h.0 (words_op op (words_name right h.1.0 (words_offset k w)))) (omega arith)
words_shape name (CompareConstForm left op v) p some w h few rows =
    words_weaker 40000 (words_name left h.0 (words_op op (words_number (lays_value v w.0) words_none))) (omega arith)
words_shape name (LinearForm ts op b) p some w h few rows =
    let terms = words_linear ts (λ a. some (in_zeros ts a)) (within_left (flat_map term_numbers ts) (a_bound b ∷ []) w) (names_left (linear_terms ts) (Mark (op_text op) ∷ Integer b ∷ []) h) in
    let bound = within_right (flat_map term_numbers ts) (a_bound b ∷ []) w in
    let short = few_terms ts few in
    words_weaker 40000 (words_keyword (codes "sum") refl (words_append terms (words_op op (words_number (lays_bound b bound.0) words_none)))) (omega arith)
words_shape name (TableForm vars rows) p some w h few many =
    let names = words_names vars (names_left (map Named vars) (Mark (codes ":") ∷ flat_map in_parentheses rows) h) in
    let short = not_above 256 (length rows) many in
    words_weaker 40000 (words_keyword (codes "table") refl (words_append names (words_mark 58 refl refl (words_rows rows w (narrow_rows vars rows few p.1))))) (omega arith)
words_shape name (ElementForm outcome index entries) p some w h few many =
    let short = not_above 256 (length entries) many in
    let row = lays_weaker (2 + length entries * 9) (lays_row entries w) (omega arith) (λ rest a. tt) in
    words_weaker 40000 (words_keyword (codes "element") refl (words_name outcome h.0 (words_name index h.1.0 (words_last (in_parentheses entries) row)))) (omega arith)
words_shape name (CountForm v vars op t) p some w h few rows =
    let names = words_names vars (names_left (map Named vars) (Mark (op_text op) ∷ target_pieces t) h) in
    let target = words_target t w.1 (names_right (map Named vars) (Mark (op_text op) ∷ target_pieces t) h) in
    let short = few_vars vars (line_target_names (line_target t)) few in
    words_weaker 40000 (words_keyword (codes "count") refl (words_number (lays_value v w.0) (words_append names (words_op op target)))) (omega arith)
words_shape name (DifferForm vars) p some w h few rows =
    words_weaker 40000 (words_keyword (codes "differ") refl (words_names vars h)) (omega arith)
words_shape name (WithinForm var domain) p some w h few near =
    words_weaker 40000 (words_name var h.0 (words_keyword (codes "in") refl (words_domain domain w near))) (omega arith)

-- ---- lines

words_budget : (b : Option ℤ) → AreWithin (map (from_one_to NO_BUDGET) (option_to_list b)) → Words 28 (cond (nat_eq (budget_of b) NO_BUDGET) [] (codes "budget" ∷ decimal (budget_of b) ∷ [])) (budget_pieces (canonical_budget b))
words_budget None w = words_weaker 28 words_none (omega arith)
words_budget (Some z) w = go (nat_eq (count_in z) NO_BUDGET)
  where
    go : (t : Bool) → Words 28 (cond t [] (codes "budget" ∷ decimal (count_in z) ∷ [])) (budget_pieces (cond t None (Some z)))
    go true = words_weaker 28 words_none (omega arith)
    go false = words_weaker 28 (words_keyword (codes "budget") refl (words_number (lays_counted NO_BUDGET z (omega arith) w.0) words_none)) (omega arith)

-- words of the language and a name
words_alone : (text : List ℕ) → is_word text ≡ true → length text ≤ 10 → Words 11 (text ∷ []) (Keyword text ∷ [])
words_alone text is short = words_weaker 11 (words_keyword text is words_none) (omega arith)

words_two : (first second : List ℕ) → is_word first ≡ true → is_word second ≡ true → length first ≤ 10 → length second ≤ 10 → Words 22 (first ∷ second ∷ []) (Keyword first ∷ Keyword second ∷ [])
words_two first second is it short few = words_weaker 22 (words_keyword first is (words_keyword second it words_none)) (omega arith)

words_named : (text name : List ℕ) → is_word text ≡ true → length text ≤ 10 → IsNameText name → Words 44 (text ∷ name ∷ []) (Keyword text ∷ Named name ∷ [])
words_named text name is short t = words_weaker 44 (words_keyword text is (words_name name t words_none)) (omega arith)

words_pair : (text name : List ℕ) (v : ℤ) → is_word text ≡ true → length text ≤ 10 → IsNameText name → IsWithin (a_value v) → Words 53 (text ∷ name ∷ signed_decimal v ∷ []) (Keyword text ∷ Named name ∷ Integer v ∷ [])
words_pair text name v is short t w = words_weaker 53 (words_keyword text is (words_name name t (words_number (lays_value v w) words_none))) (omega arith)

words_number_of : (text : List ℕ) (z : ℤ) → is_word text ≡ true → length text ≤ 10 → IsWithin (from_one_to 1000000 z) → Words 32 (text ∷ decimal (count_in z) ∷ []) (Keyword text ∷ Integer z ∷ [])
words_number_of text z is short w = words_weaker 32 (words_keyword text is (words_number (lays_counted 1000000 z (omega arith) w) words_none)) (omega arith)

-- the header
words_header : Words 7 (codes "palm" ∷ codes "2" ∷ []) (Keyword (codes "palm") ∷ Numeral (codes "2") ∷ [])
words_header =
    let two = lays_weaker 1 (lays_numeral 1 2 (omega arith) (omega arith) (omega arith)) (omega arith) apart_no_digit in
    subst (λ t. Words 7 (codes "palm" ∷ t ∷ []) (Keyword (codes "palm") ∷ Numeral t ∷ [])) (decimal_digit 2 (omega arith)) (words_keyword (codes "palm") refl (words_last (Numeral (decimal 2) ∷ []) two))

-- each line is printed in words that spell its canonical form
abbrev IsPrinted : Form → Type 0
IsPrinted form = Words 50000 (line_words (line_of form)) (pieces (canonical form))

pub words_line : (form : Form) → IsProper form → (HasNothing (line_of form) → ⊥) → AreWithin (numbers form) → HasNames (pieces form) → (IsBeyond (line_of form) → ⊥) → IsPrinted form
words_line HeaderForm p some w h near = words_weaker 50000 words_header (omega arith)
words_line (DeclareForm name domain) p some w h near =
    words_weaker 50000 (words_keyword (codes "var") refl (words_name name h.0 (words_domain domain w near))) (omega arith)
words_line (DeclareInForm name universe domain) p some w h near =
    let first = lays_domain universe (within_left (domain_numbers universe) (domain_numbers domain) w) (λ l. near (inl l)) in
    let second = words_domain domain (within_right (domain_numbers universe) (domain_numbers domain) w) (λ r. near (inr r)) in
    words_weaker 50000 (words_keyword (codes "var") refl (words_name name h.0 (words_next first (words_keyword (codes "in") refl second)))) (omega arith)
words_line (AddForm name shape) p some w h near =
    let few = not_above 16 (length (names_of (shape_of shape))) (λ l. near (inl l)) in
    words_weaker 50000 (words_keyword (codes "add") refl (words_name name h.0 (words_mark 58 refl refl (words_shape name shape p some w h.1 few (λ m. near (inr m)))))) (omega arith)
words_line (RelaxForm name) p some w h near = words_weaker 50000 (words_named (codes "relax") name refl (omega arith) h.0) (omega arith)
words_line (EnforceForm name) p some w h near = words_weaker 50000 (words_named (codes "enforce") name refl (omega arith) h.0) (omega arith)
words_line (RetractForm name) p some w h near = words_weaker 50000 (words_named (codes "retract") name refl (omega arith) h.0) (omega arith)
words_line DomainsForm p some w h near = words_weaker 50000 (words_alone (codes "domains") refl (omega arith)) (omega arith)
words_line (DomainOfForm name) p some w h near = words_weaker 50000 (words_named (codes "domain") name refl (omega arith) h.0) (omega arith)
words_line ListForm p some w h near = words_weaker 50000 (words_alone (codes "list") refl (omega arith)) (omega arith)
words_line LogForm p some w h near = words_weaker 50000 (words_alone (codes "log") refl (omega arith)) (omega arith)
words_line (WhyForm name v) p some w h near = words_weaker 50000 (words_pair (codes "why") name v refl (omega arith) h.0 w.0) (omega arith)
words_line ConflictForm p some w h near = words_weaker 50000 (words_alone (codes "conflict") refl (omega arith)) (omega arith)
words_line MinimalConflictForm p some w h near = words_weaker 50000 (words_two (codes "minimal") (codes "conflict") refl refl (omega arith) (omega arith)) (omega arith)
words_line (MinimalForm name v) p some w h near = words_weaker 50000 (words_pair (codes "minimal") name v refl (omega arith) h.0 w.0) (omega arith)
words_line PauseForm p some w h near = words_weaker 50000 (words_alone (codes "pause") refl (omega arith)) (omega arith)
words_line ResumeForm p some w h near = words_weaker 50000 (words_alone (codes "resume") refl (omega arith)) (omega arith)
words_line (StepForm z) p some w h near = words_weaker 50000 (words_number_of (codes "step") z refl (omega arith) w.0) (omega arith)
words_line (SolveDbtForm b) p some w h near =
    words_weaker 50000 (words_keyword (codes "solve") refl (words_keyword (codes "dbt") refl (words_budget b w))) (omega arith)
words_line (SolveRepairForm t b) p some w h near =
    let budget = words_keyword (codes "budget") refl (words_number (lays_counted NO_BUDGET b (omega arith) w.1.0) words_none) in
    let tabu = words_keyword (codes "tabu") refl (words_number (lays_counted 1024 t (omega arith) w.0) budget) in
    words_weaker 50000 (words_keyword (codes "solve") refl (words_keyword (codes "repair") refl tabu)) (omega arith)
words_line (ProveForm b) p some w h near =
    let budget = words_keyword (codes "budget") refl (words_number (lays_counted NO_BUDGET b (omega arith) w.0) words_none) in
    words_weaker 50000 (words_keyword (codes "prove") refl budget) (omega arith)
words_line (MinimizeForm target b) p some w h near =
    let budget = words_keyword (codes "budget") refl (words_number (lays_counted NO_BUDGET b (omega arith) w.0) words_none) in
    words_weaker 50000 (words_keyword (codes "minimize") refl (words_name target h.0 budget)) (omega arith)
words_line (PreferForm name z) p some w h near =
    let weight = words_number (lays_counted 1000000 z (omega arith) w.0) words_none in
    words_weaker 50000 (words_keyword (codes "prefer") refl (words_name name h.0 weight)) (omega arith)
words_line (PreferNoneForm name) p some w h near =
    words_weaker 50000 (words_keyword (codes "prefer") refl (words_name name h.0 (words_keyword (codes "none") refl words_none))) (omega arith)
words_line PreferredForm p some w h near = words_weaker 50000 (words_alone (codes "preferred") refl (omega arith)) (omega arith)
words_line (CertForm name v) p some w h near = words_weaker 50000 (words_pair (codes "cert") name v refl (omega arith) h.0 w.0) (omega arith)
words_line CertConflictForm p some w h near = words_weaker 50000 (words_two (codes "cert") (codes "conflict") refl refl (omega arith) (omega arith)) (omega arith)
words_line (GuideForm z) p some w h near = words_weaker 50000 (words_number_of (codes "guide") z refl (omega arith) w.0) (omega arith)
words_line GuideNoneForm p some w h near = words_weaker 50000 (words_two (codes "guide") (codes "none") refl refl (omega arith) (omega arith)) (omega arith)
words_line (OrderForm z) p some w h near = words_weaker 50000 (words_number_of (codes "order") z refl (omega arith) w.0) (omega arith)
words_line OrderNoneForm p some w h near = words_weaker 50000 (words_two (codes "order") (codes "none") refl refl (omega arith) (omega arith)) (omega arith)
words_line (DropGuideForm z) p some w h near = words_weaker 50000 (words_keyword (codes "drop") refl (words_number_of (codes "guide") z refl (omega arith) w.0)) (omega arith)
words_line (DropOrderForm z) p some w h near = words_weaker 50000 (words_keyword (codes "drop") refl (words_number_of (codes "order") z refl (omega arith) w.0)) (omega arith)
words_line QuitForm p some w h near = words_weaker 50000 (words_alone (codes "quit") refl (omega arith)) (omega arith)
