-- The lines of a generated session are lines as they stand, and none of them ends the session.
use Rattle.std.proofs.Common.{◌≡◌, ◌≢◌, ℕ, zero, suc, ◌+◌, ◌-◌, ◌<◌, ◌≤◌, ◌==◌, Bool, true, false, nat_le, nat_lt, List, [], ◌∷◌, ◌++◌, map, flat_map, length, All, codes, decimal, refl, sym, ap, ◌∙◌, arith, subst, get_or, slice_index}
use Rattle.std.specs.List.{list_all}
use Rattle.std.proofs.lemmas.Bool.Decides.{nat_tests}
use Rattle.std.proofs.lemmas.List.Elements.{All-nil, All-cons, All-append, All-weaker}
use Rattle.std.proofs.lemmas.List.Sums.{AllPass-from_list_all}
use Rattle.palm_base.proofs.cited.Numerals.{decimal_digits}
use Rattle.palm_read.proofs.cited.TokenLemmas.{tokens_of-front}
use Rattle.palm_read.specs.Bytes.{is_blank}
use Rattle.palm_read.specs.Form.{Form, QuitForm}
use Rattle.palm_read.specs.Grammar.{IsForm, pieces}
use Rattle.palm_read.specs.Piece.{Spells, word}
use Rattle.palm_read.specs.Reading.{IsRead, a_comment, a_form, line_of}
use Rattle.palm_read.specs.declared.mode.Mode.TheVariants.{One}
use Rattle.palm_read.specs.Token.{Lexeme, tokens_of, lexeme_at}
use Rattle.palm_read.specs.declared.line.Line.{Line}
use Rattle.palm_read.specs.declared.line.Line.TheVariants.{Quit}
use Rattle.palm_read.specs.Lines.{HasNoFeed, without_return}
use Rattle.palm_session.specs.Objects.{numbered, numbered_from}
use Rattle.palm_cli.specs.Generator.{queen_name, queen_line, differ_line, diagonal_line, pair_lines, solve_line, retract_line, where_several, posing_lines, easing_lines, generated_lines}
use Rattle.palm_cli.specs.Solving.{IsInner}
use Rattle.palm_cli.specs.declared.limits.TheConstants.{MOST_QUEENS, SEARCH_BUDGET}

-- no byte is one of control
abbrev IsPrinted : List ℕ → Type 0
IsPrinted bytes = All (λ b. 32 ≤ b) bytes

-- ---- a line that begins with another letter than `quit`

first_of : List Lexeme → ℕ
first_of [] = 0
first_of (l ∷ ls) = get_or l.text 0 0

first_byte : (b : ℕ) (rest : List ℕ) (more : List Lexeme) → lexeme_at b rest ∷ more ≡ word (codes "quit") ∷ [] → b ≡ 113
unfolding lexeme_at first_of
first_byte b rest more e = ap first_of e

spelled : (b : ℕ) (rest : List ℕ) → is_blank b ≡ false → Spells (tokens_of (b ∷ rest)) (pieces QuitForm) → b ≡ 113
spelled b rest w h =
    let one : tokens_of (b ∷ rest) ≡ word (codes "quit") ∷ [] = h.2 ∙ ap (λ (z : List Lexeme). z ++ h.1) h.3 ∙ ap (λ (z : List Lexeme). word (codes "quit") ∷ z) h.4 in
    first_byte b rest _ (sym (tokens_of-front b rest w) ∙ one)

form_quit : (form : Form) → line_of form ≡ Quit → (b : ℕ) (rest : List ℕ) → is_blank b ≡ false → IsForm (tokens_of (b ∷ rest)) form → b ≡ 113
form_quit QuitForm e b rest w is = spelled b rest w is.spells
form_quit _ e b rest w is = cc

read_quit : (bytes : List ℕ) (line : Line) → IsRead One bytes line → line ≡ Quit → (b : ℕ) (rest : List ℕ) → bytes ≡ b ∷ rest → is_blank b ≡ false → b ≡ 113
read_quit bytes line (a_comment c) e b rest is w = cc
read_quit bytes line (a_form form plain f allowed range some once said) e b rest is w =
    form_quit form (sym said ∙ e) b rest w (subst (λ (z : List ℕ). IsForm (tokens_of z) form) is f)

-- ---- such a line of printed bytes

printed : (bytes : List ℕ) → list_all (λ b. nat_le 32 b) bytes ≡ true → IsPrinted bytes
printed bytes e = All-weaker (λ b. nat_le 32 b ≡ true) (λ b. 32 ≤ b) (λ b h. grind (arith, nat_tests, h)) bytes (AllPass-from_list_all (λ b. nat_le 32 b) bytes e)

no_feed : (bytes : List ℕ) → IsPrinted bytes → HasNoFeed bytes
no_feed bytes p = All-weaker (λ b. 32 ≤ b) (λ b. b ≢ 10) (λ b h e. absurd (omega (arith, h, e))) bytes p

bare_by : (bytes : List ℕ) (b : Bool) → b ≡ false → (slice_index bytes (length bytes - 1) == 13) ≡ b → without_return bytes ≡ bytes
bare_by bytes b f e = rw (e, f) refl

not_return : (x : ℕ) → 32 ≤ x → (x == 13) ≡ false
not_return x h = grind (arith, nat_tests, h)

bare : (b : ℕ) (rest : List ℕ) → IsPrinted (b ∷ rest) → without_return (b ∷ rest) ≡ b ∷ rest
bare b rest p =
    let last : 32 ≤ slice_index (b ∷ rest) (length (b ∷ rest) - 1) = p (length (b ∷ rest) - 1) 0 (omega arith) in
    bare_by (b ∷ rest) false refl (not_return (slice_index (b ∷ rest) (length (b ∷ rest) - 1)) last)

inner : (b : ℕ) (rest : List ℕ) → is_blank b ≡ false → (b ≡ 113 → ⊥) → IsPrinted (b ∷ rest) → IsInner (b ∷ rest)
inner b rest w other p = record {
  unbroken = no_feed (b ∷ rest) p;
  bare = bare b rest p;
  goes_on = λ r. other (read_quit (b ∷ rest) Quit r refl b rest refl w);
}

-- ---- the lines of a generated session

number : (n : ℕ) → n ≤ 20000 → IsPrinted (decimal n)
number n few = All-weaker (λ b. (48 ≤ b) × (b ≤ 57)) (λ b. 32 ≤ b) (λ b h. omega (arith, h.0)) (decimal n) (decimal_digits n (omega (arith, few))).each

name : (i : ℕ) → i ≤ 20000 → IsPrinted (queen_name i)
name i few = All-append (λ b. 32 ≤ b) (codes "q") (decimal i) (printed (codes "q") refl) (number i few)

both : (xs ys : List ℕ) → IsPrinted xs → IsPrinted ys → IsPrinted (xs ++ ys)
both xs ys p q = All-append (λ b. 32 ≤ b) xs ys p q

queen : (size i : ℕ) → size ≤ 20000 → i ≤ 20000 → IsInner (queen_line size i)
unfolding queen_line
queen size i few low =
    let a : List ℕ = codes "var " ++ queen_name i in
    inner 118 (codes "ar " ++ queen_name i ++ codes " 1.." ++ decimal size) refl (λ e. absurd (omega (arith, e)))
    (both (a ++ codes " 1..") (decimal size) (both a (codes " 1..") (both (codes "var ") (queen_name i) (printed (codes "var ") refl) (name i low)) (printed (codes " 1..") refl)) (number size few))

names : (a k : ℕ) → a + k ≤ 20000 → IsPrinted (flat_map (λ i. codes " " ++ queen_name i) (numbered_from a k))
names a zero few = All-nil (λ b. 32 ≤ b)
names a (suc k) few =
    both (codes " " ++ queen_name a) (flat_map (λ i. codes " " ++ queen_name i) (numbered_from (suc a) k))
    (both (codes " ") (queen_name a) (printed (codes " ") refl) (name a (omega (arith, few)))) (names (suc a) k (omega (arith, few)))

differ : (size : ℕ) → size < 20000 → IsInner (differ_line size)
unfolding differ_line
differ size few =
    inner 97 (codes "dd d : differ" ++ flat_map (λ i. codes " " ++ queen_name i) (numbered size)) refl (λ e. absurd (omega (arith, e)))
    (both (codes "add d : differ") (flat_map (λ i. codes " " ++ queen_name i) (numbered size)) (printed (codes "add d : differ") refl) (names 1 size (omega (arith, few))))

diagonal : (letter sign : List ℕ) (i j : ℕ) → IsPrinted letter → IsPrinted sign → i ≤ 20000 → j ≤ 20000 → IsInner (diagonal_line letter sign i j)
unfolding diagonal_line
diagonal letter sign i j p q low high =
    let a1 : List ℕ = codes "add " ++ letter in
    let a2 : List ℕ = a1 ++ decimal i in
    let a3 : List ℕ = a2 ++ codes "_" in
    let a : List ℕ = a3 ++ decimal j in
    let b1 : List ℕ = codes " : " ++ queen_name i in
    let b2 : List ℕ = b1 ++ codes " != " in
    let b : List ℕ = b2 ++ queen_name j in
    let d1 : List ℕ = codes " " ++ sign in
    let d2 : List ℕ = d1 ++ codes " " in
    let d : List ℕ = d2 ++ decimal (j - i) in
    let to_a = both a3 (decimal j) (both a2 (codes "_") (both a1 (decimal i) (both (codes "add ") letter (printed (codes "add ") refl) p) (number i low)) (printed (codes "_") refl)) (number j high) in
    let to_b = both b2 (queen_name j) (both b1 (codes " != ") (both (codes " : ") (queen_name i) (printed (codes " : ") refl) (name i low)) (printed (codes " != ") refl)) (name j high) in
    let to_d = both d2 (decimal (j - i)) (both d1 (codes " ") (both (codes " ") sign (printed (codes " ") refl) q) (printed (codes " ") refl)) (number (j - i) (omega (arith, high))) in
    inner 97 ((codes "dd " ++ letter ++ decimal i ++ codes "_" ++ decimal j) ++ b ++ d) refl (λ z. absurd (omega (arith, z))) (both (a ++ b) d (both a b to_a to_b) to_d)

pub solve : IsInner solve_line
unfolding solve_line
solve = inner 115 (codes "olve dbt budget " ++ decimal SEARCH_BUDGET) refl (λ e. absurd (omega (arith, e)))
    (both (codes "solve dbt budget ") (decimal SEARCH_BUDGET) (printed (codes "solve dbt budget ") refl) (number SEARCH_BUDGET (omega arith)))

retract : IsInner retract_line
retract = inner 114 (codes "etract d") refl (λ e. absurd (omega (arith, e))) (printed (codes "retract d") refl)

all_queens : (size a k : ℕ) → size ≤ 20000 → a + k ≤ 20000 → All IsInner (map (queen_line size) (numbered_from a k))
all_queens size a zero few low = All-nil IsInner
all_queens size a (suc k) few low =
    All-cons IsInner (queen_line size a) (map (queen_line size) (numbered_from (suc a) k)) (queen size a few (omega (arith, low))) (all_queens size (suc a) k few (omega (arith, low)))

all_pair : (i j : ℕ) → i ≤ 20000 → j ≤ 20000 → All IsInner (pair_lines i j)
all_pair i j low high =
    All-cons IsInner (diagonal_line (codes "u") (codes "+") i j) (diagonal_line (codes "l") (codes "-") i j ∷ [])
    (diagonal (codes "u") (codes "+") i j (printed (codes "u") refl) (printed (codes "+") refl) low high)
    (All-cons IsInner (diagonal_line (codes "l") (codes "-") i j) []
    (diagonal (codes "l") (codes "-") i j (printed (codes "l") refl) (printed (codes "-") refl) low high) (All-nil IsInner))

all_pairs_of : (i a k : ℕ) → i ≤ 20000 → a + k ≤ 20000 → All IsInner (flat_map (pair_lines i) (numbered_from a k))
all_pairs_of i a zero low high = All-nil IsInner
all_pairs_of i a (suc k) low high =
    All-append IsInner (pair_lines i a) (flat_map (pair_lines i) (numbered_from (suc a) k)) (all_pair i a low (omega (arith, high))) (all_pairs_of i (suc a) k low (omega (arith, high)))

all_pairs : (size a k : ℕ) → size < 10000 → a + k ≤ 10000 → All IsInner (flat_map (λ i. flat_map (pair_lines i) (numbered_from (i + 1) (size - i))) (numbered_from a k))
all_pairs size a zero few low = All-nil IsInner
all_pairs size a (suc k) few low =
    let f : ℕ → List (List ℕ) = λ i. flat_map (pair_lines i) (numbered_from (i + 1) (size - i)) in
    All-append IsInner (f a) (flat_map f (numbered_from (suc a) k)) (all_pairs_of a (a + 1) (size - a) (omega (arith, low)) (omega (arith, few, low)))
    (all_pairs size (suc a) k few (omega (arith, low)))

several : (lines : List (List ℕ)) (b : Bool) (size : ℕ) → nat_lt 1 size ≡ b → All IsInner lines → All IsInner (where_several size lines)
several lines true size e h = rw e h
several lines false size e h = rw e (All-nil IsInner)

pub all_posing : (size : ℕ) → size ≤ MOST_QUEENS → All IsInner (posing_lines size)
all_posing size few =
    let queens : List (List ℕ) = map (queen_line size) (numbered size) in
    let rows : List (List ℕ) = where_several size (differ_line size ∷ []) in
    let pairs : List (List ℕ) = flat_map (λ i. flat_map (pair_lines i) (numbered_from (i + 1) (size - i))) (numbered (size - 1)) in
    All-append IsInner (queens ++ rows) pairs
    (All-append IsInner queens rows (all_queens size 1 size (omega (arith, few)) (omega (arith, few)))
    (several (differ_line size ∷ []) (nat_lt 1 size) size refl (All-cons IsInner (differ_line size) [] (differ size (omega (arith, few))) (All-nil IsInner))))
    (all_pairs size 1 (size - 1) (omega (arith, few)) (omega (arith, few)))

pub all_easing : (size : ℕ) → All IsInner (easing_lines size)
all_easing size = several (retract_line ∷ []) (nat_lt 1 size) size refl (All-cons IsInner retract_line [] retract (All-nil IsInner))

pub all_generated : (size : ℕ) → size ≤ MOST_QUEENS → All IsInner (generated_lines size)
all_generated size few =
    All-append IsInner (posing_lines size ++ (solve_line ∷ easing_lines size)) (solve_line ∷ [])
    (All-append IsInner (posing_lines size) (solve_line ∷ easing_lines size) (all_posing size few) (All-cons IsInner solve_line (easing_lines size) solve (all_easing size)))
    (All-cons IsInner solve_line [] solve (All-nil IsInner))

pub solve_text_is : All IsInner (solve_line ∷ [])
solve_text_is = All-cons IsInner solve_line [] solve (All-nil IsInner)
