-- One more item, and names one after another: the readers read just the pieces of these.
use Rattle.std.proofs.Common.{◌≡◌, ℕ, ℤ, ◌≤◌, Option, Some, None, List, [], ◌∷◌, length, map, refl, sym, ap, subst, arith, inl, inr}
use Rattle.std.specs.Bool.{⊤}
use Rattle.std.specs.List.{flat_map, AllByRecursion}
use Rattle.std.proofs.lemmas.Bool.{leb-true, le-leb}
use Rattle.std.proofs.lemmas.Option.{same_Some, none-some, some_pair_parts}
use Rattle.palm_read.specs.Token.{Lexeme}
use Rattle.palm_read.specs.Piece.{Piece, Named}
use Rattle.palm_read.specs.Reader.Lists.{next_name, names_at}
use Rattle.palm_read.specs.Reader.Steps.{Reading, and_then, when, choose, front_text, token_at, name_at}
use Rattle.palm_read.proofs.cited.Front.{Starts, digits_first, minus_first, and_then_some, when_some, guard_some, name_at-cons}
use Rattle.palm_read.proofs.cited.Begins.{Begins, over, by_name, name_first, begins_over}
use Rattle.palm_read.proofs.cited.Many.{IsItem, many_at_takes, many_at_again}

-- one more of something was read, and what
pub same_item : {A : Type 0} (a b : A) (r s : List Lexeme) → ◌≡◌ {A = Reading (Option A)} (Some (Some a, r)) (Some (Some b, s)) → (a ≡ b) × (r ≡ s)
same_item a b r s e = let p = some_pair_parts (Some a) (Some b) r s e in (same_Some a b p.0, p.1)

pub same_rest : {A : Type 0} (r s : List Lexeme) → ◌≡◌ {A = Reading (Option A)} (Some (None, r)) (Some (None, s)) → s ≡ r
same_rest {A} r s e = sym (some_pair_parts {A = Option A} None None r s e).1

pub not_none : {A : Type 0} (a : A) (r s : List Lexeme) → ◌≡◌ {A = Reading (Option A)} (Some (Some a, r)) (Some (None, s)) → ⊥
not_none a r s e = none-some a (sym (some_pair_parts (Some a) None r s e).0)

pub not_some : {A : Type 0} (a : A) (r s : List Lexeme) → ◌≡◌ {A = Reading (Option A)} (Some (None, r)) (Some (Some a, s)) → ⊥
not_some a r s e = none-some a (some_pair_parts None (Some a) r s e).0

-- what begins with the pieces of one item begins with those of an equal one
pub moved : {A : Type 0} (spelling : A → List Piece) (tokens : List Lexeme) (a b : A) (r s : List Lexeme) → ◌≡◌ {A = Reading (Option A)} (Some (Some a, r)) (Some (Some b, s)) → Begins tokens (spelling a) r → Begins tokens (spelling b) s
moved spelling tokens a b r s e h =
    let same = same_item a b r s e in
    subst (λ x. Begins tokens (spelling x) s) same.0 (subst (λ x. Begins tokens (spelling a) x) same.1 h)

-- ---- names

abbrev pub name_pieces : List ℕ → List Piece
name_pieces name = Named name ∷ []

name_takes : (tokens rest : List Lexeme) (a : List ℕ) → next_name tokens ≡ Some (Some a, rest) → Begins tokens (name_pieces a) rest
unfolding next_name
name_takes tokens rest a e =
    elim (when_some e) [
      | inl w ↦ moved name_pieces tokens w.0.0 a w.0.1 rest w.2 (by_name w.1 over)
      | inr w ↦ absurd (not_some a tokens rest w.1)
    ]

name_leaves : (tokens rest : List Lexeme) → next_name tokens ≡ Some (None, rest) → rest ≡ tokens
unfolding next_name
name_leaves tokens rest e =
    elim (when_some e) [
      | inl w ↦ absurd (not_none w.0.0 w.0.1 rest w.2)
      | inr w ↦ same_rest {A = List ℕ} tokens rest w.1
    ]

name_again : (tokens rest : List Lexeme) (a : List ℕ) → Begins tokens (name_pieces a) rest → next_name tokens ≡ Some (Some a, rest)
unfolding next_name when
name_again tokens rest a b =
    let n = name_first b in
    rw (n.1, name_at-cons a n.0 n.2, begins_over n.3) refl

pub name_item : IsItem next_name name_pieces (λ _. ⊤)
name_item = record {
  takes = λ tokens rest a e. (name_takes tokens rest a e, tt);
  leaves = name_leaves;
  again = λ tokens rest a _ b. name_again tokens rest a b;
  some = λ a. omega arith;
}

pub all_fit : {A : Type 0} (xs : List A) → AllByRecursion (λ _. ⊤) xs
all_fit [] = tt
all_fit (x ∷ xs) = (tt, all_fit xs)

names_same : (names : List (List ℕ)) → flat_map name_pieces names ≡ map Named names
names_same [] = refl
names_same (n ∷ ns) = ap (λ ps. Named n ∷ ps) (names_same ns)

pub names_takes : (least : ℕ) (tokens : List Lexeme) (x : List (List ℕ) × List Lexeme) → names_at least tokens ≡ Some x → Begins tokens (map Named x.0) x.1 × (least ≤ length x.0)
unfolding names_at
names_takes least tokens x e =
    let Taken : List (List ℕ) × List Lexeme → Type 0 = λ y. Begins tokens (map Named y.0) y.1 × (least ≤ length y.0) in
    let names = and_then_some e in
    let enough = guard_some names.2 in
    let all = many_at_takes next_name name_pieces (λ _. ⊤) name_item tokens names.0 names.1 in
    let taken : Taken names.0 = (subst (λ ps. Begins tokens ps names.0.1) (names_same names.0.0) all.0, leb-true least (length names.0.0) enough.0) in
    subst Taken (same_Some names.0 x enough.1) taken

pub names_again : (least : ℕ) (names : List (List ℕ)) (tokens rest : List Lexeme) → least ≤ length names → Begins tokens (map Named names) rest → next_name rest ≡ Some (None, rest) → names_at least tokens ≡ Some (names, rest)
unfolding names_at and_then choose
names_again least names tokens rest enough b stop =
    let all = subst (λ ps. Begins tokens ps rest) (sym (names_same names)) b in
    rw (many_at_again next_name name_pieces (λ _. ⊤) name_item names tokens rest (all_fit names) all stop, le-leb least (length names) enough) refl

-- no name is left where nothing is
pub end_stops_names : next_name [] ≡ Some (None, [])
unfolding next_name name_at token_at front_text and_then when
end_stops_names = refl

-- a number in front is no name
pub starts_no_name : {tokens rest : List Lexeme} {z : ℤ} → Starts tokens z rest → name_at tokens ≡ None
unfolding name_at token_at front_text and_then choose
starts_no_name digits_first = refl
starts_no_name minus_first = refl
