-- The constraints whose numbers are marked, their names, and that they are those that are used.
use Rattle.std.proofs.Common.{◌≡◌, ℕ, zero, suc, ◌+◌, ◌≤◌, ◌==◌, Bool, true, false, cond, Some, List, [], ◌∷◌, ◌++◌, length, map, filter, take, take_all, inl, inr, refl, sym, ap, ◌∙◌, append-nil, arith}
use Rattle.std.specs.Prelude.{slice_get}
use Rattle.std.proofs.lemmas.Bool.{true≢false}
use Rattle.std.proofs.lemmas.Bool.Decides.{Decides-eqb, not_from_Decides}
use Rattle.std.proofs.lemmas.List.{length-take-le, map-append, map_push, take_more}
use Rattle.std.proofs.lemmas.List.Elements.{filter-append}
use Rattle.std.proofs.lemmas.Option.{get_or_from_slice_get, none-some, same_Some, slice_get_within}
use Rattle.palm_base.specs.Tells.{Tells}
use Rattle.palm_base.proofs.cited.Telling.{tells_both}
use Rattle.palm_book.specs.Book.{Contents}
use Rattle.palm_book.specs.declared.book.BookCon.{BookCon}
use Rattle.proof_text.specs.Users.{ArePicked, AreUsed, Uses}
use Rattle.proof_text.specs.declared.lemma.Lemma.{Lemma}
use Rattle.proof_text.proofs.cited.Using.{picked_once}
use Rattle.proof_check.specs.Marks.{IsUsage, is_marked, marked_in}

-- ---- one more of the first members

take_some : {X : Type 0} (xs : List X) (i : ℕ) (x : X) → slice_get xs i ≡ Some x → take (i + 1) xs ≡ take i xs ++ x ∷ []
take_some {X = X} xs i x at = take_more xs i x (slice_get_within xs i x at) ∙ ap (λ (y : X). take i xs ++ y ∷ []) (get_or_from_slice_get xs i x x at)

split_at : {X : Type 0} (xs : List X) (i : ℕ) (x : X) → slice_get xs i ≡ Some x → (rest : List X) × (xs ≡ take i xs ++ x ∷ rest)
split_at [] i x at = absurd (none-some x at)
split_at (y ∷ ys) zero x at = (ys, ap (λ z. z ∷ ys) (same_Some y x at))
split_at (y ∷ ys) (suc i) x at = let r = split_at ys i x at in (r.0, ap (λ zs. y ∷ zs) r.1)

get_middle : {X : Type 0} (xs : List X) (x : X) (rest : List X) → slice_get (xs ++ x ∷ rest) (length xs) ≡ Some x
get_middle [] x rest = refl
get_middle (y ∷ ys) x rest = get_middle ys x rest

-- ---- what is marked

marked_one : (marks : List Bool) (c : BookCon) (rest : List BookCon) → is_marked marks c.number ≡ true → marked_in marks (c ∷ rest) ≡ c ∷ marked_in marks rest
marked_one marks c rest e = rw e refl

marked_none : (marks : List Bool) (c : BookCon) → is_marked marks c.number ≡ false → marked_in marks (c ∷ []) ≡ []
marked_none marks c e = rw e refl

marked_split : (marks : List Bool) (xs ys : List BookCon) → marked_in marks (xs ++ ys) ≡ marked_in marks xs ++ marked_in marks ys
marked_split marks xs ys = filter-append (λ (c : BookCon). is_marked marks c.number) xs ys

pub marked_more : (marks : List Bool) (cs : List BookCon) (i : ℕ) (c : BookCon) → slice_get cs i ≡ Some c → is_marked marks c.number ≡ true → marked_in marks (take (i + 1) cs) ≡ marked_in marks (take i cs) ++ c ∷ []
marked_more marks cs i c at e =
    ap (λ (xs : List BookCon). marked_in marks xs) (take_some cs i c at) ∙ marked_split marks (take i cs) (c ∷ [])
    ∙ ap (λ (xs : List BookCon). marked_in marks (take i cs) ++ xs) (marked_one marks c [] e)

pub marked_same : (marks : List Bool) (cs : List BookCon) (i : ℕ) (c : BookCon) → slice_get cs i ≡ Some c → is_marked marks c.number ≡ false → marked_in marks (take (i + 1) cs) ≡ marked_in marks (take i cs)
marked_same marks cs i c at e =
    ap (λ (xs : List BookCon). marked_in marks xs) (take_some cs i c at) ∙ marked_split marks (take i cs) (c ∷ [])
    ∙ ap (λ (xs : List BookCon). marked_in marks (take i cs) ++ xs) (marked_none marks c e) ∙ append-nil (marked_in marks (take i cs))

-- what is made of each of them, as their users or their names are
pub made_more : {X : Type 0} (make : BookCon → X) (marks : List Bool) (cs : List BookCon) (i : ℕ) (c : BookCon) (made : List X) → slice_get cs i ≡ Some c → is_marked marks c.number ≡ true
    → made ≡ map make (marked_in marks (take i cs)) → made ++ make c ∷ [] ≡ map make (marked_in marks (take (i + 1) cs))
made_more {X = X} make marks cs i c made at e is =
    ap (λ (xs : List X). xs ++ make c ∷ []) is
    ∙ sym (map_push make (marked_in marks (take i cs)) c)
    ∙ ap (λ (ds : List BookCon). map make ds) (sym (marked_more marks cs i c at e))

pub made_same : {X : Type 0} (make : BookCon → X) (marks : List Bool) (cs : List BookCon) (i : ℕ) (c : BookCon) (made : List X) → slice_get cs i ≡ Some c → is_marked marks c.number ≡ false
    → made ≡ map make (marked_in marks (take i cs)) → made ≡ map make (marked_in marks (take (i + 1) cs))
made_same make marks cs i c made at e is = is ∙ ap (λ (ds : List BookCon). map make ds) (sym (marked_same marks cs i c at e))

-- ---- their names

-- the first names are those of the constraints so far
pub record AreNamed (marks : List Bool) (cs : List BookCon) (names : List (List ℕ)) (place matched : ℕ) : Type 0 where
  pub within : matched ≤ length names
  pub named : take matched names ≡ map (λ c. c.name) (marked_in marks (take place cs))

pub named_none : (marks : List Bool) (cs : List BookCon) (names : List (List ℕ)) → AreNamed marks cs names 0 0
named_none marks cs names = record { within = omega arith; named = refl }

pub named_more : (marks : List Bool) (cs : List BookCon) (names : List (List ℕ)) (i matched : ℕ) (c : BookCon) → slice_get cs i ≡ Some c → is_marked marks c.number ≡ true
    → AreNamed marks cs names i matched → slice_get names matched ≡ Some c.name → AreNamed marks cs names (i + 1) (matched + 1)
named_more marks cs names i matched c at e are here = record {
  within = omega (arith, slice_get_within names matched c.name here);
  named = take_some names matched c.name here ∙ made_more (λ (d : BookCon). d.name) marks cs i c (take matched names) at e are.named;
}

pub named_same : (marks : List Bool) (cs : List BookCon) (names : List (List ℕ)) (i matched : ℕ) (c : BookCon) → slice_get cs i ≡ Some c → is_marked marks c.number ≡ false
    → AreNamed marks cs names i matched → AreNamed marks cs names (i + 1) matched
named_same marks cs names i matched c at e are = record {
  within = are.within;
  named = made_same (λ (d : BookCon). d.name) marks cs i c (take matched names) at e are.named;
}

pub names_differ : (marks : List Bool) (cs : List BookCon) (names : List (List ℕ)) (i matched : ℕ) (c : BookCon) → slice_get cs i ≡ Some c → is_marked marks c.number ≡ true
    → AreNamed marks cs names i matched → (slice_get names matched ≡ Some c.name → ⊥) → names ≡ map (λ d. d.name) (marked_in marks cs) → ⊥
names_differ marks cs names i matched c at e are differs all =
    let name_of : BookCon → List ℕ = λ d. d.name in
    let s = split_at cs i c at in
    let rest = map name_of (marked_in marks s.0) in
    let parts : names ≡ take matched names ++ c.name ∷ rest =
    all ∙ ap (λ (ds : List BookCon). map name_of (marked_in marks ds)) s.1 ∙ ap (λ (ds : List BookCon). map name_of ds) (marked_split marks (take i cs) (c ∷ s.0))
    ∙ ap (λ (ds : List BookCon). map name_of (marked_in marks (take i cs) ++ ds)) (marked_one marks c s.0 e)
    ∙ map-append name_of (marked_in marks (take i cs)) (c ∷ marked_in marks s.0)
    ∙ ap (λ (ns : List (List ℕ)). ns ++ c.name ∷ rest) (sym are.named) in
    let long : length (take matched names) ≡ matched = length-take-le matched names are.within in
    differs (ap (λ (ns : List (List ℕ)). slice_get ns matched) parts ∙ ap (λ (k : ℕ). slice_get (take matched names ++ c.name ∷ rest) k) (sym long) ∙ get_middle (take matched names) c.name rest)

pub names_told : (marks : List Bool) (cs : List BookCon) (names : List (List ℕ)) (place matched : ℕ) → length cs ≤ place → AreNamed marks cs names place matched
    → Tells (matched == length names) (names ≡ map (λ c. c.name) (marked_in marks cs))
names_told marks cs names place matched over are =
    let all : take matched names ≡ map (λ c. c.name) (marked_in marks cs) = are.named ∙ ap (λ (ds : List BookCon). map (λ d. d.name) (marked_in marks ds)) (take_all place cs over) in
    let decides = Decides-eqb matched (length names) in
    tells_both (names ≡ map (λ c. c.name) (marked_in marks cs)) (matched == length names)
    (λ e. let same : matched ≡ length names = decides.0 e in sym (take_all matched names (omega (arith, same))) ∙ all)
    (λ e is. not_from_Decides (matched == length names) decides e (sym (length-take-le matched names are.within) ∙ ap (λ (ns : List (List ℕ)). length ns) (all ∙ sym is)))

-- ---- what is used

picked_cons : {X : Type 0} (P : X → Type 0) (p : X → Bool) (x : X) (xs : List X) (b : Bool) → (p x ≡ true → P x) → (P x → p x ≡ true) → p x ≡ b → ArePicked P xs (filter p xs)
    → ArePicked P (x ∷ xs) (cond b (x ∷ filter p xs) (filter p xs))
picked_cons P p x xs true passes back e rest = inl (passes e, (filter p xs, refl, rest))
picked_cons P p x xs false passes back e rest = inr (λ h. true≢false (sym (back h) ∙ e), rest)

-- what passes a test is picked
picked_filter : {X : Type 0} (P : X → Type 0) (p : X → Bool) (xs : List X) → ((x : X) → p x ≡ true → P x) → ((x : X) → P x → p x ≡ true) → ArePicked P xs (filter p xs)
picked_filter P p [] passes back = refl
picked_filter P p (x ∷ xs) passes back = picked_cons P p x xs (p x) (passes x) (back x) refl (picked_filter P p xs passes back)

pub marked_used : (book : Contents) (lemmas : List Lemma) (lemma : Lemma) (marks : List Bool) → IsUsage lemmas lemma marks → AreUsed book lemmas lemma (marked_in marks book.constraints)
marked_used book lemmas lemma marks usage =
    picked_filter (λ (c : BookCon). Uses lemmas lemma c.number) (λ (c : BookCon). is_marked marks c.number) book.constraints (λ c e. usage.used c.number e) (λ c u. usage.all c.number u)

-- and nothing else is
pub used_marked : (book : Contents) (lemmas : List Lemma) (lemma : Lemma) (marks : List Bool) (used : List BookCon) → IsUsage lemmas lemma marks → AreUsed book lemmas lemma used
    → used ≡ marked_in marks book.constraints
used_marked book lemmas lemma marks used usage are =
    picked_once (λ (c : BookCon). Uses lemmas lemma c.number) book.constraints used (marked_in marks book.constraints) are (marked_used book lemmas lemma marks usage)
