-- The names of the listed constraints, one after another.
use Rattle.std.proofs.Common.{◌≡◌, ℕ, ◌+◌, ◌≤◌, List, [], ◌∷◌, ◌++◌, length, map, take, get_or, slice_get, Some, Result, Ok, Err, OnOk, codes, sym, ap, ◌∙◌, append_assoc, append-nil}
use Rattle.std.proofs.lemmas.List.{map_more, take_all}
use Rattle.std.proofs.lemmas.Option.{get_or_from_slice_get, slice_get_within}
use Rattle.std.proofs.lemmas.List.Concat.{flat_map-append}
use Rattle.palm_book.specs.declared.book.BookCon.{BookCon}
use Rattle.palm_lang.specs.Print.{Appends}
use Rattle.palm_read.specs.Words.{after_spaces}

abbrev pub names_text : List BookCon → List ℕ
names_text constraints = after_spaces (map (λ c. c.name) constraints)

-- one more name
more_text : (constraints : List BookCon) (i : ℕ) (c : BookCon) → slice_get constraints i ≡ Some c
    → names_text (take (i + 1) constraints) ≡ names_text (take i constraints) ++ (codes " " ++ c.name)
more_text constraints i c at =
    let front : List (List ℕ) = map (λ d. d.name) (take i constraints) in
    let next : BookCon = get_or constraints i c in
    ap after_spaces (map_more (λ (d : BookCon). d.name) constraints i c (slice_get_within constraints i c at))
    ∙ flat_map-append (λ w. codes " " ++ w) front (next.name ∷ []) ∙ ap (λ (z : List ℕ). after_spaces front ++ z) (append-nil (codes " " ++ next.name))
    ∙ ap (λ (d : BookCon). after_spaces front ++ (codes " " ++ d.name)) (get_or_from_slice_get constraints i c c at)

pub one_more : (constraints : List BookCon) (i : ℕ) (c : BookCon) (was out with_space now name : List ℕ) → slice_get constraints i ≡ Some c → name ≡ c.name
    → out ≡ was ++ names_text (take i constraints) → with_space ≡ out ++ codes " " → now ≡ with_space ++ name → now ≡ was ++ names_text (take (i + 1) constraints)
one_more constraints i c was out with_space now name at named e f g =
    let front : List ℕ = names_text (take i constraints) in
    g ∙ ap (λ (z : List ℕ). with_space ++ z) named ∙ ap (λ (z : List ℕ). z ++ c.name) (f ∙ ap (λ (z : List ℕ). z ++ codes " ") e) ∙ append_assoc (was ++ front) (codes " ") c.name
    ∙ append_assoc was front (codes " " ++ c.name) ∙ ap (λ (z : List ℕ). was ++ z) (sym (more_text constraints i c at))

-- all names
pub all_names : (constraints : List BookCon) (i : ℕ) (was out : List ℕ) → length constraints ≤ i → out ≡ was ++ names_text (take i constraints)
    → out ≡ was ++ names_text constraints
all_names constraints i was out end e = e ∙ ap (λ (cs : List BookCon). was ++ names_text cs) (take_all i constraints end)

-- a text behind what was there, and then another
pub behind : (was text more mid now : List ℕ) → mid ≡ was ++ text → now ≡ mid ++ more → now ≡ was ++ (text ++ more)
behind was text more mid now e f = f ∙ ap (λ (z : List ℕ). z ++ more) e ∙ append_assoc was text more

-- the same where the other is known by an equation
pub behind_same : (was text more bytes mid now : List ℕ) → bytes ≡ more → mid ≡ was ++ text → now ≡ mid ++ bytes → now ≡ was ++ (text ++ more)
behind_same was text more bytes mid now same e f = behind was text more mid now e (f ∙ ap (λ (z : List ℕ). mid ++ z) same)

-- a text behind another one, which a call appends where it succeeds
pub appends_behind : {T E : Type 0} (was lead text mid now : List ℕ) (r : Result T E) → mid ≡ was ++ lead → Appends mid now text r → OnOk r (now ≡ was ++ (lead ++ text))
appends_behind was lead text mid now (Ok x) e a = behind was lead text mid now e a
appends_behind was lead text mid now (Err x) e a = tt
