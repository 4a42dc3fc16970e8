-- One text appended behind another.
use Rattle.std.proofs.Common.{◌≡◌, ℕ, ℤ, ◌+◌, ◌-◌, min, zip, ◌<◌, List, [], ◌∷◌, ◌++◌, length, get_or, take, drop, map, flat_map, All, codes, IsErr, true≢false, Result, Ok, Err, refl, sym, ap, ◌∙◌, arith}
use Rattle.std.proofs.lemmas.List.{append-nil, append_assoc, flat_map_more, take_all, take_more, length-map, get_or-map, map_more}
use Rattle.std.proofs.lemmas.Slice.Zip.{get_or-zip, length-zip}
use Rattle.std.specs.Fmt.{signed_decimal}
use Rattle.std.proofs.lemmas.List.Concat.{flat_map-append}
use Rattle.palm_lang.specs.Print.{Keeps, Puts}
use Rattle.palm_read.specs.Linear.{linear_terms_words, linear_first_text, linear_later_words}
use Rattle.palm_read.specs.Words.{after_spaces}
use Rattle.palm_book.specs.Book.{BookVar, name_of}
use Rattle.palm_book.specs.Named.{named_term}
use Rattle.palm_lang.specs.Reply.{assigned_text, pair_text, reasons_text}
use Rattle.palm_base.specs.declared.terms.Pair.{Pair}
use Rattle.palm_read.specs.declared.line.NameTerm.{NameTerm}
use Rattle.palm_model.specs.declared.constraint.Term.{Term}

pub Keeps-self : (a b : List ℕ) → b ≡ a → Keeps a b
Keeps-self a b e = record { rest = []; is = e ∙ sym (append-nil a) }

pub Keeps-more : (a b c x : List ℕ) → b ≡ a ++ x → Keeps b c → Keeps a c
Keeps-more a b c x e k = record { rest = x ++ k.rest; is = k.is ∙ ap (λ y. y ++ k.rest) e ∙ append_assoc a x k.rest }

-- what stands behind the words of several things
pub after_spaces-flat_map : {X : Type 0} (f : X → List (List ℕ)) (xs : List X) → after_spaces (flat_map f xs) ≡ flat_map (λ x. after_spaces (f x)) xs
after_spaces-flat_map f [] = refl
after_spaces-flat_map f (x ∷ xs) =
    flat_map-append (λ w. codes " " ++ w) (f x) (flat_map f xs) ∙ ap (λ (rest : List ℕ). after_spaces (f x) ++ rest) (after_spaces-flat_map f xs)

flat_map-map : {X Y : Type 0} (f : Y → List ℕ) (g : X → Y) (xs : List X) → flat_map f (map g xs) ≡ flat_map (λ x. f (g x)) xs
flat_map-map f g [] = refl
flat_map-map f g (x ∷ xs) = ap (λ (rest : List ℕ). f (g x) ++ rest) (flat_map-map f g xs)

-- the words of a sum's terms, the first of them and the rest
pub linear_text : (terms : List NameTerm) (first : NameTerm) → 0 < length terms → first ≡ get_or terms 0 first → after_spaces (linear_terms_words terms) ≡ codes " " ++ linear_first_text first.factor first.name ++ flat_map (λ t. after_spaces (linear_later_words t.factor t.name)) (take (length terms - 1) (drop 1 terms))
linear_text [] first some is = absurd (omega arith)
linear_text (t ∷ ts) first some is =
    let rest : take (length (t ∷ ts) - 1) ts ≡ ts = take_all (length (t ∷ ts) - 1) ts (omega arith) in
    rw (is, after_spaces-flat_map, rest) refl

-- the same for the terms of a constraint with variables in place of names
pub linear_con_text : (variables : List BookVar) (terms : List Term) (first : Term) → 0 < length terms → first ≡ get_or terms 0 first → after_spaces (linear_terms_words (map (named_term variables) terms)) ≡ codes " " ++ linear_first_text first.factor (name_of variables first.var) ++ flat_map (λ t. after_spaces (linear_later_words t.factor (name_of variables t.var))) (take (length terms - 1) (drop 1 terms))
linear_con_text variables [] first some is = absurd (omega arith)
linear_con_text variables (t ∷ ts) first some is =
    let rest : take (length (t ∷ ts) - 1) ts ≡ ts = take_all (length (t ∷ ts) - 1) ts (omega arith) in
    let later : NameTerm → List ℕ = λ u. after_spaces (linear_later_words u.factor u.name) in
    let named : flat_map later (map (named_term variables) ts) ≡ flat_map (λ u. after_spaces (linear_later_words u.factor (name_of variables u.var))) ts = flat_map-map later (named_term variables) ts in
    rw (is, rest, after_spaces-flat_map, named) refl

-- where memory ran out
pub Puts-kept : {T E : Type 0} (a c text : List ℕ) (r : Result T E) → IsErr r → Keeps a c → Puts a c text r
Puts-kept a c text (Ok v) failed k = absurd (true≢false (sym failed))
Puts-kept a c text (Err v) failed k = k

-- where memory ran out behind a text
pub Puts-failed : {T E : Type 0} (a b c x text : List ℕ) (r : Result T E) → IsErr r → b ≡ a ++ x → Keeps b c → Puts a c text r
Puts-failed a b c x text r failed e k = Puts-kept a c text r failed (Keeps-more a b c x e k)

-- two texts, one behind the other
pub both_put : (a b c x y : List ℕ) → b ≡ a ++ x → c ≡ b ++ y → c ≡ a ++ (x ++ y)
both_put a b c x y e f = f ∙ ap (λ (z : List ℕ). z ++ y) e ∙ append_assoc a x y

-- a text that is followed by another
pub Puts-more : {T E : Type 0} (a b c x y text : List ℕ) (r : Result T E) → b ≡ a ++ x → text ≡ x ++ y → Puts b c y r → Puts a c text r
Puts-more a b c x y text (Ok v) e t p = p ∙ ap (λ (z : List ℕ). z ++ y) e ∙ append_assoc a x y ∙ ap (λ (z : List ℕ). a ++ z) (sym t)
Puts-more a b c x y text (Err v) e t p = Keeps-more a b c x e p

-- one more of the texts that a loop puts one behind another
pub texts_more : {X : Type 0} (text : X → List ℕ) (old before after : List ℕ) (xs : List X) (i : ℕ) (x : X) → i < length xs → x ≡ get_or xs i x → before ≡ old ++ flat_map text (take i xs) → after ≡ before ++ text x → after ≡ old ++ flat_map text (take (i + 1) xs)
texts_more text old before after xs i x lt is so put =
    let more : take (i + 1) xs ≡ take i xs ++ x ∷ [] = take_more xs i x lt ∙ ap (λ y. take i xs ++ y ∷ []) (sym is) in
    put ∙ ap (λ (bytes : List ℕ). bytes ++ text x) so ∙ flat_map_more text old (take i xs) x ∙ ap (λ items. old ++ flat_map text items) (sym more)

-- the same for texts of what is made of each thing
pub mapped_more : {X Y : Type 0} (text : Y → List ℕ) (made : X → Y) (old before after : List ℕ) (xs : List X) (i : ℕ) (x : X) → i < length xs → x ≡ get_or xs i x → before ≡ old ++ flat_map text (map made (take i xs)) → after ≡ before ++ text (made x) → after ≡ old ++ flat_map text (map made (take (i + 1) xs))
mapped_more text made old before after xs i x lt is so put =
    let so_each = so ∙ ap (λ (bytes : List ℕ). old ++ bytes) (flat_map-map text made (take i xs)) in
    texts_more (λ y. text (made y)) old before after xs i x lt is so_each put ∙ ap (λ (bytes : List ℕ). old ++ bytes) (sym (flat_map-map text made (take (i + 1) xs)))

-- the reasons of a removal, the first of them and the rest
pub reasons_more : (variables : List BookVar) (pairs : List Pair) (first : Pair) → 0 < length pairs → first ≡ get_or pairs 0 first → reasons_text variables pairs ≡ codes " from " ++ (pair_text variables first ++ flat_map (λ p. codes ", " ++ pair_text variables p) (take (length pairs - 1) (drop 1 pairs)))
reasons_more variables [] first some is = absurd (omega arith)
reasons_more variables (p ∷ ps) first some is =
    let further : List Pair → List ℕ = flat_map (λ q. codes ", " ++ pair_text variables q) in
    let rest : take (length (p ∷ ps) - 1) ps ≡ ps = take_all (length (p ∷ ps) - 1) ps (omega arith) in
    ap (λ q. codes " from " ++ (pair_text variables q ++ further ps)) (sym is) ∙ ap (λ qs. codes " from " ++ (pair_text variables first ++ further qs)) (sym rest)

-- several words with another and more behind them
pub after_spaces-append : (words : List (List ℕ)) (w : List ℕ) (more : List (List ℕ)) → after_spaces (words ++ w ∷ more) ≡ after_spaces words ++ (codes " " ++ (w ++ after_spaces more))
after_spaces-append words w more = flat_map-append (λ v. codes " " ++ v) words (w ∷ more)

-- what holds of the variables of terms holds of the terms
pub terms_declared : (variables : ℕ) (terms : List Term) → All (λ x. x < variables) (map (λ t. t.var) terms) → All (λ t. t.var < variables) terms
terms_declared variables terms h = λ k d lt.
    let at = h k d.var (omega (arith, length-map terms (λ (t : Term). t.var))) in
    omega (arith, at, get_or-map (λ (t : Term). t.var) terms k d d.var lt)

-- one more variable of an assignment
pub assigned_more : (variables : List BookVar) (values : List ℤ) (i : ℕ) (value : ℤ) → i < length values → length values ≡ length variables → value ≡ get_or values i value → after_spaces (map assigned_text (take (i + 1) (zip variables values))) ≡ after_spaces (map assigned_text (take i (zip variables values))) ++ (codes " " ++ (name_of variables i ++ codes "=" ++ signed_decimal value))
assigned_more variables values i value within same is =
    let nothing : BookVar = record { name = []; values = [] } in
    let pairs : List (BookVar × ℤ) = zip variables values in
    let len : length pairs ≡ min (length variables) (length values) = length-zip variables values in
    let more = map_more assigned_text pairs i (nothing, value) (omega arith) in
    let pair : get_or pairs i (nothing, value) ≡ (get_or variables i nothing, get_or values i value) = get_or-zip variables values i (nothing, value) (omega arith) within in
    let text : assigned_text (get_or pairs i (nothing, value)) ≡ name_of variables i ++ codes "=" ++ signed_decimal value = ap assigned_text pair ∙ ap (λ v. name_of variables i ++ codes "=" ++ signed_decimal v) (sym is) in
    ap after_spaces more ∙ after_spaces-append (map assigned_text (take i pairs)) (assigned_text (get_or pairs i (nothing, value))) [] ∙ ap (λ (t : List ℕ). after_spaces (map assigned_text (take i pairs)) ++ (codes " " ++ t)) (append-nil (assigned_text (get_or pairs i (nothing, value))) ∙ text)

pub ruleset keeping = (Keeps-self, Keeps-more)
