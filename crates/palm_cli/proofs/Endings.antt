-- A text whose lines all go on has no line that ends the session.
use Rattle.std.proofs.Common.{◌≡◌, ℕ, List, [], ◌∷◌, ◌++◌, map, flat_map, All, Option, refl, sym, ap, ◌∙◌, subst}
use Rattle.std.proofs.lemmas.List.Elements.{All-head, All-tail}
use Rattle.palm_lang.specs.Reply.{ended}
use Rattle.palm_session.specs.State.{SessionState}
use Rattle.palm_read.specs.Lines.{HasNoFeed, without_return}
use Rattle.palm_session.specs.Replies.{GoesOn, Ends}
use Rattle.palm_session.specs.Feeding.{FeedsOn}
use Rattle.palm_session.proofs.cited.Keeping.{line_apart}
use Rattle.palm_cli.specs.Commands.{HasEnd}

head_of : (a b : ℕ) (xs ys : List ℕ) → a ∷ xs ≡ b ∷ ys → a ≡ b
head_of a b xs ys e = cc

tail_of : (a b : ℕ) (xs ys : List ℕ) → a ∷ xs ≡ b ∷ ys → xs ≡ ys
tail_of a b xs ys e = cc

-- bytes without a feed are not bytes with one
pub no_feed_within : (rest x t : List ℕ) → HasNoFeed rest → rest ≡ x ++ (10 ∷ t) → ⊥
no_feed_within [] [] t none e = cc
no_feed_within [] (y ∷ ys) t none e = cc
no_feed_within (b ∷ bs) [] t none e = All-head (λ z. z ≡ 10 → ⊥) b bs none (head_of b 10 bs t e)
no_feed_within (b ∷ bs) (y ∷ ys) t none e = no_feed_within bs ys t (All-tail (λ z. z ≡ 10 → ⊥) b bs none) (tail_of b y bs (ys ++ (10 ∷ t)) e)

-- a text has one first line
pub first_line : (a b t u : List ℕ) → HasNoFeed a → HasNoFeed b → a ++ (10 ∷ t) ≡ b ++ (10 ∷ u) → (a ≡ b) × (t ≡ u)
first_line [] [] t u na nb e = (refl, tail_of 10 10 t u e)
first_line [] (y ∷ ys) t u na nb e = absurd (All-head (λ z. z ≡ 10 → ⊥) y ys nb (sym (head_of 10 y t (ys ++ (10 ∷ u)) e)))
first_line (x ∷ xs) [] t u na nb e = absurd (All-head (λ z. z ≡ 10 → ⊥) x xs na (head_of x 10 (xs ++ (10 ∷ t)) u e))
first_line (x ∷ xs) (y ∷ ys) t u na nb e =
    let r = first_line xs ys t u (All-tail (λ z. z ≡ 10 → ⊥) x xs na) (All-tail (λ z. z ≡ 10 → ⊥) y ys nb) (tail_of x y (xs ++ (10 ∷ t)) (ys ++ (10 ∷ u)) e) in
    let h : x ≡ y = head_of x y (xs ++ (10 ∷ t)) (ys ++ (10 ∷ u)) e in
    (ap (λ z. z ∷ xs) h ∙ ap (λ (zs : List ℕ). y ∷ zs) r.0, r.1)

unended : (before : List (List ℕ)) (last back : List ℕ) (lines : List (List ℕ)) (rest : List ℕ)
    → All HasNoFeed (before ++ last ∷ []) → All HasNoFeed lines → HasNoFeed rest → All GoesOn (map without_return lines)
    → flat_map ended lines ++ rest ≡ flat_map ended (before ++ last ∷ []) ++ back → Ends (without_return last) → ⊥
unended [] last back [] rest nb nl nr on e ends = no_feed_within rest last ([] ++ back) nr (e ∙ line_apart last [] back)
unended (x ∷ xs) last back [] rest nb nl nr on e ends =
    no_feed_within rest x (flat_map ended (xs ++ last ∷ []) ++ back) nr (e ∙ line_apart x (xs ++ last ∷ []) back)
unended [] last back (l ∷ ls) rest nb nl nr on e ends =
    let r = first_line l last (flat_map ended ls ++ rest) ([] ++ back) (All-head HasNoFeed l ls nl) (All-head HasNoFeed last [] nb)
    (sym (line_apart l ls rest) ∙ e ∙ line_apart last [] back) in
    All-head GoesOn (without_return l) (map without_return ls) on (subst (λ (z : List ℕ). Ends (without_return z)) (sym r.0) ends)
unended (x ∷ xs) last back (l ∷ ls) rest nb nl nr on e ends =
    let r = first_line l x (flat_map ended ls ++ rest) (flat_map ended (xs ++ last ∷ []) ++ back) (All-head HasNoFeed l ls nl) (All-head HasNoFeed x (xs ++ last ∷ []) nb)
    (sym (line_apart l ls rest) ∙ e ∙ line_apart x (xs ++ last ∷ []) back) in
    unended xs last back ls rest (All-tail HasNoFeed x (xs ++ last ∷ []) nb) (All-tail HasNoFeed l ls nl) nr
    (All-tail GoesOn (without_return l) (map without_return ls) on) r.1 ends

-- all lines were answered, and the session goes on
pub no_end : (before after : SessionState) (text rest : List ℕ) (was now : Option (List ℕ)) (asked : ℕ) → FeedsOn before text was now rest after asked → HasEnd text → ⊥
no_end before after text rest was now asked f e =
    unended e.before e.last e.rest f.lines rest e.unbroken f.answered.unbroken f.unfinished f.goes_on (sym f.answered.whole ∙ e.whole) e.ends
