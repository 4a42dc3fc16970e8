-- Bytes with prefixes before their lines, and the same bytes without them.
use Rattle.std.proofs.Common.{◌≡◌, ◌≢◌, ◌⊎◌, inl, inr, ℕ, zero, suc, ◌+◌, ◌<◌, ◌≤◌, ◌-◌, Bool, true, false, cond, nat_eq, List, [], ◌∷◌, ◌++◌, length, take, drop, All, refl, sym, ap, ◌∙◌, subst, arith, append_assoc}
use Rattle.std.specs.List.{ends_with}
use Rattle.std.specs.Cmp.Lexicographic.{pointwise}
use Rattle.std.proofs.lemmas.Bool.{and_from, and_left, cases_eq, eq-eqb, false_from_ne_true, ne_eqb}
use Rattle.std.proofs.lemmas.Bool.Decides.{Decides-eqb}
use Rattle.std.proofs.lemmas.List.{drop-drop, drop-take, drop_at, length-take, length-take-le, take-append-drop, take-take}
use Rattle.std.proofs.lemmas.List.Elements.{All-head, All-tail}
use Rattle.palm_hub.specs.Marked.{begins_line, marked_from, marked}
use Rattle.palm_hub.specs.Prefixed.{IsInLine, IsLineOf, bare_from, bare, begun, rebuilt_from, sent_of}

-- ---- one text behind another

pub begins_append : (start : Bool) (xs ys : List ℕ) → begins_line start (xs ++ ys) ≡ begins_line (begins_line start xs) ys
begins_append start [] ys = refl
begins_append start (b ∷ xs) ys = begins_append (nat_eq b 10) xs ys

pub marked_append : (p : List ℕ) (start : Bool) (xs ys : List ℕ)
    → marked_from p start (xs ++ ys) ≡ marked_from p start xs ++ marked_from p (begins_line start xs) ys
marked_append p start [] ys = refl
marked_append p true (b ∷ xs) ys =
    ap (λ t. p ++ b ∷ t) (marked_append p (nat_eq b 10) xs ys)
    ∙ sym (append_assoc p (b ∷ marked_from p (nat_eq b 10) xs) (marked_from p (begins_line (nat_eq b 10) xs) ys))
marked_append p false (b ∷ xs) ys = ap (λ t. b ∷ t) (marked_append p (nat_eq b 10) xs ys)

-- ---- bytes of one line

no_feed : (b : ℕ) → b ≢ 10 → nat_eq b 10 ≡ false
no_feed b n = false_from_ne_true (nat_eq b 10) (λ e. n ((Decides-eqb b 10).0 e))

-- within a line there are no marks
in_line : (p bytes : List ℕ) → IsInLine bytes → marked_from p false bytes ≡ bytes
in_line p [] h = refl
in_line p (b ∷ []) h = refl
in_line p (b ∷ c ∷ bytes) h = ap (λ t. b ∷ t) (ap (λ s. marked_from p s (c ∷ bytes)) (no_feed b h.0) ∙ in_line p (c ∷ bytes) h.1)

rest_in_line : (p : List ℕ) (b : ℕ) (bytes : List ℕ) → IsInLine (b ∷ bytes) → marked_from p (nat_eq b 10) bytes ≡ bytes
rest_in_line p b [] h = refl
rest_in_line p b (c ∷ bytes) h = ap (λ s. marked_from p s (c ∷ bytes)) (no_feed b h.0) ∙ in_line p (c ∷ bytes) h.1

-- where a line begins, the prefix stands before it
pub marked_line : (p bytes : List ℕ) (start : Bool) → 0 < length bytes → IsInLine bytes
    → marked_from p start bytes ≡ cond start p [] ++ bytes
marked_line p [] start some h = absurd (omega (arith, some))
marked_line p (b ∷ bytes) true some h = ap (λ t. p ++ b ∷ t) (rest_in_line p b bytes h)
marked_line p (b ∷ bytes) false some h = in_line p (b ∷ bytes) h

-- behind some bytes it does not matter whether a line began before them
begins_some : (start : Bool) (bytes : List ℕ) → 0 < length bytes → begins_line start bytes ≡ begins_line false bytes
begins_some start [] some = absurd (omega (arith, some))
begins_some start (b ∷ bytes) some = refl

pub begins_behind : (sent bytes : List ℕ) → 0 < length bytes → begins_line true (sent ++ bytes) ≡ begins_line false bytes
begins_behind sent bytes some = begins_append true sent bytes ∙ begins_some (begins_line true sent) bytes some

-- ---- where a line is cut

pub all_in_line : (xs : List ℕ) → All (λ b. b ≢ 10) xs → IsInLine xs
all_in_line [] h = tt
all_in_line (b ∷ []) h = tt
all_in_line (b ∷ c ∷ xs) h = (All-head (λ x. x ≢ 10) b (c ∷ xs) h, all_in_line (c ∷ xs) (All-tail (λ x. x ≢ 10) b (c ∷ xs) h))

feed_line : (end : ℕ) (xs : List ℕ) → All (λ b. b ≢ 10) (take end xs) → IsInLine (take (suc end) xs)
feed_line end [] h = tt
feed_line zero (b ∷ xs) h = tt
feed_line (suc end) (b ∷ xs) h = by (take (suc end) xs) (feed_line end xs (All-tail (λ x. x ≢ 10) b (take end xs) h))
  where
    by : (ys : List ℕ) → IsInLine ys → IsInLine (b ∷ ys)
    by [] l = tt
    by (y ∷ ys) l = (All-head (λ x. x ≢ 10) b (take end xs) h, l)

-- behind the first line feed
pub feed_in_line : (end : ℕ) (xs : List ℕ) → All (λ b. b ≢ 10) (take end xs) → IsInLine (take (end + 1) xs)
feed_in_line end xs h = let e : suc end ≡ end + 1 = omega arith in subst (λ k. IsInLine (take k xs)) e (feed_line end xs h)

pub take_in_line : (n : ℕ) (xs : List ℕ) → IsInLine xs → IsInLine (take n xs)
take_in_line zero xs l = tt
take_in_line (suc n) [] l = tt
take_in_line (suc zero) (b ∷ xs) l = tt
take_in_line (suc (suc n)) (b ∷ []) l = tt
take_in_line (suc (suc n)) (b ∷ c ∷ xs) l = (l.0, take_in_line (suc n) (c ∷ xs) l.1)

-- a line begins behind bytes where a line feed is their end
pub ends_with_feed : (bytes : List ℕ) → ends_with nat_eq bytes (10 ∷ []) ≡ begins_line false bytes
ends_with_feed [] = refl
ends_with_feed (b ∷ []) = by (cases_eq b 10)
  where
    by : (b ≡ 10) ⊎ (b ≡ 10 → ⊥) → ends_with nat_eq (b ∷ []) (10 ∷ []) ≡ nat_eq b 10
    by (inl e) = and_from _ _ (eq-eqb 10 b (sym e)) refl ∙ sym (eq-eqb b 10 e)
    by (inr n) = and_left _ _ (ne_eqb 10 b (λ e. n (sym e))) ∙ sym (ne_eqb b 10 n)
ends_with_feed (b ∷ c ∷ bytes) =
    let e : length (b ∷ c ∷ bytes) - 1 ≡ suc (length (c ∷ bytes) - 1) = omega arith in
    ap (λ k. pointwise nat_eq (10 ∷ []) (drop k (b ∷ c ∷ bytes))) e ∙ ends_with_feed (c ∷ bytes)

-- ---- without the prefixes

skip_prefix : (size : ℕ) (p bytes : List ℕ) → bare_from size (length p) (p ++ bytes) ≡ bare_from size 0 bytes
skip_prefix size [] bytes = refl
skip_prefix size (b ∷ p) bytes = skip_prefix size p bytes

skip_all : (size n : ℕ) (bytes : List ℕ) → length bytes ≤ n → bare_from size n bytes ≡ []
skip_all size n [] few = refl
skip_all size zero (b ∷ bytes) few = absurd (omega (arith, few))
skip_all size (suc n) (b ∷ bytes) few = skip_all size n bytes (omega (arith, few))

bare_marked : (p sent : List ℕ) (start : Bool) (shown : ℕ)
    → bare_from (length p) (cond start (length p) 0) (marked_from p start sent ++ begun (begins_line start sent) shown p) ≡ sent
bare_marked p [] true shown = skip_all (length p) (length p) (take shown p) (omega (arith, length-take shown p))
bare_marked p [] false shown = refl
bare_marked p (b ∷ sent) true shown =
    ap (bare_from (length p) (length p)) (append_assoc p (b ∷ marked_from p (nat_eq b 10) sent) (begun (begins_line (nat_eq b 10) sent) shown p))
    ∙ skip_prefix (length p) p (b ∷ (marked_from p (nat_eq b 10) sent ++ begun (begins_line (nat_eq b 10) sent) shown p))
    ∙ ap (λ t. b ∷ t) (bare_marked p sent (nat_eq b 10) shown)
bare_marked p (b ∷ sent) false shown = ap (λ t. b ∷ t) (bare_marked p sent (nat_eq b 10) shown)

-- what was built of bytes tells these bytes
pub sent_back : (base p sent : List ℕ) (shown : ℕ) → sent_of base p (rebuilt_from base p sent shown) ≡ sent
sent_back base p sent shown =
    ap (bare p) (drop_at base (marked p sent ++ begun (begins_line true sent) shown p) (length base) refl)
    ∙ bare_marked p sent true shown

-- ---- more of a prefix

-- the first bytes and then more of them
pub take_then : (m n : ℕ) (p : List ℕ) → m ≤ n → take m p ++ take (n - m) (drop m p) ≡ take n p
take_then m n p le =
    let e : m + (n - m) ≡ n = omega (arith, le) in
    ap (λ t. t ++ take (n - m) (drop m p)) (sym (take-take m n p le))
    ∙ ap (λ t. take m (take n p) ++ t) (sym (drop-take m (n - m) p) ∙ ap (λ k. drop m (take k p)) e)
    ∙ take-append-drop m (take n p)

-- a part of a prefix and then more of it
pub part_more : (before shown n : ℕ) (p : List ℕ) → before ≤ shown
    → take (shown - before) (drop before p) ++ take n (drop shown p) ≡ take (shown + n - before) (drop before p)
part_more before shown n p le =
    let at : before + (shown - before) ≡ shown = omega (arith, le) in
    let left : (shown + n - before) - (shown - before) ≡ n = omega (arith, le) in
    let more : shown - before ≤ shown + n - before = omega arith in
    ap (λ d. take (shown - before) (drop before p) ++ take n d) (sym (drop-drop (shown - before) before p ∙ ap (λ k. drop k p) at))
    ∙ ap (λ k. take (shown - before) (drop before p) ++ take k (drop (shown - before) (drop before p))) (sym left)
    ∙ take_then (shown - before) (shown + n - before) (drop before p) more

-- a front of a piece that is one line
pub line_of_front : (n : ℕ) (piece : List ℕ) → 0 < n → n ≤ length piece → IsInLine (take n piece) → IsLineOf (take n piece) piece
line_of_front n piece some few line =
    let size : length (take n piece) ≡ n = length-take-le n piece few in
    record { some = omega (arith, size); few = omega (arith, size); front = sym (ap (λ k. take k piece) size); in_line = line }
