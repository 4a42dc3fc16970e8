-- The lines of a generated session, one after another.
use Rattle.std.proofs.Common.{◌≡◌, ℕ, zero, suc, ◌+◌, ◌-◌, ◌*◌, ◌<◌, ◌≤◌, Bool, true, nat_lt, List, [], ◌∷◌, ◌++◌, map, flat_map, length, refl, sym, ap, ◌∙◌, arith, append_assoc, append-nil, length-append, Result, Ok, Err, OnOk, is_ok, if◌then◌else◌}
use Rattle.std.proofs.lemmas.Grind.{flat_map-append}
use Rattle.std.proofs.lemmas.Bool.Decides.{nat_tests}
use Rattle.std.proofs.Math.Nat.{mul-suc, suc-mul}
use Rattle.palm_lang.specs.Reply.{ended}
use Rattle.palm_session.specs.Objects.{numbered, numbered_from}
use Rattle.palm_cli.specs.Generator.{queen_line, differ_line, pair_lines, where_several, retract_line, easing_lines, solve_line, generated_lines}

numbered_more : (n k : ℕ) → numbered_from n (suc k) ≡ numbered_from n k ++ (n + k) ∷ []
numbered_more n zero = ap (λ (m : ℕ). m ∷ []) (omega arith)
numbered_more n (suc k) =
    let here : suc n + k ≡ n + suc k = omega arith in
    ap (λ (z : List ℕ). n ∷ z) (numbered_more (suc n) k) ∙ ap (λ (m : ℕ). n ∷ (numbered_from (suc n) k ++ m ∷ [])) here

-- the text of one more
pub more : (f : ℕ → List ℕ) (base was now : List ℕ) (a k x y : ℕ) → y ≡ suc k → x ≡ a + k
    → was ≡ base ++ flat_map f (numbered_from a k) → now ≡ was ++ f x → now ≡ base ++ flat_map f (numbered_from a y)
more f base was now a k x y next at is adds =
    let one : flat_map f ((a + k) ∷ []) ≡ f x = append-nil (f (a + k)) ∙ ap f (sym at) in
    adds ∙ ap (λ (z : List ℕ). z ++ f x) is ∙ append_assoc base (flat_map f (numbered_from a k)) (f x)
    ∙ ap (λ (z : List ℕ). base ++ (flat_map f (numbered_from a k) ++ z)) (sym one)
    ∙ ap (λ (z : List ℕ). base ++ z) (sym (flat_map-append f (numbered_from a k) ((a + k) ∷ [])))
    ∙ ap (λ (z : List ℕ). base ++ flat_map f z) (sym (numbered_more a k))
    ∙ ap (λ (m : ℕ). base ++ flat_map f (numbered_from a m)) (sym next)

-- the text of lines that are made one from each number, and some from each
pub text_of_map : (g : ℕ → List ℕ) (xs : List ℕ) → flat_map ended (map g xs) ≡ flat_map (λ i. ended (g i)) xs
text_of_map g [] = refl
text_of_map g (x ∷ xs) = ap (λ (z : List ℕ). ended (g x) ++ z) (text_of_map g xs)

pub text_of_each : (h : ℕ → List (List ℕ)) (xs : List ℕ) → flat_map ended (flat_map h xs) ≡ flat_map (λ i. flat_map ended (h i)) xs
text_of_each h [] = refl
text_of_each h (x ∷ xs) = flat_map-append ended (h x) (flat_map h xs) ∙ ap (λ (z : List ℕ). flat_map ended (h x) ++ z) (text_of_each h xs)

-- ---- how many lines there are

length_map : (g : ℕ → List ℕ) (a k : ℕ) → length (map g (numbered_from a k)) ≡ k
length_map g a zero = refl
length_map g a (suc k) = let rest = length_map g (suc a) k in omega (arith, rest)

length_pairs_of : (i a k : ℕ) → length (flat_map (pair_lines i) (numbered_from a k)) ≡ k + k
length_pairs_of i a zero = refl
length_pairs_of i a (suc k) = let rest = length_pairs_of i (suc a) k in omega (arith, rest)

length_pairs : (size i k : ℕ) → i + k ≡ size → length (flat_map (λ j. flat_map (pair_lines j) (numbered_from (j + 1) (size - j))) (numbered_from i k)) ≡ k * suc k
length_pairs size i zero e = refl
length_pairs size i (suc k) e =
    let h : ℕ → List (List ℕ) = λ j. flat_map (pair_lines j) (numbered_from (j + 1) (size - j)) in
    let one = length_pairs_of i (i + 1) (size - i) in
    let rest = length_pairs size (suc i) k (omega (arith, e)) in
    let whole = length-append (h i) (flat_map h (numbered_from (suc i) k)) in
    let first : suc k * suc (suc k) ≡ suc k * suc k + suc k = mul-suc (suc k) (suc k) in
    let second : suc k * suc k ≡ k * suc k + suc k = suc-mul k (suc k) in
    omega (arith, one, rest, whole, first, second, e)

length_parts : (a b c e : List (List ℕ)) (s : List ℕ) → length (a ++ b ++ c ++ (s ∷ e) ++ (s ∷ [])) ≡ length a + length b + length c + length e + 2
length_parts a b c e s =
    omega (arith, length-append (a ++ b ++ c ++ (s ∷ e)) (s ∷ []), length-append (a ++ b ++ c) (s ∷ e), length-append (a ++ b) c, length-append a b)

length_several : (size : ℕ) (line : List ℕ) → 1 < size → length (where_several size (line ∷ [])) ≡ 1
length_several size line many =
    let t : nat_lt 1 size ≡ true = grind (arith, nat_tests, many) in
    ap (λ (b : Bool). length (if b then line ∷ [] else [])) t

several_lines : (n : ℕ) → length (generated_lines (suc (suc n))) ≡ suc (suc n) * suc (suc n) + 4
several_lines n =
    let size : ℕ = suc (suc n) in
    let queens : List (List ℕ) = map (queen_line size) (numbered size) in
    let pairs : List (List ℕ) = flat_map (λ j. flat_map (pair_lines j) (numbered_from (j + 1) (size - j))) (numbered (size - 1)) in
    let one : length queens ≡ size = length_map (queen_line size) 1 size in
    let fewer : size - 1 ≡ suc n = omega arith in
    let two : length pairs ≡ suc n * suc (suc n) =
    ap (λ (m : ℕ). length (flat_map (λ j. flat_map (pair_lines j) (numbered_from (j + 1) (size - j))) (numbered m))) fewer ∙ length_pairs size 1 (suc n) (omega arith) in
    let three = length_several size (differ_line size) (omega arith) in
    let four = length_several size retract_line (omega arith) in
    let five : suc (suc n) * suc (suc n) ≡ suc n * suc (suc n) + suc (suc n) = suc-mul (suc n) (suc (suc n)) in
    length_parts queens (where_several size (differ_line size ∷ [])) pairs (easing_lines size) solve_line ∙ omega (arith, one, two, three, four, five)

pub line_count_is : (size : ℕ) → 1 ≤ size → (size ≡ 1 → ⊥) → length (generated_lines size) ≡ size * size + 4
line_count_is zero some other = absurd (omega (arith, some))
line_count_is (suc zero) some other = absurd (other refl)
line_count_is (suc (suc n)) some other = several_lines n

-- what follows from a fact of a good answer
pub on_ok : {T E : Type 0} (P Q : Type 0) (r : Result T E) → (P → Q) → OnOk r P → OnOk r Q
on_ok P Q (Ok x) f h = f h
on_ok P Q (Err e) f h = tt

pub on_ok_if : {T E : Type 0} (P : Type 0) (r : Result T E) (s a b : List ℕ) → s ≡ (if is_ok r then a else b) → (s ≡ a → P) → OnOk r P
on_ok_if P (Ok x) s a b e f = f e
on_ok_if P (Err x) s a b e f = tt
