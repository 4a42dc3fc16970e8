-- The texts of a book's variables.
use Rattle.std.proofs.Common.{◌≡◌, ℕ, zero, suc, ◌+◌, List, [], ◌∷◌, ◌++◌, length, flat_map, refl, sym, ap, ◌∙◌, arith}
use Rattle.std.specs.List.{range_with_len}
use Rattle.palm_book.specs.Book.{BookVar}
use Rattle.palm_cert.specs.Certificate.{declared_line}
use Rattle.palm_lang.specs.Reply.{var_line}

-- the texts of numbers, each one higher
texts_after : (f : ℕ → List ℕ) (a n : ℕ) → flat_map f (range_with_len (a + 1) n) ≡ flat_map (λ x. f (suc x)) (range_with_len a n)
texts_after f a zero = refl
texts_after f a (suc n) =
    let e : a + 1 ≡ suc a = omega arith in
    ap (λ (k : ℕ). f k ++ flat_map f (range_with_len ((a + 1) + 1) n)) e ∙ ap (λ (t : List ℕ). f (suc a) ++ t) (texts_after f (a + 1) n)

-- the lines of the variables by their numbers are those of the variables in turn
pub variables_in_turn : (variables : List BookVar) → flat_map (λ e. var_line e.name e.values) variables ≡ flat_map (declared_line variables) (range_with_len 0 (length variables))
variables_in_turn [] = refl
variables_in_turn (v ∷ variables) =
    ap (λ (t : List ℕ). var_line v.name v.values ++ t) (variables_in_turn variables ∙ sym (texts_after (declared_line (v ∷ variables)) 0 (length variables)))
