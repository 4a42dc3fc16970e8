-- The sum of a list of terms, one term after another, and how large it can be.
use Rattle.std.proofs.Common.{◌≡◌, ℕ, zero, suc, ◌+◌, ◌*◌, ◌<◌, ◌≤◌, List, [], ◌∷◌, length, get_or, take, All, ℤ, pos, negsuc, ◌+ℤ◌, ◌*ℤ◌, FitsSigned, unsigned_abs, sym, ap, subst, arith, add-one, mul-le-mul, to_z, of_z, w32, w64}
use Rattle.std.proofs.lemmas.Int.{ints, unsigned_abs-mul, fits_signed_from_abs, to_z-of_z}
use Rattle.std.proofs.lemmas.List.Elements.{All-contains, Contains-get_or}
use Rattle.palm_base.proofs.cited.Members.{member_map, member_same}
use Rattle.palm_model.specs.Domains.{Assignment}
use Rattle.palm_model.specs.Limits.{IsUpTo}
use Rattle.palm_model.specs.Linear.{term_vars, total}
use Rattle.palm_model.specs.declared.constraint.Term.{Term}

total_suc : (a : Assignment) (terms : List Term) (i : ℕ) (t : Term) → i < length terms → t ≡ get_or terms i t → total a (take (suc i) terms) ≡ total a (take i terms) +ℤ (t.factor *ℤ a t.var)
total_suc a [] i t lt e = absurd (omega arith)
total_suc a (u ∷ ts) zero t lt e = let same = ap (λ (s : Term). s.factor *ℤ a s.var) e in omega (arith, ints)
total_suc a (u ∷ ts) (suc i) t lt e = let more = total_suc a ts i t (omega arith) e in omega (arith, ints)

-- the sum of one more term
pub total_more : (a : Assignment) (terms : List Term) (i : ℕ) (t : Term) → i < length terms → t ≡ get_or terms i t → total a (take (i + 1) terms) ≡ total a (take i terms) +ℤ (t.factor *ℤ a t.var)
total_more a terms i t lt e = rw add-one (total_suc a terms i t lt e)

-- the variable of a term is one of the variables of the sum
pub term_declared : (n : ℕ) (terms : List Term) (i : ℕ) (t : Term) → All (λ x. x < n) (term_vars terms) → i < length terms → t ≡ get_or terms i t → t.var < n
term_declared n terms i t h lt e =
    All-contains (λ x. x < n) (term_vars terms) t.var h
    (member_map (λ (u : Term). u.var) terms t (member_same terms (get_or terms i t) t (sym e) (Contains-get_or terms i t lt)))

abs_up_to : (n : ℕ) (z : ℤ) → IsUpTo n z → unsigned_abs z ≤ n
abs_up_to n (pos k) h = omega (arith, ints, h.above, h.below)
abs_up_to n (negsuc k) h = omega (arith, ints, h.above, h.below)

up_to_abs : (n : ℕ) (z : ℤ) → unsigned_abs z ≤ n → IsUpTo n z
up_to_abs n (pos k) h = record { above = omega (arith, ints); below = omega (arith, ints) }
up_to_abs n (negsuc k) h = record { above = omega (arith, ints); below = omega (arith, ints) }

pub abs_fits : (z : ℤ) → FitsSigned w32 z → unsigned_abs z ≤ 2147483648
abs_fits (pos k) h = omega (arith, ints, h.sfits)
abs_fits (negsuc k) h = omega (arith, ints, h.sfits)

-- a coefficient of the language times a value
pub product_up_to : (f v : ℤ) → IsUpTo 100000 f → FitsSigned w32 v → IsUpTo 214748364800000 (f *ℤ v)
product_up_to f v h k =
    up_to_abs 214748364800000 (f *ℤ v) (subst (λ n. n ≤ 214748364800000) (sym (unsigned_abs-mul f v)) (mul-le-mul (abs_up_to 100000 f h) (abs_fits v k)))

-- a number within these bounds is the same after a round trip through its 64 bits
pub round_up_to : (z : ℤ) → IsUpTo 4000000000000000 z → to_z w64 (of_z w64 z) ≡ z
round_up_to z h = to_z-of_z w64 z (fits_signed_from_abs w64 z (omega (arith, abs_up_to 4000000000000000 z h)))

pub up_to_more : (m n : ℕ) (z : ℤ) → m ≤ n → IsUpTo m z → IsUpTo n z
up_to_more m n z le h = record { above = omega (arith, ints, h.above); below = omega (arith, ints, h.below) }

pub round_factor : (z : ℤ) → IsUpTo 100000 z → to_z w32 (of_z w32 z) ≡ z
round_factor z h = to_z-of_z w32 z (fits_signed_from_abs w32 z (omega (arith, abs_up_to 100000 z h)))

-- the product as the code computes it, from numbers that went through their 64 bits
pub product_read : (x y f v : ℤ) → x ≡ f → y ≡ v → IsUpTo 100000 f → FitsSigned w32 v → to_z w64 (of_z w64 (to_z w64 (of_z w64 x) *ℤ to_z w64 (of_z w64 y))) ≡ f *ℤ v
product_read x y f v e g h k =
    let small = up_to_more 214748364800000 4000000000000000 (f *ℤ v) (omega arith) (product_up_to f v h k) in
    let at_f = round_up_to f (up_to_more 100000 4000000000000000 f (omega arith) h) in
    let at_v = round_up_to v (up_to_more 2147483648 4000000000000000 v (omega arith) (up_to_abs 2147483648 v (abs_fits v k))) in
    rw (e, g, at_f, at_v) (round_up_to (f *ℤ v) small)

-- two sums so far
pub sum_up_to : (i : ℕ) (m n : ℤ) → IsUpTo (i * 214748364800000) m → IsUpTo 214748364800000 n → IsUpTo ((i + 1) * 214748364800000) (m +ℤ n)
sum_up_to i m n h k = record {
  above = omega (arith, ints, h.above, k.above);
  below = omega (arith, ints, h.below, k.below);
}

-- the sum as the code computes it
pub sum_read : (i : ℕ) (m n : ℤ) → i ≤ 16 → IsUpTo (i * 214748364800000) m → IsUpTo 214748364800000 n → to_z w64 (of_z w64 (m +ℤ to_z w64 (of_z w64 n))) ≡ m +ℤ n
sum_read i m n few h k =
    let at_n = round_up_to n (up_to_more 214748364800000 4000000000000000 n (omega arith) k) in
    rw at_n (round_up_to (m +ℤ n) (up_to_more ((i + 1) * 214748364800000) 4000000000000000 (m +ℤ n) (omega arith) (sum_up_to i m n h k)))
