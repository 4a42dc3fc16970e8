-- How far the code holds the numbers that were read.
use Rattle.std.proofs.Common.{◌≡◌, ℤ, pos, negsuc, List, [], ◌∷◌, refl, ap, ◌∙◌, arith, map, FitsSigned, to_z, of_z, w64, true}
use Rattle.std.proofs.lemmas.Int.{ints, to_z-of_z}
use Rattle.palm_model.specs.declared.constraint.Op.{Op}
use Rattle.palm_read.specs.declared.line.Shape.TheVariants.{Linear}
use Rattle.palm_read.specs.declared.line.NameTerm.{NameTerm}
use Rattle.palm_read.specs.Token.{Lexeme}
use Rattle.palm_read.specs.Form.{LinearForm}
use Rattle.palm_read.specs.Linear.{TermForm, term_of}
use Rattle.palm_read.specs.Reading.{shape_of}
use Rattle.palm_read.specs.Reader.Shapes.{linear_terms_at, is_linear_op, linear_at}
use Rattle.palm_read.specs.Reader.Steps.{and_then, choose, op_at, integer_at}
use Rattle.palm_read.specs.Reader.Held.{Holds, held, held_term, held_shape}

held_bound_fits : (z : ℤ) → FitsSigned w64 (held 1000000000001 z)
held_bound_fits (pos n) = omega (arith, ints)
held_bound_fits (negsuc n) = omega (arith, ints)

bound_same : (b z : ℤ) → b ≡ held 1000000000001 z → to_z w64 (of_z w64 b) ≡ held 1000000000001 z
bound_same b z e = ap (λ x. to_z w64 (of_z w64 x)) e ∙ to_z-of_z w64 (held 1000000000001 z) (held_bound_fits z)

terms_same : (ts : List TermForm) → map (λ t. term_of (held_term t)) ts ≡ map term_of (map held_term ts)
terms_same [] = refl
terms_same (t ∷ ts) = ap (λ rest. term_of (held_term t) ∷ rest) (terms_same ts)

-- a sum is held where its terms, its relation and its right side are
pub linear_held : (terms : List NameTerm) (op : Op) (bound : ℤ) (a b c d : List Lexeme) → Holds (λ (ts : List TermForm). map (λ t. term_of (held_term t)) ts) terms b (linear_terms_at a) → Holds (λ o. o) op c (op_at b) → is_linear_op op ≡ true → Holds (held 1000000000001) bound d (integer_at c) → Holds (λ s. shape_of (held_shape s)) (Linear terms op (to_z w64 (of_z w64 bound))) d (linear_at a)
unfolding linear_at and_then choose
linear_held terms op bound a b c d t o is k = record {
  form = LinearForm t.form o.form k.form;
  read = rw (t.read, o.read, ← o.is, is, k.read, o.is) refl;
  is = rw (bound_same bound k.form k.is, ← o.is, ← terms_same t.form, ← t.is) refl;
}
