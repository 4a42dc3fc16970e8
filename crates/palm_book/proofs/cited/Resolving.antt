-- Names that are looked up, and the constraints that they stand in.
use Rattle.std.proofs.Common.{◌≡◌, ℕ, zero, suc, ℤ, ◌<◌, inl, inr, arith, List, [], ◌∷◌, ◌++◌, map, All, Any, length, refl, subst, sym, ap, ◌∙◌}
use Rattle.std.proofs.lemmas.List.Elements.{All-map, All-append, All-head, All-tail}
use Rattle.palm_model.specs.Constraint.{scope}
use Rattle.palm_model.specs.Count.{target_scope}
use Rattle.palm_model.specs.Linear.{term_vars}
use Rattle.palm_model.specs.declared.constraint.Con.{Con}
use Rattle.palm_model.specs.declared.constraint.Con.TheVariants.{Linear as LinearCon, Count as CountCon}
use Rattle.palm_model.specs.declared.constraint.Op.{Op}
use Rattle.palm_model.specs.declared.constraint.Target.{Target}
use Rattle.palm_model.specs.declared.constraint.Target.TheVariants.{Const, Variable}
use Rattle.palm_model.specs.declared.constraint.Term.{Term}
use Rattle.palm_read.specs.Count.{line_target_names}
use Rattle.palm_read.specs.Limits.{names_of}
use Rattle.palm_read.specs.declared.line.NameTarget.{NameTarget}
use Rattle.palm_read.specs.declared.line.NameTerm.{NameTerm}
use Rattle.palm_read.specs.declared.line.Shape.{Shape}
use Rattle.palm_read.specs.declared.line.Shape.TheVariants.{CompareVar, CompareConst, Linear, Table, Element, Count, Differ, Within}
use Rattle.palm_book.specs.Book.{BookVar, name_of}
use Rattle.palm_book.specs.Named.{named, named_term, named_target, plain, IsUnknownName, Resolves}
use Rattle.palm_book.proofs.cited.Any.{any_here, any_there, any_cases, any_none}

pub resolves_linear : (variables : List BookVar) (terms : List NameTerm) (list : List Term) (op : Op) (bound : ℤ)
    → All (λ t. t.var < length variables) list → map (named_term variables) list ≡ terms
    → Resolves variables (Linear terms op bound) (LinearCon list op bound)
resolves_linear variables terms list op bound declared says = record {
  declared = All-map (λ x. x < length variables) (λ (t : Term). t.var) list declared;
  says = ap (λ (z : List NameTerm). Linear z op bound) says;
}

pub resolves_count : (variables : List BookVar) (value : ℤ) (names : List (List ℕ)) (vars : List ℕ) (op : Op) (target : NameTarget) (chosen : Target)
    → All (λ x. x < length variables) vars → map (name_of variables) vars ≡ names
    → All (λ x. x < length variables) (target_scope chosen) → named_target variables chosen ≡ target
    → Resolves variables (Count value names op target) (CountCon value vars op chosen)
resolves_count variables value names vars op target chosen declared says target_declared target_says = record {
  declared = All-append (λ x. x < length variables) vars (target_scope chosen) declared target_declared;
  says = ap (λ (z : List (List ℕ)). Count value z op (named_target variables chosen)) says ∙ ap (λ (z : NameTarget). Count value names op z) target_says;
}

-- ---- the names of a constraint are those of its scope

term_names : (variables : List BookVar) (terms : List Term) → map (λ t. t.name) (map (named_term variables) terms) ≡ map (name_of variables) (term_vars terms)
term_names variables [] = refl
term_names variables (t ∷ ts) = ap (λ (z : List (List ℕ)). name_of variables t.var ∷ z) (term_names variables ts)

target_names : (variables : List BookVar) (target : Target) → line_target_names (named_target variables target) ≡ map (name_of variables) (target_scope target)
target_names variables (Const w) = refl
target_names variables (Variable x) = refl

map_both : (f : ℕ → List ℕ) (xs ys : List ℕ) → map f (xs ++ ys) ≡ map f xs ++ map f ys
map_both f [] ys = refl
map_both f (x ∷ xs) ys = ap (λ (z : List (List ℕ)). f x ∷ z) (map_both f xs ys)

pub scope_names : (variables : List BookVar) (con : Con) → names_of (named variables con) ≡ map (name_of variables) (scope con)
scope_names variables (LinearCon terms op bound) = term_names variables terms
scope_names variables (CountCon value vars op target) =
    ap (λ (z : List (List ℕ)). map (name_of variables) vars ++ z) (target_names variables target)
    ∙ sym (map_both (name_of variables) vars (target_scope target))
scope_names variables _ = refl

-- and the names of a shape do not depend on how it writes its domain
pub plain_names : (shape : Shape) → names_of (plain shape) ≡ names_of shape
plain_names (CompareVar left op right offset) = refl
plain_names (CompareConst left op value) = refl
plain_names (Linear terms op bound) = refl
plain_names (Table vars rows) = refl
plain_names (Element outcome index entries) = refl
plain_names (Count value vars op target) = refl
plain_names (Differ vars) = refl
plain_names (Within var domain) = refl

-- ---- where a constraint says what a shape says, each name of the shape names a variable

pub has_name : (variables : List BookVar) (x : ℕ) → x < length variables → Any (λ e. e.name ≡ name_of variables x) variables
has_name [] x within = absurd (omega arith)
has_name (e ∷ es) zero within = any_here (λ (f : BookVar). f.name ≡ e.name) e es refl
has_name (e ∷ es) (suc x) within = any_there (λ (f : BookVar). f.name ≡ name_of es x) e es (has_name es x (omega arith))

known_names : (variables : List BookVar) (xs : List ℕ) → All (λ x. x < length variables) xs → Any (IsUnknownName variables) (map (name_of variables) xs) → ⊥
known_names variables [] declared a = any_none (IsUnknownName variables) a
known_names variables (x ∷ xs) declared a =
    elim (any_cases (IsUnknownName variables) (name_of variables x) (map (name_of variables) xs) a) [
      | inl u ↦ u (has_name variables x (All-head (λ (y : ℕ). y < length variables) x xs declared))
      | inr b ↦ known_names variables xs (All-tail (λ (y : ℕ). y < length variables) x xs declared) b
    ]

pub known : (variables : List BookVar) (shape : Shape) (con : Con) → Resolves variables shape con → Any (IsUnknownName variables) (names_of shape) → ⊥
known variables shape con r a =
    known_names variables (scope con) r.declared
    (subst (Any (IsUnknownName variables)) (sym (plain_names shape) ∙ ap names_of (sym r.says) ∙ scope_names variables con) a)
