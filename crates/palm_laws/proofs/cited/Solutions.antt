-- Explanations and conflicts: what they say of the greatest closed domains, and of solutions. The constraints are any set.
use Rattle.std.proofs.Common.{◌≡◌, ℕ, zero, suc, ◌<◌, List, [], ◌∷◌, length, All, Contains, ℤ, refl, sym, subst, arith}
use Rattle.std.proofs.lemmas.List.Elements.{All-contains}
use Rattle.palm_base.proofs.cited.Members.{member_nil, member_here, member_single}
use Rattle.palm_model.specs.Constraint.{IsWellFormed}
use Rattle.palm_model.specs.Domains.{Domains, Assignment, Has, IsInside, values_of}
use Rattle.palm_model.specs.Closure.{IsClosed, IsGreatest, Explains, IsConflict, IsSolution}
use Rattle.palm_model.specs.declared.constraint.Con.{Con}
use Rattle.palm_laws.specs.Declared.{AreDeclared}
use Rattle.palm_model.proofs.cited.Formed.{part_declared, well_formed_formed}

-- ---- explanations and the greatest closed domains

pub explained_missing : (initial : Domains) (E : Con → Type 0) (d : Domains) (x : ℕ) (v : ℤ) → IsGreatest initial E d → Explains initial E x v → Has d x v → ⊥
explained_missing initial E d x v greatest explains has = explains d greatest.inside greatest.closed has

pub missing_explained : (initial : Domains) (E : Con → Type 0) (d : Domains) (x : ℕ) (v : ℤ) → IsGreatest initial E d → (Has d x v → ⊥) → Explains initial E x v
missing_explained initial E d x v greatest missing e inside closed has = missing (greatest.includes e inside closed x v has)

-- more constraints explain what fewer do
pub explains_more : (initial : Domains) (E F : Con → Type 0) (x : ℕ) (v : ℤ) → ((c : Con) → E c → F c) → Explains initial E x v → Explains initial F x v
explains_more initial E F x v more explains d inside closed has = explains d inside (λ c p m k. closed c p (more c m) k) has

-- ---- conflicts and empty domains

no_members : (vs : List ℤ) → ((v : ℤ) → Contains vs v → ⊥) → vs ≡ []
no_members [] none = refl
no_members (v ∷ vs) none = absurd (none v (member_here v vs))

pub conflict_empty : (initial : Domains) (E : Con → Type 0) (d : Domains) → IsGreatest initial E d → IsConflict initial E → (x : ℕ) × (x < length d) × (values_of d x ≡ [])
conflict_empty initial E d greatest conflict = (
  conflict.0,
  subst (λ n. conflict.0 < n) (sym greatest.variables) conflict.1,
  no_members (values_of d conflict.0) (λ v has. explained_missing initial E d conflict.0 v greatest (conflict.2 v) has),
)

pub empty_conflict : (initial : Domains) (E : Con → Type 0) (d : Domains) → IsGreatest initial E d → (x : ℕ) → x < length d → values_of d x ≡ [] → IsConflict initial E
empty_conflict initial E d greatest x declared empty = (
  x,
  subst (λ n. x < n) greatest.variables declared,
  λ v. missing_explained initial E d x v greatest (λ has. member_nil v (subst (λ vs. Contains vs v) empty has)),
)

-- ---- solutions

pub formed_declared : (n : ℕ) (cs : List Con) → All (IsWellFormed n) cs → AreDeclared n (Contains cs)
formed_declared n cs formed c p x m k h = part_declared n c p x (well_formed_formed n c (All-contains (IsWellFormed n) cs c formed m)) k h

-- the domains of the first n variables with the assignment's values alone
pub points : Assignment → ℕ → Domains
points a zero = []
points a (suc n) = (a 0 ∷ []) ∷ points (λ x. a (suc x)) n

pub has_point : (a : Assignment) (n x : ℕ) → x < n → Has (points a n) x (a x)
unfolding points
has_point a zero x lt = absurd (omega arith)
has_point a (suc n) zero lt = member_here (a 0) []
has_point a (suc n) (suc x) lt = has_point (λ y. a (suc y)) n x (omega arith)

-- what a variable has there
pub record IsPoint (a : Assignment) (n x : ℕ) (v : ℤ) : Type 0 where
  pub declared : x < n
  pub value : a x ≡ v

pub point_has : (a : Assignment) (n x : ℕ) (v : ℤ) → Has (points a n) x v → IsPoint a n x v
unfolding points
point_has a zero x v h = absurd (member_nil v h)
point_has a (suc n) zero v h = record { declared = omega arith; value = member_single (a 0) v h }
point_has a (suc n) (suc x) v h = let r = point_has (λ y. a (suc y)) n x v h in record { declared = omega (arith, r.declared); value = r.value }

pub points_inside : (initial : Domains) (E : Con → Type 0) (a : Assignment) → IsSolution initial E a → IsInside (points a (length initial)) initial
points_inside initial E a solution x v h =
    let r = point_has a (length initial) x v h in
    subst (λ w. Has initial x w) r.value (solution.within x r.declared)

pub points_closed : (initial : Domains) (E : Con → Type 0) (a : Assignment) → AreDeclared (length initial) E → IsSolution initial E a → IsClosed E (points a (length initial))
points_closed initial E a declared solution c p m k x v over h = record {
  assignment = a;
  within = λ y over_y. has_point a (length initial) y (declared c p y m k over_y);
  gives = (point_has a (length initial) x v h).value;
  holds = solution.satisfies c m p k;
}

-- no solution gives a variable a value that is explained
pub explained_no_solution : (initial : Domains) (E : Con → Type 0) (x : ℕ) (v : ℤ) (a : Assignment) → AreDeclared (length initial) E → x < length initial → Explains initial E x v → IsSolution initial E a → a x ≡ v → ⊥
explained_no_solution initial E x v a declared lt explains solution e =
    explains (points a (length initial)) (points_inside initial E a solution) (points_closed initial E a declared solution)
    (subst (λ w. Has (points a (length initial)) x w) e (has_point a (length initial) x lt))

pub conflict_no_solution : (initial : Domains) (E : Con → Type 0) (a : Assignment) → AreDeclared (length initial) E → IsConflict initial E → IsSolution initial E a → ⊥
conflict_no_solution initial E a declared conflict solution =
    explained_no_solution initial E conflict.0 (a conflict.0) a declared conflict.1 (conflict.2 (a conflict.0)) solution refl
