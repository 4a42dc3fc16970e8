-- Domains that agree on the variables of a constraint: support and closedness are the same in both.
use Rattle.std.proofs.Common.{◌≡◌, ℕ, ◌<◌, List, [], ◌∷◌, ◌++◌, length, Contains, ℤ, inl, inr, sym, ◌∙◌, subst}
use Rattle.std.proofs.lemmas.Bool.{cases_Bool, false≢true}
use Rattle.std.proofs.lemmas.List.{get_or_append_left}
use Rattle.palm_base.specs.declared.terms.Pair.{Pair}
use Rattle.palm_base.proofs.cited.Members.{Known}
use Rattle.palm_model.specs.Domains.{Domains, Has, values_of, is_among, without}
use Rattle.palm_model.specs.Constraint.{scope}
use Rattle.palm_model.specs.Part.{scope_of}
use Rattle.palm_model.specs.Support.{HasSupport, LacksSupport}
use Rattle.palm_model.specs.Closure.{IsClosedBy}
use Rattle.palm_model.specs.declared.constraint.Con.{Con}
use Rattle.palm_model.specs.declared.part.Part.{Part}
use Rattle.palm_model.proofs.cited.Formed.{part_scope}
use Rattle.palm_model.proofs.cited.Without.{pair_of, among_member, member_among, without_has, has_without}

-- each value of these variables in d is one in e
abbrev pub IsInsideOn : List ℕ → Domains → Domains → Type 0
IsInsideOn vars d e = (x : ℕ) (v : ℤ) → Contains vars x → Has d x v → Has e x v

-- support in a part looks at the variables of its scope alone
pub support_in : (d e : Domains) (p : Part) (x : ℕ) (v : ℤ) → IsInsideOn (scope_of p) d e → HasSupport d p x v → HasSupport e p x v
support_in d e p x v inside s = record {
  assignment = s.assignment;
  within = λ y m. inside y (s.assignment y) m (s.within y m);
  gives = s.gives;
  holds = s.holds;
}

-- a value that lacks support in a constraint lacks it too where the domains of its scope have no more values
pub lacks_in : (d e : Domains) (c : Con) (x : ℕ) (v : ℤ) → IsInsideOn (scope c) e d → LacksSupport d c x v → LacksSupport e c x v
lacks_in d e c x v inside lacks = record {
  part = lacks.part;
  is_part = lacks.is_part;
  over = lacks.over;
  lacks = λ s. lacks.lacks (support_in e d lacks.part x v (λ y w m. inside y w (part_scope c lacks.part y lacks.is_part m)) s);
}

-- domains that agree on the scope of a constraint are both closed by it
pub closed_in : (c : Con) (d e : Domains) → IsInsideOn (scope c) d e → IsInsideOn (scope c) e d → IsClosedBy c d → IsClosedBy c e
closed_in c d e there back closed p m x v over has =
    support_in d e p x v (λ y w k. there y w (part_scope c p y m k)) (closed p m x v over (back x v (part_scope c p x m over) has))

-- ---- one more variable

pub values_of_more : (d : Domains) (vs : List ℤ) (x : ℕ) → x < length d → values_of (d ++ vs ∷ []) x ≡ values_of d x
values_of_more d vs x lt = get_or_append_left d (vs ∷ []) [] x lt

-- the first variables have in the longer domains what they had
pub more_has : (d : Domains) (vs : List ℤ) (pairs : List Pair) (x : ℕ) (v : ℤ) → x < length d → Has (without (d ++ vs ∷ []) pairs) x v → Has (without d pairs) x v
more_has d vs pairs x v lt h =
    let r = without_has (d ++ vs ∷ []) pairs x v h in has_without d pairs x v (subst (λ ws. Contains ws v) (values_of_more d vs x lt) r.0) r.1

pub has_more : (d : Domains) (vs : List ℤ) (pairs : List Pair) (x : ℕ) (v : ℤ) → x < length d → Has (without d pairs) x v → Has (without (d ++ vs ∷ []) pairs) x v
has_more d vs pairs x v lt h =
    let r = without_has d pairs x v h in has_without (d ++ vs ∷ []) pairs x v (subst (λ ws. Contains ws v) (sym (values_of_more d vs x lt)) r.0) r.1

-- ---- pairs that are gone

pub pair_known : (pairs : List Pair) (p : Pair) → Known (Contains pairs p)
pair_known pairs p = elim (cases_Bool (is_among pairs p.var p.value)) [
  | inl t ↦ inl (among_member pairs p.var p.value t)
  | inr f ↦ inr (λ m. false≢true (sym f ∙ member_among pairs p.var p.value m))
]

-- a declared pair that is not present is among the pairs
pub gone_member : (initial : Domains) (pairs : List Pair) (x : ℕ) (v : ℤ) → Has initial x v → (Has (without initial pairs) x v → ⊥) → Contains pairs (pair_of x v)
gone_member initial pairs x v h n = elim (pair_known pairs (pair_of x v)) [
  | inl m ↦ m
  | inr k ↦ absurd (n (has_without initial pairs x v h k))
]
