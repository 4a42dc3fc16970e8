-- Conflicts and explanations are properties that more constraints keep, and it is known whether constraints have them.
use Rattle.std.proofs.Common.{◌≡◌, ℕ, zero, suc, ◌<◌, List, [], ◌∷◌, length, Contains, ℤ, inl, inr, refl, arith}
use Rattle.palm_base.specs.declared.terms.Pair.{Pair}
use Rattle.palm_base.proofs.cited.Members.{Known, known_like, known_not, int_known, member_known, member_map, member_unmap, member_same}
use Rattle.palm_model.specs.Closure.{IsConflict}
use Rattle.palm_model.specs.Domains.{AllAscend, Domains, values_of}
use Rattle.palm_model.specs.Log.{Active, cons_of}
use Rattle.palm_model.specs.Minimal.{AreConflict, DoExplain}
use Rattle.palm_model.specs.declared.constraint.Con.{Con}
use Rattle.palm_laws.proofs.cited.Existence.{greatest_exists}
use Rattle.palm_laws.proofs.cited.Reducing.{Grows}
use Rattle.palm_laws.proofs.cited.Solutions.{conflict_empty, empty_conflict, explained_missing, explains_more, missing_explained}

pub conflict_more : (initial : Domains) (E F : Con → Type 0) → ((c : Con) → E c → F c) → IsConflict initial E → IsConflict initial F
conflict_more initial E F more conflict = (conflict.0, conflict.1, λ v. explains_more initial E F conflict.0 v more (conflict.2 v))

cons_more : (active more : List Active) → ((a : Active) → Contains active a → Contains more a) → (c : Con) → Contains (cons_of active) c → Contains (cons_of more) c
cons_more active more sub c m =
    let r = member_unmap (λ (a : Active). a.con) active c m in
    member_same (cons_of more) r.0.con c r.2 (member_map (λ (a : Active). a.con) more r.0 (sub r.0 r.1))

pub conflicts_grow : (initial : Domains) → Grows (AreConflict initial)
conflicts_grow initial active more sub conflict = conflict_more initial (Contains (cons_of active)) (Contains (cons_of more)) (cons_more active more sub) conflict

pub explanations_grow : (initial : Domains) (pair : Pair) → Grows (DoExplain initial pair)
explanations_grow initial pair active more sub explains =
    explains_more initial (Contains (cons_of active)) (Contains (cons_of more)) pair.var pair.value (cons_more active more sub) explains

-- ---- whether constraints have the property

none_known : (vs : List ℤ) → Known (vs ≡ [])
none_known [] = inl refl
none_known (v ∷ vs) = inr (λ e. cc)

-- some variable of the domains has no value
record LacksAll (d : Domains) (x : ℕ) : Type 0 where
  declared : x < length d
  empty : values_of d x ≡ []

lacks_later : (vs : List ℤ) (d : Domains) (x : ℕ) → (vs ≡ [] → ⊥) → LacksAll (vs ∷ d) x → (y : ℕ) × LacksAll d y
lacks_later vs d zero some lacks = absurd (some lacks.empty)
lacks_later vs d (suc x) some lacks = (x, record { declared = omega (arith, lacks.declared); empty = lacks.empty })

empty_known : (d : Domains) → Known ((x : ℕ) × LacksAll d x)
empty_known [] = inr (λ r. absurd (omega (arith, r.1.declared)))
empty_known (vs ∷ d) = elim (none_known vs) [
  | inl e ↦ inl (0, record { declared = omega arith; empty = e })
  | inr some ↦ elim (empty_known d) [
    | inl r ↦ inl (suc r.0, record { declared = omega (arith, r.1.declared); empty = r.1.empty })
    | inr none ↦ inr (λ r. none (lacks_later vs d r.0 some r.1))
  ]
]

pub conflict_known : (initial : Domains) → AllAscend initial → (active : List Active) → Known (AreConflict initial active)
conflict_known initial ascend active =
    let r = greatest_exists initial (cons_of active) ascend in
    known_like (λ lacks. empty_conflict initial (Contains (cons_of active)) r.0 r.1 lacks.0 lacks.1.declared lacks.1.empty)
    (λ conflict. let e = conflict_empty initial (Contains (cons_of active)) r.0 r.1 conflict in (e.0, record { declared = e.1; empty = e.2 }))
    (empty_known r.0)

pub explanation_known : (initial : Domains) → AllAscend initial → (pair : Pair) (active : List Active) → Known (DoExplain initial pair active)
explanation_known initial ascend pair active =
    let r = greatest_exists initial (cons_of active) ascend in
    known_like (λ missing. missing_explained initial (Contains (cons_of active)) r.0 pair.var pair.value r.1 missing)
    (λ explains. explained_missing initial (Contains (cons_of active)) r.0 pair.var pair.value r.1 explains)
    (known_not (member_known int_known (values_of r.0 pair.var) pair.value))
