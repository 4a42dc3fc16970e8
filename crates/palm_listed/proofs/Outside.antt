-- Support where no filter is asked, and support within the same domains.
use Rattle.std.proofs.Common.{◌≡◌, ℕ, ℤ, Any, Contains, refl, subst}
use Rattle.palm_book.proofs.cited.Any.{any_member, member_any}
use Rattle.palm_model.specs.Constraint.{IsWellFormed, scope}
use Rattle.palm_model.specs.Domains.{Domains, Has, IsInside}
use Rattle.palm_model.specs.Support.{LacksSupport}
use Rattle.palm_model.specs.declared.constraint.Con.{Con}
use Rattle.palm_model.proofs.cited.Formed.{part_scope, variable_part}
use Rattle.palm_model.proofs.cited.Trials.{support_grows, support_has}

-- a variable that is none of the constraint's lacks support in no part
pub outside_supported : (d : Domains) (c : Con) (x : ℕ) (v : ℤ) → (Any (λ y. y ≡ x) (scope c) → ⊥) → LacksSupport d c x v → ⊥
outside_supported d c x v outside l =
    outside (any_member (λ y. y ≡ x) (scope c) x (part_scope c l.part x l.is_part l.over) refl)

-- a value that is not there lacks support in each part over its variable
pub absent_lacks : (n : ℕ) (d : Domains) (c : Con) (x : ℕ) (v : ℤ) → IsWellFormed n c → Any (λ y. y ≡ x) (scope c) → (Has d x v → ⊥) → LacksSupport d c x v
absent_lacks n d c x v formed among absent =
    let m = member_any (λ y. y ≡ x) (scope c) among in
    let p = variable_part n c x formed (subst (Contains (scope c)) m.2 m.1) in
    record { part = p.0; is_part = p.1; over = p.2; lacks = λ s. absent (support_has d p.0 x v p.2 s) }

-- a value lacks support too where no domain has more values
pub lacks_inside : (d e : Domains) (c : Con) (x : ℕ) (v : ℤ) → IsInside e d → LacksSupport d c x v → LacksSupport e c x v
lacks_inside d e c x v inside l = record {
  part = l.part;
  is_part = l.is_part;
  over = l.over;
  lacks = λ s. l.lacks (support_grows e d l.part x v inside s);
}
