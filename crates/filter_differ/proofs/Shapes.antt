-- What variables that differ know of support, whatever the domains.
use Rattle.std.proofs.Common.{◌≡◌, ℕ, ℤ, pos, ◌-ℤ◌, List, Contains, ◌∙◌, subst, arith}
use Rattle.std.proofs.lemmas.Int.{ints}
use Rattle.palm_base.proofs.cited.Members.{all_members}
use Rattle.palm_filter.specs.Shapes.{LeavesFree, IsApart}
use Rattle.palm_model.specs.Constraint.{Distinct}
use Rattle.palm_model.specs.Domains.{Domains}
use Rattle.palm_model.specs.declared.constraint.Con.{Con}
use Rattle.palm_model.specs.declared.constraint.Con.TheVariants.{Differ}
use Rattle.filter_differ.specs.Differ.{LeavesRoom}
use Rattle.filter_differ.proofs.Differing.{room_supports}

-- a variable that has another value than v less nothing has another one than v
free_leaves_room : (d : Domains) (vars : List ℕ) (x : ℕ) (v : ℤ) → LeavesFree d vars x (pos 0) v → (y : ℕ) → Contains vars y → LeavesRoom d x v y
free_leaves_room d vars x v free y m = record {
  other = λ ne.
      let o = free y m ne in
      record { value = o.other; member = o.has; apart = λ e. o.different (let same : v ≡ v -ℤ pos 0 = omega (arith, ints) in e ∙ same) };
}

-- a value that the other variables leave free has support
differ_free : (vars : List ℕ) (x : ℕ) → Distinct vars → IsApart (Differ vars) x (pos 0)
differ_free vars x distinct d v has free = room_supports d x v has vars distinct (all_members (LeavesRoom d x v) vars (free_leaves_room d vars x v free))

-- the same of the constraint of a filter
pub differ_apart : (vars : List ℕ) (m : Con) (x : ℕ) → Differ vars ≡ m → Distinct vars → IsApart m x (pos 0)
differ_apart vars m x is distinct = subst (λ k. IsApart k x (pos 0)) is (differ_free vars x distinct)
