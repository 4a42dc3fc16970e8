-- Which losses of a variable take support from values of the variables that are to differ from it, whatever the domains.
use Rattle.std.proofs.Common.{◌≡◌, ℕ, ℤ, List, [], ◌∷◌, Contains, inl, inr, sym, ◌∙◌, subst}
use Rattle.palm_base.proofs.cited.Members.{all_members, int_known, member_here, member_there, nat_known}
use Rattle.palm_filter.specs.Heeds.{Loses, IsHeeded}
use Rattle.palm_filter.specs.Shapes.{HasTwo}
use Rattle.palm_filter.specs.declared.heed.Heed.TheVariants.{Alone}
use Rattle.palm_model.specs.Constraint.{Distinct}
use Rattle.palm_model.specs.Domains.{Domains, values_of}
use Rattle.palm_model.specs.Support.{IsSupported}
use Rattle.palm_model.specs.declared.constraint.Con.{Con}
use Rattle.palm_model.specs.declared.constraint.Con.TheVariants.{Differ}
use Rattle.palm_model.specs.declared.part.Part.TheVariants.{Differ as DifferPart}
use Rattle.palm_reason.proofs.cited.DifferReason.{has_part}
use Rattle.filter_differ.specs.Differ.{HasOther, LeavesRoom}
use Rattle.filter_differ.proofs.Differing.{room_supports}

-- one of two values is another one than u
other_of_two : (e : Domains) (x : ℕ) (u : ℤ) → HasTwo e x → HasOther (values_of e x) u
other_of_two e x u t = elim (int_known t.one u) [
  | inl same ↦ record { value = t.other; member = t.has_other; apart = λ f. t.different (same ∙ sym f) }
  | inr n ↦ record { value = t.one; member = t.has_one; apart = n }
]

-- each other variable has another value than one that has support
other_from_support : (d : Domains) (vars : List ℕ) (y z : ℕ) (u : ℤ) → Contains vars y → Contains vars z → (z ≡ y → ⊥) → IsSupported d (Differ vars) y u → HasOther (values_of d z) u
other_from_support d vars y z u over member ne supported = elim (has_part vars y z over member (λ e. ne (sym e))) [
  | inl m ↦
      let s = supported.each (DifferPart y z) m (member_here y (z ∷ [])) in
      record { value = s.assignment z; member = s.within z (member_there y (z ∷ []) z (member_here z [])); apart = λ e. s.holds (s.gives ∙ sym e) }
  | inr m ↦
      let s = supported.each (DifferPart z y) m (member_there z (y ∷ []) y (member_here y [])) in
      record { value = s.assignment z; member = s.within z (member_here z (y ∷ [])); apart = λ e. s.holds (e ∙ sym s.gives) }
]

-- a loss that leaves two values leaves room for what had it
loss_leaves_room : (d e : Domains) (vars : List ℕ) (x : ℕ) (v : ℤ) → Loses d e x v → HasTwo e x → (y : ℕ) (u : ℤ) → Contains vars y → IsSupported d (Differ vars) y u
    → (z : ℕ) → Contains vars z → LeavesRoom e y u z
loss_leaves_room d e vars x v loses two y u over supported z member = record {
  other = λ ne. elim (nat_known z x) [
    | inl same ↦ subst (λ k. HasOther (values_of e k) u) (sym same) (other_of_two e x u two)
    | inr n ↦
        let o = other_from_support d vars y z u over member ne supported in
        record { value = o.value; member = loses.stay z o.value (λ same f. n same) o.member; apart = o.apart }
  ];
}

-- a variable that keeps two values leaves the others what has support
differ_heeds_alone : (vars : List ℕ) (x : ℕ) → Distinct vars → IsHeeded (Differ vars) x Alone
differ_heeds_alone vars x distinct d e v loses two y u over other has supported =
    room_supports e y u has vars distinct (all_members (LeavesRoom e y u) vars (loss_leaves_room d e vars x v loses two y u over supported))

-- the same of the constraint of a filter
pub differ_alone : (vars : List ℕ) (m : Con) (x : ℕ) → Differ vars ≡ m → Distinct vars → IsHeeded m x Alone
differ_alone vars m x is distinct = subst (λ k. IsHeeded k x Alone) is (differ_heeds_alone vars x distinct)
