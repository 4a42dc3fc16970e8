-- Reasons of a part over two variables: the declared values of the one that go with the value of the other.
use Rattle.std.proofs.Common.{◌≡◌, ℕ, ℤ, Bool, true, false, List, [], ◌∷◌, filter, Contains, eqb, eq-eqb, ne_eqb, ◌⊎◌, inl, inr, sym, ap, ◌∙◌, subst}
use Rattle.palm_base.proofs.cited.Members.{member_cases, member_single, member_same, filter_member, member_filter, nat_known}
use Rattle.palm_model.specs.Constraint.{scope}
use Rattle.palm_model.specs.Domains.{Domains, Assignment, Has, values_of, without}
use Rattle.palm_model.specs.Part.{scope_of, Holds, parts}
use Rattle.palm_model.specs.Reason.{IsReason}
use Rattle.palm_model.specs.Removed.{pairs_of}
use Rattle.palm_model.specs.Support.{LacksSupport}
use Rattle.palm_model.specs.declared.constraint.Con.{Con}
use Rattle.palm_model.specs.declared.part.Part.{Part}
use Rattle.palm_model.proofs.cited.Formed.{part_scope}
use Rattle.palm_model.proofs.cited.Reasons.{pairs_member, member_pairs}
use Rattle.palm_model.proofs.cited.Supports.{lacking_by_part, part_unsupported, two, two_first, two_second, support_by_two, without_has}

-- the variable of a value that lacks support is one of the scope
pub lacking_over : (d : Domains) (c : Con) (x : ℕ) (v : ℤ) → LacksSupport d c x v → Contains (scope c) x
lacking_over d c x v lacks = part_scope c lacks.part x lacks.is_part lacks.over

pub of_two : (a b z : ℕ) → Contains (a ∷ b ∷ []) z → (a ≡ z) ⊎ (b ≡ z)
of_two a b z m = elim (member_cases a (b ∷ []) z m) [ inl e ↦ inl e | inr k ↦ inr (member_single b z k) ]

pub turned : (a b z : ℕ) → (a ≡ z) ⊎ (b ≡ z) → (b ≡ z) ⊎ (a ≡ z)
turned a b z h = elim h [ inl e ↦ inr e | inr e ↦ inl e ]

-- what holds at the first of two variables and at the second one holds, by the test whether it is the first
pub by_variable : (a b x : ℕ) (P : Bool → Type 0) → Contains (a ∷ b ∷ []) x → (x ≡ a → P true) → (x ≡ b → P false) → P (eqb x a)
by_variable a b x P over first second = elim (nat_known x a) [
  | inl e ↦ subst P (sym (eq-eqb x a e)) (first e)
  | inr n ↦ elim (of_two a b x over) [ inl e ↦ absurd (n (sym e)) | inr e ↦ subst P (sym (ne_eqb x a n)) (second (sym e)) ]
]

module _ (initial present : Domains) (c : Con) (p : Part) (x y : ℕ) (v : ℤ) (test : ℤ → Bool) where
  abbrev values : List ℤ
  values = filter test (values_of initial y)

  -- the test says of a value of y whether the part holds of it and of v
  pub other_right : parts c ≡ p ∷ [] → scope c ≡ scope_of p → Contains (scope_of p) x → Contains (scope_of p) y → (y ≡ x → ⊥) → ((z : ℕ) → Contains (scope_of p) z → (x ≡ z) ⊎ (y ≡ z)) → ((a : Assignment) → a x ≡ v → Holds p a → test (a y) ≡ true) → ((a : Assignment) → a x ≡ v → test (a y) ≡ true → Holds p a) → Has present x v → LacksSupport present c x v → IsReason initial present c x v (pairs_of y values)
  other_right one same x_over y_over apart both holds_test test_holds has lacks = record {
    removed = λ q m.
        let r = pairs_member y values q m in
        let s = filter_member test (values_of initial y) q.value r.1 in (
          subst (λ z. Has initial z q.value) r.0 s.0,
          λ h.
              part_unsupported present c p x v one lacks
              (support_by_two present p x v y q.value apart both has (subst (λ z. Has present z q.value) (sym r.0) h)
              (test_holds (two x v y q.value) (two_first x v y q.value) (ap test (two_second x v y q.value apart) ∙ s.1))),
        );
    others = λ q m.
        let r = pairs_member y values q m in
        (subst (λ ys. Contains ys q.var) (sym same) (member_same (scope_of p) y q.var r.0 y_over), λ e. apart (r.0 ∙ e));
    lacks = lacking_by_part (without initial (pairs_of y values)) c p x v one x_over (λ s.
        let r = without_has initial (pairs_of y values) y (s.assignment y) (s.within y y_over) in
        r.1 (member_pairs y values (s.assignment y) (member_filter test (values_of initial y) (s.assignment y) r.0 (holds_test s.assignment s.gives s.holds))));
  }
