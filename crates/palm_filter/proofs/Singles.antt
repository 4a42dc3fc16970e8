-- Domains of one value each: support is the satisfaction of the one assignment.
use Rattle.std.proofs.Common.{◌≡◌, ℕ, ◌<◌, [], ◌∷◌, length, Contains, refl, sym, subst}
use Rattle.palm_base.proofs.cited.Members.{member_here, member_single}
use Rattle.palm_model.specs.Domains.{Domains, Assignment, values_of}
use Rattle.palm_model.specs.Constraint.{scope}
use Rattle.palm_model.specs.Part.{scope_of, parts, Satisfies}
use Rattle.palm_model.specs.Support.{HasSupport, IsSupported}
use Rattle.palm_model.specs.declared.constraint.Con.{Con}
use Rattle.palm_model.specs.declared.part.Part.{Part}
use Rattle.palm_model.proofs.cited.Assignments.{holds_agree}
use Rattle.palm_model.proofs.cited.Formed.{part_scope, part_variable}

module _ (c : Con) (d : Domains) (a : Assignment) (single : (x : ℕ) → Contains (scope c) x → values_of d x ≡ a x ∷ []) where
  support_agrees : (p : Part) → Contains (parts c) p → (x : ℕ) (s : HasSupport d p x (a x)) (y : ℕ) → Contains (scope_of p) y → a y ≡ s.assignment y
  support_agrees p m x s y k = member_single (a y) (s.assignment y) (subst (λ vs. Contains vs (s.assignment y)) (single y (part_scope c p y m k)) (s.within y k))

  pub satisfies_from_support : 0 < length (scope c) → ((x : ℕ) → Contains (scope c) x → IsSupported d c x (a x)) → Satisfies a c
  satisfies_from_support lt supported p m =
      let over = part_variable c p lt m in
      let s = (supported over.0 (part_scope c p over.0 m over.1)).each p m over.1 in
      holds_agree p s.assignment a (λ y k. sym (support_agrees p m over.0 s y k)) s.holds

  pub support_from_satisfies : Satisfies a c → (x : ℕ) → Contains (scope c) x → IsSupported d c x (a x)
  support_from_satisfies holds x over = record {
    each = λ p m k. record {
      assignment = a;
      within = λ y n. subst (λ vs. Contains vs (a y)) (sym (single y (part_scope c p y m n))) (member_here (a y) []);
      gives = refl;
      holds = holds p m;
    };
  }
