-- Support that a removal leaves: a value's support does not look at the rest of its own domain.
use Rattle.std.proofs.Common.{◌≡◌, ℕ, Contains, ℤ, sym, ap, ◌∙◌}
use Rattle.palm_base.specs.declared.terms.Pair.{Pair}
use Rattle.palm_model.specs.Domains.{Domains, Has}
use Rattle.palm_model.specs.Constraint.{scope}
use Rattle.palm_model.specs.Support.{IsSupported}
use Rattle.palm_model.specs.declared.constraint.Con.{Con}
use Rattle.palm_model.proofs.cited.Formed.{part_scope}
use Rattle.palm_model.proofs.cited.Without.{pair_of}

-- no pair but this one is gone
abbrev pub KeepsOthers : Domains → Domains → ℕ → ℤ → Type 0
KeepsOthers d e x v = (y : ℕ) (w : ℤ) → (pair_of x v ≡ pair_of y w → ⊥) → Has d y w → Has e y w

-- a value keeps its support where a pair goes whose variable is none of the constraint's, or is its own
pub support_stays : (d e : Domains) (c : Con) (x : ℕ) (v : ℤ) (y : ℕ) (w : ℤ) → KeepsOthers d e x v → ((z : ℕ) → Contains (scope c) z → z ≡ x → z ≡ y) → (pair_of x v ≡ pair_of y w → ⊥)
    → IsSupported d c y w → IsSupported e c y w
support_stays d e c x v y w keeps own apart s = record {
  each = λ p m over.
      let h = s.each p m over in
      record {
        assignment = h.assignment;
        within = λ z k. keeps z (h.assignment z) (λ same.
            let first : x ≡ z = ap (λ (q : Pair). q.var) same in
            let second : v ≡ h.assignment z = ap (λ (q : Pair). q.value) same in
            let at = own z (part_scope c p z m k) (sym first) in
            let value : v ≡ w = second ∙ ap h.assignment at ∙ h.gives in
            let var : x ≡ y = first ∙ at in
            apart (λ i. pair_of (var i) (value i))) (h.within z k);
        gives = h.gives;
        holds = h.holds;
      };
}
