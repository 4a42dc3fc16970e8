-- The reason of a constraint on one variable: none, since nothing but the value itself matters.
use Rattle.std.proofs.Common.{◌≡◌, ℕ, ℤ, [], ◌∷◌, Contains, sym, ◌∙◌, subst}
use Rattle.palm_base.proofs.cited.Members.{member_nil, member_single}
use Rattle.palm_model.specs.Domains.{Domains, Has, without}
use Rattle.palm_model.specs.Part.{scope_of, parts}
use Rattle.palm_model.specs.Reason.{IsReason}
use Rattle.palm_model.specs.Support.{LacksSupport}
use Rattle.palm_model.specs.declared.constraint.Con.{Con}
use Rattle.palm_model.specs.declared.part.Part.{Part}
use Rattle.palm_model.proofs.cited.Supports.{lacking_by_part, part_unsupported}

pub own_right : (initial present : Domains) (c : Con) (p : Part) (var x : ℕ) (v : ℤ) → parts c ≡ p ∷ [] → scope_of p ≡ var ∷ [] → Has present x v → LacksSupport present c x v → IsReason initial present c x v []
own_right initial present c p var x v one alone has lacks =
    let same : p ≡ lacks.part = member_single p lacks.part (subst (λ ps. Contains ps lacks.part) one lacks.is_part) in
    let over : Contains (scope_of p) x = subst (λ q. Contains (scope_of q) x) (sym same) lacks.over in
    let is_var : var ≡ x = member_single var x (subst (λ ys. Contains ys x) alone over) in
    record {
      removed = λ q m. absurd (member_nil q m);
      others = λ q m. absurd (member_nil q m);
      lacks = lacking_by_part (without initial []) c p x v one over (λ s.
          part_unsupported present c p x v one lacks (record {
            assignment = s.assignment;
            within = λ z m. subst (λ y. Has present y (s.assignment y)) (sym is_var ∙ member_single var z (subst (λ ys. Contains ys z) alone m)) (subst (λ u. Has present x u) (sym s.gives) has);
            gives = s.gives;
            holds = s.holds;
          }));
    }
