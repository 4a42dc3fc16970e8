-- The reason of a comparison of two variables: the declared values of the other variable that would fit.
use Rattle.std.proofs.Common.{◌≡◌, ℕ, ℤ, ◌+ℤ◌, true, cond, [], ◌∷◌, refl, sym, subst}
use Rattle.palm_base.proofs.cited.Members.{member_here, member_there, member_same}
use Rattle.palm_model.specs.Comparison.{comparison_reason, fitting_left, fitting_right}
use Rattle.palm_model.specs.Constraint.{Distinct}
use Rattle.palm_model.specs.Domains.{Domains, Has}
use Rattle.palm_model.specs.Reason.{IsReason}
use Rattle.palm_model.specs.Relation.{is_standing}
use Rattle.palm_model.specs.Removed.{pairs_of}
use Rattle.palm_model.specs.Support.{LacksSupport}
use Rattle.palm_model.specs.declared.constraint.Con.{Con}
use Rattle.palm_model.specs.declared.constraint.Con.TheVariants.{CompareVar}
use Rattle.palm_model.specs.declared.constraint.Op.{Op}
use Rattle.palm_model.specs.declared.part.Part.{Part}
use Rattle.palm_model.specs.declared.part.Part.TheVariants.{CompareVar as CompareVarPart}
use Rattle.palm_model.proofs.cited.Standing.{stands_from_test, test_from_stands}
use Rattle.palm_reason.proofs.cited.TwoVariables.{lacking_over, of_two, turned, by_variable, other_right}

module _ (initial present : Domains) (left : ℕ) (op : Op) (right : ℕ) (offset v : ℤ) where
  abbrev con : Con
  con = CompareVar left op right offset

  abbrev part : Part
  part = CompareVarPart left op right offset

  left_right : (left ≡ right → ⊥) → Has present left v → LacksSupport present con left v → IsReason initial present con left v (pairs_of right (fitting_right initial op right offset v))
  left_right apart has lacks =
      other_right initial present con part left right v (λ w. is_standing op v (w +ℤ offset)) refl refl
      (member_here left (right ∷ [])) (member_there left (right ∷ []) right (member_here right [])) (λ e. apart (sym e)) (of_two left right)
      (λ a e h. subst (λ m. is_standing op m (a right +ℤ offset) ≡ true) e (test_from_stands op (a left) (a right +ℤ offset) h))
      (λ a e t. stands_from_test op (a left) (a right +ℤ offset) (subst (λ m. is_standing op m (a right +ℤ offset) ≡ true) (sym e) t))
      has lacks

  right_right : (left ≡ right → ⊥) → Has present right v → LacksSupport present con right v → IsReason initial present con right v (pairs_of left (fitting_left initial left op offset v))
  right_right apart has lacks =
      other_right initial present con part right left v (λ w. is_standing op w (v +ℤ offset)) refl refl
      (member_there left (right ∷ []) right (member_here right [])) (member_here left (right ∷ [])) apart (λ z m. turned left right z (of_two left right z m))
      (λ a e h. subst (λ m. is_standing op (a left) (m +ℤ offset) ≡ true) e (test_from_stands op (a left) (a right +ℤ offset) h))
      (λ a e t. stands_from_test op (a left) (a right +ℤ offset) (subst (λ m. is_standing op (a left) (m +ℤ offset) ≡ true) (sym e) t))
      has lacks

  pub comparison_right : (x : ℕ) → Distinct (left ∷ right ∷ []) → Has present x v → LacksSupport present con x v → IsReason initial present con x v (comparison_reason initial left op right offset x v)
  comparison_right x distinct has lacks =
      let of_right = pairs_of right (fitting_right initial op right offset v) in
      let of_left = pairs_of left (fitting_left initial left op offset v) in
      let apart : left ≡ right → ⊥ = λ e. distinct.0 (member_same (right ∷ []) right left (sym e) (member_here right [])) in
      by_variable left right x (λ b. IsReason initial present con x v (cond b of_right of_left)) (lacking_over present con x v lacks)
      (λ e. subst (λ z. Has present z v → LacksSupport present con z v → IsReason initial present con z v of_right) (sym e) (left_right apart) has lacks)
      (λ e. subst (λ z. Has present z v → LacksSupport present con z v → IsReason initial present con z v of_left) (sym e) (right_right apart) has lacks)
