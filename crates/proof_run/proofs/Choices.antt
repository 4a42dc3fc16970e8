-- What a comparison of a variable with a value takes out: a value of that variable of which it does not hold, for no reasons.
use Rattle.std.proofs.Common.{◌≡◌, ℕ, ℤ, pos, List, [], ◌∷◌, Contains, refl, sym, ap, ◌∙◌, subst}
use Rattle.palm_base.specs.declared.terms.Pair.{Pair}
use Rattle.palm_base.proofs.cited.Members.{member_single}
use Rattle.palm_model.specs.Domains.{Domains, Has, without}
use Rattle.palm_model.specs.Part.{scope_of}
use Rattle.palm_model.specs.Relation.{Stands}
use Rattle.palm_model.specs.Support.{LacksSupport}
use Rattle.palm_model.specs.declared.constraint.Con.TheVariants.{CompareConst}
use Rattle.palm_model.specs.declared.constraint.Op.{Op}
use Rattle.palm_model.specs.declared.part.Part.{Part}
use Rattle.palm_model.specs.declared.part.Part.TheVariants.{CompareConst as CompareConstPart}
use Rattle.palm_model.proofs.cited.Supports.{part_unsupported, support_by_one}
use Rattle.palm_model.proofs.cited.Trials.{put, put_same}
use Rattle.palm_model.proofs.cited.Without.{has_without}

module _ (initial : Domains) (reasons : List Pair) (y : ℕ) (op : Op) (w : ℤ) (p : Pair) (lacks : LacksSupport (without initial reasons) (CompareConst y op w) p.var p.value) where
  -- the pair is of the compared variable
  pub choice_var : y ≡ p.var
  choice_var =
      let one = member_single (CompareConstPart y op w) lacks.part lacks.is_part in
      member_single y p.var (subst (λ (q : Part). Contains (scope_of q) p.var) (sym one) lacks.over)

  -- and its value does not fit, since reasons of other variables of the scope are none
  pub choice_fails : Has initial p.var p.value → ((q : Pair) → Contains reasons q → Contains (y ∷ []) q.var × (q.var ≡ p.var → ⊥)) → Stands op p.value w → ⊥
  choice_fails declared others stands =
      let none : Contains reasons (record { var = p.var; value = p.value }) → ⊥ = λ m. (others p m).1 refl in
      let part = CompareConstPart y op w in
      part_unsupported (without initial reasons) (CompareConst y op w) part p.var p.value refl lacks
      (support_by_one (without initial reasons) part p.var p.value (λ z m. sym choice_var ∙ member_single y z m) (has_without initial reasons p.var p.value declared none)
      (subst (λ (v : ℤ). Stands op v w) (sym (ap (put (λ z. pos 0) p.var p.value) choice_var ∙ put_same (λ z. pos 0) p.var p.value)) stands))
