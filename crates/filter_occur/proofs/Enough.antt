-- From which high number on a higher one does not matter to a relation, by the least and the greatest value of the target.
use Rattle.std.proofs.Common.{◌≡◌, ℕ, ℤ, pos, ◌<ℤ◌, ◌≤ℤ◌, List, [], ◌∷◌, cond, ne_eqb, ◌⊎◌, inl, inr, sym, subst, arith}
use Rattle.std.proofs.lemmas.Int.{ints}
use Rattle.palm_domain.specs.Rows.{IsLeastOf, IsGreatestOf}
use Rattle.palm_model.specs.Domains.{Domains, values_of}
use Rattle.palm_model.specs.declared.constraint.Op.{Op}
use Rattle.palm_model.specs.declared.constraint.Op.TheVariants.{Eq, Ne, Lt, Le, Gt, Ge}
use Rattle.palm_model.specs.declared.constraint.Target.{Target}
use Rattle.palm_model.specs.declared.constraint.Target.TheVariants.{Variable}
use Rattle.filter_occur.specs.Count.{IsEnough, target_values}

-- ---- by the ends of the values

module _ (values : List ℤ) (enough : ℤ) where
  -- the low number stands where another does
  enough_lt : IsEnough Lt values enough
  enough_lt counts higher ordered from same r =
      let lower : pos r.number <ℤ r.target = r.stands in
      record { number = counts.low; from = omega arith; to = ordered; target = r.target; member = r.member; stands = omega (arith, ints, lower, same, r.from) }

  enough_le : IsEnough Le values enough
  enough_le counts higher ordered from same r =
      let lower : pos r.number ≤ℤ r.target = r.stands in
      record { number = counts.low; from = omega arith; to = ordered; target = r.target; member = r.member; stands = omega (arith, ints, lower, same, r.from) }

  pub op_enough_below : (op : Op) → (op ≡ Lt) ⊎ (op ≡ Le) → IsEnough op values enough
  op_enough_below op is = elim is [
    | inl e ↦ subst (λ o. IsEnough o values enough) (sym e) enough_lt
    | inr e ↦ subst (λ o. IsEnough o values enough) (sym e) enough_le
  ]

  -- a number that is one of the values is none above the greatest
  enough_equal : (greatest : ℤ) → IsGreatestOf values greatest → greatest ≤ℤ enough → IsEnough Eq values enough
  enough_equal greatest end le counts higher ordered from same r =
      let equal : pos r.number ≡ r.target = r.stands in
      let most : r.target ≤ℤ greatest = end.greatest r.target r.member in
      record { number = r.number; from = omega (arith, same, r.from); to = omega (arith, ints, equal, most, le, from); target = r.target; member = r.member; stands = r.stands }

  pub op_enough_equal : (op : Op) (greatest : ℤ) → op ≡ Eq → IsGreatestOf values greatest → greatest ≤ℤ enough → IsEnough op values enough
  op_enough_equal op greatest is end le = subst (λ o. IsEnough o values enough) (sym is) (enough_equal greatest end le)

  -- the high number stands in the relation to the least value
  module _ (least : ℤ) (end : IsLeastOf values least) where
    enough_ge : least ≤ℤ enough → IsEnough Ge values enough
    enough_ge le counts higher ordered from same r = record { number = counts.high; from = ordered; to = omega arith; target = least; member = end.member; stands = omega (arith, ints, le, from) }

    enough_gt : least <ℤ enough → IsEnough Gt values enough
    enough_gt lt counts higher ordered from same r = record { number = counts.high; from = ordered; to = omega arith; target = least; member = end.member; stands = omega (arith, ints, lt, from) }

    enough_ne : least <ℤ enough → IsEnough Ne values enough
    enough_ne lt counts higher ordered from same r = record { number = counts.high; from = ordered; to = omega arith; target = least; member = end.member; stands = λ e. omega (arith, ints, lt, from, e) }

    pub op_enough_from : (op : Op) → op ≡ Ge → least ≤ℤ enough → IsEnough op values enough
    op_enough_from op is le = subst (λ o. IsEnough o values enough) (sym is) (enough_ge le)

    pub op_enough_above : (op : Op) → (op ≡ Ne) ⊎ (op ≡ Gt) → least <ℤ enough → IsEnough op values enough
    op_enough_above op is lt = elim is [
      | inl e ↦ subst (λ o. IsEnough o values enough) (sym e) (enough_ne lt)
      | inr e ↦ subst (λ o. IsEnough o values enough) (sym e) (enough_gt lt)
    ]

-- ---- by the target

module _ (d : Domains) (x : ℕ) (v : ℤ) (op : Op) (target : Target) (enough : ℤ) where
  -- another variable
  pub other_enough : (y : ℕ) → target ≡ Variable y → (y ≡ x → ⊥) → IsEnough op (values_of d y) enough → IsEnough op (target_values d x v target) enough
  other_enough y is ne all =
      subst (λ t. IsEnough op (target_values d x v t) enough) (sym is)
      (subst (λ b. IsEnough op (cond b (v ∷ []) (values_of d y)) enough) (sym (ne_eqb y x ne)) all)
