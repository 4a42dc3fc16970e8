-- Which losses of a variable take support from the values of the other one that it is compared with, whatever the domains.
use Rattle.std.proofs.Common.{◌≡◌, ℕ, ℤ, pos, ◌+ℤ◌, ◌-ℤ◌, ◌<ℤ◌, [], ◌∷◌, Contains, Some, ◌⊎◌, inl, inr, refl, sym, ◌∙◌, subst, arith}
use Rattle.std.specs.Bool.{⊤}
use Rattle.std.specs.List.{slice_get}
use Rattle.std.proofs.lemmas.Int.{ints}
use Rattle.palm_base.proofs.cited.Members.{member_cases, member_get, member_single, int_known}
use Rattle.palm_filter.specs.Heeds.{Loses, KeepsAt, HasBelow, HasAbove, IsHeeded}
use Rattle.palm_filter.specs.Shapes.{HasTwo}
use Rattle.palm_filter.specs.declared.heed.Heed.{Heed}
use Rattle.palm_filter.specs.declared.heed.Heed.TheVariants.{Least, Greatest, Alone, Shifted}
use Rattle.palm_model.specs.Constraint.{Distinct}
use Rattle.palm_model.specs.Domains.{Domains, values_of}
use Rattle.palm_model.specs.Relation.{Stands}
use Rattle.palm_model.specs.declared.constraint.Op.{Op}
use Rattle.palm_model.specs.declared.constraint.Op.TheVariants.{Eq, Ne, Lt, Le, Gt, Ge}
use Rattle.filter_compare.specs.Comparison.{comparison_of, flipped_of, IsMet}
use Rattle.filter_compare.specs.declared.compare.Comparison.TheVariants.{Variables}
use Rattle.filter_compare.specs.declared.compare.VarComparison.{VarComparison}
use Rattle.filter_compare.specs.declared.demand.Demand.{Demand}
use Rattle.filter_compare.proofs.Comparisons.{demand_at_left, demand_at_right, var_supported, of_left, of_right}
use Rattle.filter_compare.proofs.Shapes.{met_from_supported, at_first, at_later}

-- ---- relations that ask for a low value, or for a high one

abbrev pub IsLow : Op → Type 0
IsLow Lt = ⊤
IsLow Le = ⊤
IsLow op = ⊥

abbrev pub IsHigh : Op → Type 0
IsHigh Gt = ⊤
IsHigh Ge = ⊤
IsHigh op = ⊥

-- one of the relations that the code names
pub low_of : (op : Op) → (op ≡ Lt) ⊎ (op ≡ Le) → IsLow op
low_of op is = elim is [ inl e ↦ subst IsLow (sym e) tt | inr e ↦ subst IsLow (sym e) tt ]

pub high_of : (op : Op) → (op ≡ Gt) ⊎ (op ≡ Ge) → IsHigh op
high_of op is = elim is [ inl e ↦ subst IsHigh (sym e) tt | inr e ↦ subst IsHigh (sym e) tt ]

high_flipped : (op : Op) → IsLow op → IsHigh (flipped_of op)
high_flipped Eq l = absurd l
high_flipped Ne l = absurd l
high_flipped Lt l = l
high_flipped Le l = l
high_flipped Gt l = absurd l
high_flipped Ge l = absurd l

low_flipped : (op : Op) → IsHigh op → IsLow (flipped_of op)
low_flipped Eq h = absurd h
low_flipped Ne h = absurd h
low_flipped Lt h = absurd h
low_flipped Le h = absurd h
low_flipped Gt h = h
low_flipped Ge h = h

stands_lower : (op : Op) (w v k : ℤ) → IsLow op → w <ℤ v → Stands op v k → Stands op w k
stands_lower Eq w v k l lt h = absurd l
stands_lower Ne w v k l lt h = absurd l
stands_lower Lt w v k l lt h = omega (arith, ints, lt, h)
stands_lower Le w v k l lt h = omega (arith, ints, lt, h)
stands_lower Gt w v k l lt h = absurd l
stands_lower Ge w v k l lt h = absurd l

stands_higher : (op : Op) (w v k : ℤ) → IsHigh op → v <ℤ w → Stands op v k → Stands op w k
stands_higher Eq w v k l lt h = absurd l
stands_higher Ne w v k l lt h = absurd l
stands_higher Lt w v k l lt h = absurd l
stands_higher Le w v k l lt h = absurd l
stands_higher Gt w v k l lt h = omega (arith, ints, lt, h)
stands_higher Ge w v k l lt h = omega (arith, ints, lt, h)

-- ---- a demand, where the variable loses a value

module _ (e : Domains) (x : ℕ) (v : ℤ) (q : Demand) where
  -- what the lost value met a value below meets too, or one above, or one of two
  met_below : IsLow q.op → HasBelow e x v → Stands q.op v q.bound → IsMet (values_of e x) q
  met_below low below h = record { value = below.0; member = below.1; stands = stands_lower q.op below.0 v q.bound low below.2 h }

  met_above : IsHigh q.op → HasAbove e x v → Stands q.op v q.bound → IsMet (values_of e x) q
  met_above high above h = record { value = above.0; member = above.1; stands = stands_higher q.op above.0 v q.bound high above.2 h }

  met_other : (w : ℤ) → q.op ≡ Ne → Contains (values_of e x) w → (w ≡ q.bound → ⊥) → IsMet (values_of e x) q
  met_other w is has n = record { value = w; member = has; stands = subst (λ op. Stands op w q.bound) (sym is) n }

  met_of_two : q.op ≡ Ne → HasTwo e x → IsMet (values_of e x) q
  met_of_two is t = elim (int_known t.one q.bound) [
    | inl same ↦ met_other t.other is t.has_other (λ f. t.different (same ∙ sym f))
    | inr n ↦ met_other t.one is t.has_one n
  ]

  -- a demand that was met is met after the loss, where this is so if the lost value met it
  still_met : (d : Domains) → Loses d e x v → (Stands q.op v q.bound → IsMet (values_of e x) q) → IsMet (values_of d x) q → IsMet (values_of e x) q
  still_met d loses instead met = elim (int_known met.value v) [
    | inl same ↦ instead (subst (λ w. Stands q.op w q.bound) same met.stands)
    | inr n ↦ record { value = met.value; member = loses.stay x met.value (λ f same. n same) met.member; stands = met.stands }
  ]

-- ---- comparisons of two variables

module _ (c : VarComparison) (distinct : Distinct (c.left ∷ c.right ∷ [])) where
  -- the right variable keeps its support where the left one loses a value, and the other way round
  right_keeps : (d e : Domains) (v : ℤ) (y : ℕ) (u : ℤ) → Loses d e c.left v
      → (Stands c.op v (u +ℤ c.offset) → IsMet (values_of e c.left) (of_left c y u)) → KeepsAt (comparison_of (Variables c)) d e c.left y u
  right_keeps d e v y u loses instead over other has s =
      let at = demand_at_right c y u other in
      let met = subst (λ (q : Demand). IsMet (values_of d q.var) q) at (met_from_supported c d y u over s) in
      var_supported c y u e distinct over has
      (subst (λ (q : Demand). IsMet (values_of e q.var) q) (sym at) (still_met e c.left v (of_left c y u) d loses instead met))

  left_unless_right : (y : ℕ) → Contains (c.left ∷ c.right ∷ []) y → (y ≡ c.right → ⊥) → y ≡ c.left
  left_unless_right y over other = elim (member_cases c.left (c.right ∷ []) y over) [
    | inl e ↦ sym e
    | inr m ↦ absurd (other (sym (member_single c.right y m)))
  ]

  left_keeps : (d e : Domains) (v : ℤ) (y : ℕ) (u : ℤ) → Loses d e c.right v
      → (Stands (flipped_of c.op) v (u -ℤ c.offset) → IsMet (values_of e c.right) (of_right c y u)) → KeepsAt (comparison_of (Variables c)) d e c.right y u
  left_keeps d e v y u loses instead over other has s =
      let at = demand_at_left c y u (left_unless_right y over other) in
      let met = subst (λ (q : Demand). IsMet (values_of d q.var) q) at (met_from_supported c d y u over s) in
      var_supported c y u e distinct over has
      (subst (λ (q : Demand). IsMet (values_of e q.var) q) (sym at) (still_met e c.right v (of_right c y u) d loses instead met))

  left_alone : c.op ≡ Ne → IsHeeded (comparison_of (Variables c)) c.left Alone
  left_alone is d e v loses t y u = right_keeps d e v y u loses (λ h. met_of_two e c.left v (of_left c y u) is t)

  right_alone : c.op ≡ Ne → IsHeeded (comparison_of (Variables c)) c.right Alone
  right_alone is d e v loses t y u = left_keeps d e v y u loses (λ h. met_of_two e c.right v (of_right c y u) (subst (λ op. flipped_of op ≡ Ne) (sym is) refl) t)

  module _ (place x : ℕ) (at : slice_get (c.left ∷ c.right ∷ []) place ≡ Some x) where
    of_the_left : (h : Heed) → place ≡ 0 → IsHeeded (comparison_of (Variables c)) c.left h → IsHeeded (comparison_of (Variables c)) x h
    of_the_left h first heeded =
        subst (λ z. IsHeeded (comparison_of (Variables c)) z h) (sym (at_first c distinct x (subst (λ k. slice_get (c.left ∷ c.right ∷ []) k ≡ Some x) first at))) heeded

    of_the_right : (h : Heed) → (place ≡ 0 → ⊥) → IsHeeded (comparison_of (Variables c)) c.right h → IsHeeded (comparison_of (Variables c)) x h
    of_the_right h later heeded = subst (λ z. IsHeeded (comparison_of (Variables c)) z h) (sym (at_later c distinct place x later at)) heeded

    -- of a variable that is to be low the least value counts, and of one that is to be high the greatest
    pub low_left : place ≡ 0 → IsLow c.op → IsHeeded (comparison_of (Variables c)) x Least
    low_left first low =
        of_the_left Least first (λ d e v loses below y u. right_keeps d e v y u loses (met_below e c.left v (of_left c y u) low below))

    pub high_left : place ≡ 0 → IsHigh c.op → IsHeeded (comparison_of (Variables c)) x Greatest
    high_left first high =
        of_the_left Greatest first (λ d e v loses above y u. right_keeps d e v y u loses (met_above e c.left v (of_left c y u) high above))

    pub low_right : (place ≡ 0 → ⊥) → IsHigh c.op → IsHeeded (comparison_of (Variables c)) x Least
    low_right later high =
        of_the_right Least later (λ d e v loses below y u. left_keeps d e v y u loses (met_below e c.right v (of_right c y u) (low_flipped c.op high) below))

    pub high_right : (place ≡ 0 → ⊥) → IsLow c.op → IsHeeded (comparison_of (Variables c)) x Greatest
    high_right later low =
        of_the_right Greatest later (λ d e v loses above y u. left_keeps d e v y u loses (met_above e c.right v (of_right c y u) (high_flipped c.op low) above))

    -- one of two values leaves the other variable what it has
    pub either_alone : c.op ≡ Ne → IsHeeded (comparison_of (Variables c)) x Alone
    either_alone is = elim (member_cases c.left (c.right ∷ []) x (member_get (c.left ∷ c.right ∷ []) place x at)) [
      | inl e ↦ subst (λ z. IsHeeded (comparison_of (Variables c)) z Alone) e (left_alone is)
      | inr m ↦ subst (λ z. IsHeeded (comparison_of (Variables c)) z Alone) (member_single c.right x m) (right_alone is)
    ]

    -- a lost value was equal to one value of the other variable alone
    pub left_shifted : (by : ℤ) → place ≡ 0 → c.op ≡ Eq → by ≡ pos 0 -ℤ c.offset → IsHeeded (comparison_of (Variables c)) x (Shifted by)
    left_shifted by first is same =
        of_the_left (Shifted by) first (λ d e v loses y u other. right_keeps d e v y u loses
        (λ h. let equal : v ≡ u +ℤ c.offset = subst (λ op. Stands op v (u +ℤ c.offset)) is h in absurd (other (omega (arith, ints, same, equal)))))

    pub right_shifted : (by : ℤ) → (place ≡ 0 → ⊥) → c.op ≡ Eq → by ≡ c.offset → IsHeeded (comparison_of (Variables c)) x (Shifted by)
    right_shifted by later is same =
        of_the_right (Shifted by) later (λ d e v loses y u other. left_keeps d e v y u loses
        (λ h. let equal : v ≡ u -ℤ c.offset = subst (λ op. Stands (flipped_of op) v (u -ℤ c.offset)) is h in absurd (other (omega (arith, ints, same, equal)))))
