-- The reason of a sum: the removed values beyond the present ones, or all removed values.
use Rattle.std.proofs.Common.{◌≡◌, ℕ, ◌<◌, ◌++◌, List, [], ◌∷◌, length, flat_map, Contains, ℤ, ◌*ℤ◌, ◌≤ℤ◌, Bool, true, false, not, cond, eqb, eq-eqb, inl, inr, refl, sym, ap, ◌∙◌, subst, int_lt, arith}
use Rattle.std.proofs.lemmas.Bool.{not-true, both_ways, eqb-true}
use Rattle.std.proofs.lemmas.Int.{ints, by_lt_z}
use Rattle.std.proofs.lemmas.List.Elements.{All-contains}
use Rattle.palm_base.proofs.cited.Members.{member_here, member_there, member_cases, member_single, member_same, member_map, member_unmap, filter_member, member_filter, flat_map_member, member_flat_map, member_known, nat_known, int_known}
use Rattle.palm_base.specs.declared.terms.Pair.{Pair}
use Rattle.palm_model.specs.Constraint.{Distinct, scope}
use Rattle.palm_model.specs.Domains.{Domains, Has, values_of, without}
use Rattle.palm_model.specs.Linear.{term_vars, total, linear_parts, least_of, greatest_of, products, least_total, greatest_total, other_terms, values_below, values_above, at_most_reason, at_least_reason, linear_reason}
use Rattle.palm_model.specs.Reason.{AreFilled, IsReason}
use Rattle.palm_model.specs.Relation.{Stands}
use Rattle.palm_model.specs.Removed.{pairs_of, others, removed_values, removed_pairs}
use Rattle.palm_model.specs.Support.{HasSupport, LacksSupport}
use Rattle.palm_model.specs.declared.constraint.Con.{Con}
use Rattle.palm_model.specs.declared.constraint.Con.TheVariants.{Linear}
use Rattle.palm_model.specs.declared.constraint.Op.{Op}
use Rattle.palm_model.specs.declared.constraint.Op.TheVariants.{Eq, Ne, Lt, Le, Gt, Ge}
use Rattle.palm_model.specs.declared.constraint.Term.{Term}
use Rattle.palm_model.specs.declared.part.Part.TheVariants.{Linear as LinearPart}
use Rattle.palm_model.proofs.cited.Reasons.{removed_member, member_removed, pairs_member, member_pairs}
use Rattle.palm_model.proofs.cited.Standing.{test_from_stands}
use Rattle.palm_model.proofs.cited.Supports.{lacking_by_part, part_unsupported, not_true, without_has}
use Rattle.palm_reason.proofs.cited.LinearTotals.{least_product_below, greatest_product_above, least_product_reached, greatest_product_reached, total_by, least_by, greatest_by, total_by_below, total_by_above, Takes, takes, total_taken, taken_within}
use Rattle.palm_reason.proofs.cited.TwoVariables.{lacking_over}

-- ---- support, by the least and the greatest that the sum can be

-- the variable of each term is x or has some value
abbrev pub AreFilledBeside : Domains → List Term → ℕ → Type 0
AreFilledBeside d terms x = (t : Term) → Contains terms t → (t.var ≡ x → ⊥) → 0 < length (values_of d t.var)

pub filled_beside : (d : Domains) (terms : List Term) (x : ℕ) → AreFilled d (term_vars terms) → AreFilledBeside d terms x
filled_beside d terms x filled t m n = All-contains (λ y. 0 < length (values_of d y)) (term_vars terms) t.var filled (member_map (λ (u : Term). u.var) terms t m)

module _ (d : Domains) (terms : List Term) (x : ℕ) (v : ℤ) where
  abbrev least : ℤ
  least = least_total d terms x v

  abbrev greatest : ℤ
  greatest = greatest_total d terms x v

  taken_support : (e : Term → ℤ) (op : Op) (bound : ℤ) → Has d x v → (r : Takes d e terms x v) → Stands op (total_by e terms x v) bound → HasSupport d (LinearPart terms op bound) x v
  taken_support e op bound has r h = record {
    assignment = r.assignment;
    within = taken_within d e terms x v has r;
    gives = r.gives;
    holds = subst (λ z. Stands op z bound) (sym (total_taken d e terms x v r)) h;
  }

  -- the least and the greatest are reached
  pub least_support : (op : Op) (bound : ℤ) → Distinct (term_vars terms) → Has d x v → AreFilledBeside d terms x → Stands op least bound → HasSupport d (LinearPart terms op bound) x v
  least_support op bound distinct has filled h =
      let e : Term → ℤ = λ t. least_of (products d t) in
      taken_support e op bound has
      (takes d e terms x v distinct (λ t m n. least_product_reached d t (filled t m n)))
      (subst (λ z. Stands op z bound) (least_by d terms x v) h)

  pub greatest_support : (op : Op) (bound : ℤ) → Distinct (term_vars terms) → Has d x v → AreFilledBeside d terms x → Stands op greatest bound → HasSupport d (LinearPart terms op bound) x v
  greatest_support op bound distinct has filled h =
      let e : Term → ℤ = λ t. greatest_of (products d t) in
      taken_support e op bound has
      (takes d e terms x v distinct (λ t m n. greatest_product_reached d t (filled t m n)))
      (subst (λ z. Stands op z bound) (greatest_by d terms x v) h)

  -- every sum of present values lies between them
  pub least_bounds : (op : Op) (bound : ℤ) (s : HasSupport d (LinearPart terms op bound) x v) → least ≤ℤ total s.assignment terms
  least_bounds op bound s =
      subst (λ z. z ≤ℤ total s.assignment terms) (sym (least_by d terms x v))
      (total_by_below (λ t. least_of (products d t)) terms x v s.assignment s.gives
      (λ t m n. least_product_below d t (s.assignment t.var) (s.within t.var (member_map (λ (u : Term). u.var) terms t m))))

  pub greatest_bounds : (op : Op) (bound : ℤ) (s : HasSupport d (LinearPart terms op bound) x v) → total s.assignment terms ≤ℤ greatest
  greatest_bounds op bound s =
      subst (λ z. total s.assignment terms ≤ℤ z) (sym (greatest_by d terms x v))
      (total_by_above (λ t. greatest_of (products d t)) terms x v s.assignment s.gives
      (λ t m n. greatest_product_above d t (s.assignment t.var) (s.within t.var (member_map (λ (u : Term). u.var) terms t m))))

  pub lacking_part : (op o : Op) (bound : ℤ) → Contains (linear_parts terms op bound) (LinearPart terms o bound) → Contains (term_vars terms) x → (HasSupport d (LinearPart terms o bound) x v → ⊥) → LacksSupport d (Linear terms op bound) x v
  lacking_part op o bound m over n = record { part = LinearPart terms o bound; is_part = m; over = over; lacks = n }

-- ---- pairs of the terms other than that of x, each with values of its own

other_member : (terms : List Term) (x : ℕ) (t : Term) → Contains (other_terms terms x) t → Contains terms t × (t.var ≡ x → ⊥)
other_member terms x t m =
    let r = filter_member (λ (u : Term). not (eqb u.var x)) terms t m in
    (r.0, λ e. both_ways (eqb t.var x) (not-true (eqb t.var x) r.1) (eq-eqb t.var x e))

member_other : (terms : List Term) (x : ℕ) (t : Term) → Contains terms t → (t.var ≡ x → ⊥) → Contains (other_terms terms x) t
member_other terms x t m n = member_filter (λ (u : Term). not (eqb u.var x)) terms t m (not_true (eqb t.var x) (λ h. n (eqb-true t.var x h)))

abbrev pub pairs_by : (Term → List ℤ) → List Term → ℕ → List Pair
pairs_by vs terms x = flat_map (λ t. pairs_of t.var (vs t)) (other_terms terms x)

-- the pairs of the other variables are those of the other terms
pub others_by : (f : ℕ → List ℤ) (terms : List Term) (x : ℕ) → flat_map (λ y. pairs_of y (f y)) (others (term_vars terms) x) ≡ pairs_by (λ t. f t.var) terms x
others_by f [] x = refl
others_by f (t ∷ ts) x = by_case (not (eqb t.var x)) (others_by f ts x)
  where
    by_case : (b : Bool) → flat_map (λ y. pairs_of y (f y)) (others (term_vars ts) x) ≡ flat_map (λ (u : Term). pairs_of u.var (f u.var)) (other_terms ts x) → flat_map (λ y. pairs_of y (f y)) (cond b (t.var ∷ others (term_vars ts) x) (others (term_vars ts) x)) ≡ flat_map (λ (u : Term). pairs_of u.var (f u.var)) (cond b (t ∷ other_terms ts x) (other_terms ts x))
    by_case true rest = ap (λ ps. pairs_of t.var (f t.var) ++ ps) rest
    by_case false rest = rest

module _ (initial present : Domains) (terms : List Term) (x : ℕ) (v : ℤ) where
  -- what is left of a term's values without these pairs
  left_value : (vs : Term → List ℤ) (t : Term) (w : ℤ) → Contains terms t → (t.var ≡ x → ⊥) → Has (without initial (pairs_by vs terms x)) t.var w → Has initial t.var w × (Contains (vs t) w → ⊥)
  left_value vs t w m n h =
      let r = without_has initial (pairs_by vs terms x) t.var w h in
      (r.0, λ k. r.1 (member_flat_map (λ (u : Term). pairs_of u.var (vs u)) (other_terms terms x) t (record { var = t.var; value = w }) (member_other terms x t m n) (member_pairs t.var (vs t) w k)))

  right_reason : (vs : Term → List ℤ) (c : Con) → scope c ≡ term_vars terms → ((t : Term) (w : ℤ) → Contains (vs t) w → Contains (removed_values initial present t.var) w) → LacksSupport (without initial (pairs_by vs terms x)) c x v → IsReason initial present c x v (pairs_by vs terms x)
  right_reason vs c over kept lacks = record {
    removed = λ p m.
        let r = flat_map_member (λ (u : Term). pairs_of u.var (vs u)) (other_terms terms x) p m in
        let q = pairs_member r.0.var (vs r.0) p r.2 in
        let s = removed_member initial present r.0.var p.value (kept r.0 p.value q.1) in
        (subst (λ y. Has initial y p.value) q.0 s.0, λ h. s.1 (subst (λ y. Has present y p.value) (sym q.0) h));
    others = λ p m.
        let r = flat_map_member (λ (u : Term). pairs_of u.var (vs u)) (other_terms terms x) p m in
        let q = pairs_member r.0.var (vs r.0) p r.2 in
        let o = other_member terms x r.0 r.1 in
        (subst (λ ys. Contains ys p.var) (sym over) (member_same (term_vars terms) r.0.var p.var q.0 (member_map (λ (u : Term). u.var) terms r.0 o.0)), λ e. o.1 (q.0 ∙ e));
    lacks = lacks;
  }

  -- ---- the sum cannot be as low as it is to be

  abbrev below : Term → List ℤ
  below t = values_below initial present t

  below_removed : (t : Term) (w : ℤ) → Contains (below t) w → Contains (removed_values initial present t.var) w
  below_removed t w m = (filter_member (λ u. int_lt (t.factor *ℤ u) (least_of (products present t))) (removed_values initial present t.var) w m).0

  left_not_below : (t : Term) (w : ℤ) → Contains terms t → (t.var ≡ x → ⊥) → Has (without initial (pairs_by below terms x)) t.var w → least_of (products present t) ≤ℤ (t.factor *ℤ w)
  left_not_below t w m n h =
      let r = left_value below t w m n h in
      by_lt_z (t.factor *ℤ w) (least_of (products present t))
      (λ lt. absurd (r.1 (member_filter (λ u. int_lt (t.factor *ℤ u) (least_of (products present t))) (removed_values initial present t.var) w
      (member_removed initial present t.var w r.0 (λ k. absurd (omega (arith, ints, lt, least_product_below present t w k))))
      (test_from_stands Lt (t.factor *ℤ w) (least_of (products present t)) lt))))
      (λ le. le)

  below_lacks : (op : Op) (bound : ℤ) → ((n : ℤ) → least_total present terms x v ≤ℤ n → Stands op n bound → ⊥) → HasSupport (without initial (pairs_by below terms x)) (LinearPart terms op bound) x v → ⊥
  below_lacks op bound high s =
      let low = total_by_below (λ t. least_of (products present t)) terms x v s.assignment s.gives
      (λ t m n. left_not_below t (s.assignment t.var) m n (s.within t.var (member_map (λ (u : Term). u.var) terms t m))) in
      high (total s.assignment terms) (subst (λ z. z ≤ℤ total s.assignment terms) (sym (least_by present terms x v)) low) s.holds

  high_reason : (op o : Op) (bound : ℤ) → Contains (linear_parts terms op bound) (LinearPart terms o bound) → Contains (term_vars terms) x → ((n : ℤ) → least_total present terms x v ≤ℤ n → Stands o n bound → ⊥) → IsReason initial present (Linear terms op bound) x v (at_most_reason initial present terms x)
  high_reason op o bound is over high =
      right_reason below (Linear terms op bound) refl below_removed
      (lacking_part (without initial (pairs_by below terms x)) terms x v op o bound is over (below_lacks o bound high))

  -- ---- the sum cannot be as high as it is to be

  abbrev above : Term → List ℤ
  above t = values_above initial present t

  above_removed : (t : Term) (w : ℤ) → Contains (above t) w → Contains (removed_values initial present t.var) w
  above_removed t w m = (filter_member (λ u. int_lt (greatest_of (products present t)) (t.factor *ℤ u)) (removed_values initial present t.var) w m).0

  left_not_above : (t : Term) (w : ℤ) → Contains terms t → (t.var ≡ x → ⊥) → Has (without initial (pairs_by above terms x)) t.var w → (t.factor *ℤ w) ≤ℤ greatest_of (products present t)
  left_not_above t w m n h =
      let r = left_value above t w m n h in
      by_lt_z (greatest_of (products present t)) (t.factor *ℤ w)
      (λ lt. absurd (r.1 (member_filter (λ u. int_lt (greatest_of (products present t)) (t.factor *ℤ u)) (removed_values initial present t.var) w
      (member_removed initial present t.var w r.0 (λ k. absurd (omega (arith, ints, lt, greatest_product_above present t w k))))
      (test_from_stands Lt (greatest_of (products present t)) (t.factor *ℤ w) lt))))
      (λ le. le)

  above_lacks : (op : Op) (bound : ℤ) → ((n : ℤ) → n ≤ℤ greatest_total present terms x v → Stands op n bound → ⊥) → HasSupport (without initial (pairs_by above terms x)) (LinearPart terms op bound) x v → ⊥
  above_lacks op bound low s =
      let high = total_by_above (λ t. greatest_of (products present t)) terms x v s.assignment s.gives
      (λ t m n. left_not_above t (s.assignment t.var) m n (s.within t.var (member_map (λ (u : Term). u.var) terms t m))) in
      low (total s.assignment terms) (subst (λ z. total s.assignment terms ≤ℤ z) (sym (greatest_by present terms x v)) high) s.holds

  low_reason : (op o : Op) (bound : ℤ) → Contains (linear_parts terms op bound) (LinearPart terms o bound) → Contains (term_vars terms) x → ((n : ℤ) → n ≤ℤ greatest_total present terms x v → Stands o n bound → ⊥) → IsReason initial present (Linear terms op bound) x v (at_least_reason initial present terms x)
  low_reason op o bound is over low =
      right_reason above (Linear terms op bound) refl above_removed
      (lacking_part (without initial (pairs_by above terms x)) terms x v op o bound is over (above_lacks o bound low))

  -- ---- the sum is to differ

  abbrev gone : Term → List ℤ
  gone t = removed_values initial present t.var

  left_present : (t : Term) (w : ℤ) → Contains terms t → (t.var ≡ x → ⊥) → Has (without initial (pairs_by gone terms x)) t.var w → Has present t.var w
  left_present t w m n h =
      let r = left_value gone t w m n h in
      elim (member_known int_known (values_of present t.var) w) [ inl k ↦ k | inr lost ↦ absurd (r.1 (member_removed initial present t.var w r.0 lost)) ]

  gone_support : (op : Op) (bound : ℤ) → Has present x v → HasSupport (without initial (pairs_by gone terms x)) (LinearPart terms op bound) x v → HasSupport present (LinearPart terms op bound) x v
  gone_support op bound has s = record {
    assignment = s.assignment;
    within = λ y m.
        let r = member_unmap (λ (u : Term). u.var) terms y m in
        elim (nat_known y x) [
          | inl e ↦ subst (λ z. Has present z (s.assignment z)) (sym e) (subst (λ u. Has present x u) (sym s.gives) has)
          | inr n ↦
              subst (λ z. Has present z (s.assignment z)) r.2
              (left_present r.0 (s.assignment r.0.var) r.1 (λ e. n (sym r.2 ∙ e)) (subst (λ z. Has (without initial (pairs_by gone terms x)) z (s.assignment z)) (sym r.2) (s.within y m)))
        ];
    gives = s.gives;
    holds = s.holds;
  }

  same_reason : (bound : ℤ) → Contains (term_vars terms) x → Has present x v → LacksSupport present (Linear terms Ne bound) x v → IsReason initial present (Linear terms Ne bound) x v (removed_pairs initial present (others (term_vars terms) x))
  same_reason bound over has l =
      subst (λ ps. IsReason initial present (Linear terms Ne bound) x v ps) (sym (others_by (λ y. removed_values initial present y) terms x))
      (right_reason gone (Linear terms Ne bound) refl (λ t w m. m)
      (lacking_by_part (without initial (pairs_by gone terms x)) (Linear terms Ne bound) (LinearPart terms Ne bound) x v refl over
      (λ s. part_unsupported present (Linear terms Ne bound) (LinearPart terms Ne bound) x v refl l (gone_support Ne bound has s))))

not_below : (m n : ℤ) → n ≤ℤ m → int_lt m n ≡ false
not_below m n h = grind (arith, ints)

-- ---- each relation

module _ (initial present : Domains) (terms : List Term) (x : ℕ) (v : ℤ) (distinct : Distinct (term_vars terms)) (filled : AreFilledBeside present terms x) (has : Has present x v) where
  abbrev low : ℤ
  low = least_total present terms x v

  abbrev high : ℤ
  high = greatest_total present terms x v

  -- a value that lacks support in a sum that is to be equal lacks it in one of the two parts
  equal_unmet : (bound : ℤ) → LacksSupport present (Linear terms Eq bound) x v → low ≤ℤ bound → bound ≤ℤ high → ⊥
  equal_unmet bound lacks le ge = elim (member_cases (LinearPart terms Le bound) (LinearPart terms Ge bound ∷ []) lacks.part lacks.is_part) [
    | inl e ↦ lacks.lacks (subst (λ q. HasSupport present q x v) e (least_support present terms x v Le bound distinct has filled le))
    | inr k ↦ lacks.lacks (subst (λ q. HasSupport present q x v) (member_single (LinearPart terms Ge bound) lacks.part k) (greatest_support present terms x v Ge bound distinct has filled ge))
  ]

  least_fails : (op : Op) (bound : ℤ) → linear_parts terms op bound ≡ LinearPart terms op bound ∷ [] → LacksSupport present (Linear terms op bound) x v → Stands op low bound → ⊥
  least_fails op bound one lacks h = part_unsupported present (Linear terms op bound) (LinearPart terms op bound) x v one lacks (least_support present terms x v op bound distinct has filled h)

  greatest_fails : (op : Op) (bound : ℤ) → linear_parts terms op bound ≡ LinearPart terms op bound ∷ [] → LacksSupport present (Linear terms op bound) x v → Stands op high bound → ⊥
  greatest_fails op bound one lacks h = part_unsupported present (Linear terms op bound) (LinearPart terms op bound) x v one lacks (greatest_support present terms x v op bound distinct has filled h)

  each_right : (op : Op) (bound : ℤ) → Contains (term_vars terms) x → LacksSupport present (Linear terms op bound) x v → IsReason initial present (Linear terms op bound) x v (linear_reason initial present terms op bound x v)
  each_right Eq bound over lacks =
      let P : Bool → Type 0 = λ b. IsReason initial present (Linear terms Eq bound) x v (cond b (at_most_reason initial present terms x) (at_least_reason initial present terms x)) in
      let at_most = LinearPart terms Le bound in
      let at_least = LinearPart terms Ge bound in
      by_lt_z bound low
      (λ lt. subst P (sym (test_from_stands Lt bound low lt))
      (high_reason initial present terms x v Eq Le bound (member_here at_most (at_least ∷ [])) over (λ n le h. absurd (omega (arith, ints, lt, le, h)))))
      (λ le. subst P (sym (not_below bound low le))
      (low_reason initial present terms x v Eq Ge bound (member_there at_most (at_least ∷ []) at_least (member_here at_least [])) over
      (λ n up h. equal_unmet bound lacks le (omega (arith, ints, up, h)))))
  each_right Ne bound over lacks = same_reason initial present terms x v bound over has lacks
  each_right Lt bound over lacks =
      high_reason initial present terms x v Lt Lt bound (member_here (LinearPart terms Lt bound) []) over (λ n le h. least_fails Lt bound refl lacks (omega (arith, ints, le, h)))
  each_right Le bound over lacks =
      high_reason initial present terms x v Le Le bound (member_here (LinearPart terms Le bound) []) over (λ n le h. least_fails Le bound refl lacks (omega (arith, ints, le, h)))
  each_right Gt bound over lacks =
      low_reason initial present terms x v Gt Gt bound (member_here (LinearPart terms Gt bound) []) over (λ n le h. greatest_fails Gt bound refl lacks (omega (arith, ints, le, h)))
  each_right Ge bound over lacks =
      low_reason initial present terms x v Ge Ge bound (member_here (LinearPart terms Ge bound) []) over (λ n le h. greatest_fails Ge bound refl lacks (omega (arith, ints, le, h)))

pub linear_right : (initial present : Domains) (terms : List Term) (op : Op) (bound : ℤ) (x : ℕ) (v : ℤ) → Distinct (term_vars terms) → AreFilled present (term_vars terms) → Has present x v → LacksSupport present (Linear terms op bound) x v → IsReason initial present (Linear terms op bound) x v (linear_reason initial present terms op bound x v)
linear_right initial present terms op bound x v distinct filled has lacks =
    each_right initial present terms x v distinct (filled_beside present terms x filled) has op bound (lacking_over present (Linear terms op bound) x v lacks) lacks
