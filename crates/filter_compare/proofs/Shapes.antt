-- What comparisons know of support, whatever the domains.
use Rattle.std.proofs.Common.{◌≡◌, ℕ, suc, zero, ℤ, pos, ◌+ℤ◌, ◌-ℤ◌, ◌≤ℤ◌, Bool, true, false, cond, List, [], ◌∷◌, Contains, Some, eqb, ◌⊎◌, inl, inr, FitsSigned, w32, to_z, of_z, refl, sym, ap, ◌∙◌, subst, arith}
use Rattle.std.specs.Bool.{⊤}
use Rattle.std.specs.List.{slice_get}
use Rattle.std.proofs.lemmas.Int.{ints, to_z-of_z}
use Rattle.palm_base.proofs.cited.Members.{member_here, member_there, member_get, member_same}
use Rattle.palm_filter.specs.Shapes.{IsConvex, AreAlikeBut, IsApart}
use Rattle.palm_model.specs.Domains.{Domains, values_of}
use Rattle.palm_model.specs.Relation.{Stands}
use Rattle.palm_model.specs.Comparison.{IsOffset}
use Rattle.palm_model.specs.Constraint.{Distinct}
use Rattle.palm_model.specs.Support.{IsSupported, LacksSupport}
use Rattle.palm_model.specs.declared.constraint.Op.{Op}
use Rattle.palm_model.specs.declared.constraint.Op.TheVariants.{Eq, Ne, Lt, Le, Gt, Ge}
use Rattle.filter_compare.specs.Comparison.{comparison_of, flipped_of, demand_of, IsMet}
use Rattle.filter_compare.specs.declared.compare.Comparison.TheVariants.{Variables, Constant}
use Rattle.filter_compare.specs.declared.compare.VarComparison.{VarComparison}
use Rattle.filter_compare.specs.declared.demand.Demand.{Demand}
use Rattle.filter_compare.proofs.Comparisons.{demand_at_left, demand_at_right, var_supported, met_from_support, const_supported, const_lacking, stands_from_support, part, of_left, of_right, const_part}

-- a relation of an order
abbrev pub IsOrder : Op → Type 0
IsOrder Eq = ⊥
IsOrder Ne = ⊥
IsOrder op = ⊤

-- one of the relations that the code names
pub order_of : (op : Op) → (op ≡ Lt) ⊎ ((op ≡ Le) ⊎ ((op ≡ Gt) ⊎ (op ≡ Ge))) → IsOrder op
order_of op is = elim is [
  | inl e ↦ subst IsOrder (sym e) tt
  | inr later ↦ elim later [
    | inl e ↦ subst IsOrder (sym e) tt
    | inr last ↦ elim last [
      | inl e ↦ subst IsOrder (sym e) tt
      | inr e ↦ subst IsOrder (sym e) tt
    ]
  ]
]

order_flipped : (op : Op) → IsOrder op → IsOrder (flipped_of op)
order_flipped Eq o = absurd o
order_flipped Ne o = absurd o
order_flipped Lt o = o
order_flipped Le o = o
order_flipped Gt o = o
order_flipped Ge o = o

-- ---- comparisons of two variables

offset_fits : (z : ℤ) → IsOffset z → FitsSigned w32 z
offset_fits z o = let above = o.above in let below = o.below in omega (arith, ints, above, below)

opposite_fits : (z : ℤ) → IsOffset z → FitsSigned w32 (pos 0 -ℤ z)
opposite_fits z o = let above = o.above in let below = o.below in omega (arith, ints, above, below)

-- the offset of the left variable, as it is read, and of the right one
pub left_offset : (z : ℤ) → IsOffset z → to_z w32 (of_z w32 z) ≡ z
left_offset z o = to_z-of_z w32 z (offset_fits z o)

pub right_offset : (z : ℤ) → IsOffset z → to_z w32 (of_z w32 (pos 0 -ℤ to_z w32 (of_z w32 z))) ≡ pos 0 -ℤ z
right_offset z o = ap (λ k. to_z w32 (of_z w32 (pos 0 -ℤ k))) (left_offset z o) ∙ to_z-of_z w32 (pos 0 -ℤ z) (opposite_fits z o)

-- of three bounds that ascend, what meets the first or the last one can meet the one between
met_between : (op : Op) (vs : List ℤ) (x : ℕ) (p q r : ℤ) → IsOrder op → p ≤ℤ q → q ≤ℤ r
    → IsMet vs (record { var = x; op = op; bound = p }) → IsMet vs (record { var = x; op = op; bound = r }) → IsMet vs (record { var = x; op = op; bound = q })
met_between Eq vs x p q r o low high first last = absurd o
met_between Ne vs x p q r o low high first last = absurd o
met_between Lt vs x p q r o low high first last = record { value = first.value; member = first.member; stands = omega (arith, ints, first.stands, low) }
met_between Le vs x p q r o low high first last = record { value = first.value; member = first.member; stands = omega (arith, ints, first.stands, low) }
met_between Gt vs x p q r o low high first last = record { value = last.value; member = last.member; stands = omega (arith, ints, last.stands, high) }
met_between Ge vs x p q r o low high first last = record { value = last.value; member = last.member; stands = omega (arith, ints, last.stands, high) }

module _ (c : VarComparison) where
  -- the other variable can meet what is asked of it between two values for which it can
  demand_between : (b : Bool) (d : Domains) (x : ℕ) (u v w : ℤ) → IsOrder c.op → u ≤ℤ v → v ≤ℤ w
      → IsMet (values_of d (cond b (of_right c x u) (of_left c x u)).var) (cond b (of_right c x u) (of_left c x u))
      → IsMet (values_of d (cond b (of_right c x w) (of_left c x w)).var) (cond b (of_right c x w) (of_left c x w))
      → IsMet (values_of d (cond b (of_right c x v) (of_left c x v)).var) (cond b (of_right c x v) (of_left c x v))
  demand_between true d x u v w o low high first last =
      met_between (flipped_of c.op) (values_of d c.right) c.right (u -ℤ c.offset) (v -ℤ c.offset) (w -ℤ c.offset) (order_flipped c.op o) (omega (arith, ints, low)) (omega (arith, ints, high)) first last
  demand_between false d x u v w o low high first last =
      met_between c.op (values_of d c.left) c.left (u +ℤ c.offset) (v +ℤ c.offset) (w +ℤ c.offset) o (omega (arith, ints, low)) (omega (arith, ints, high)) first last

  pub met_from_supported : (d : Domains) (x : ℕ) (v : ℤ) → Contains (c.left ∷ c.right ∷ []) x → IsSupported d (comparison_of (Variables c)) x v → IsMet (values_of d (demand_of c x v).var) (demand_of c x v)
  met_from_supported d x v over s = met_from_support c x v d over (s.each (part c x v) (member_here (part c x v) []) over)

  module _ (distinct : Distinct (c.left ∷ c.right ∷ [])) where
    -- what has support in an order lies together
    pub order_convex : (place x : ℕ) → slice_get (c.left ∷ c.right ∷ []) place ≡ Some x → IsOrder c.op → IsConvex (comparison_of (Variables c)) x
    order_convex place x at o d u v w has low high first last =
        let over = member_get (c.left ∷ c.right ∷ []) place x at in
        var_supported c x v d distinct over has
        (demand_between (eqb x c.left) d x u v w o low high (met_from_supported d x u over first) (met_from_supported d x w over last))

    right_is_other : c.right ≡ c.left → ⊥
    right_is_other e = distinct.0 (member_same (c.right ∷ []) c.right c.left e (member_here c.right []))

    pub at_first : (x : ℕ) → slice_get (c.left ∷ c.right ∷ []) 0 ≡ Some x → x ≡ c.left
    at_first x at = cc

    pub at_later : (place x : ℕ) → (place ≡ 0 → ⊥) → slice_get (c.left ∷ c.right ∷ []) place ≡ Some x → x ≡ c.right
    at_later zero x n at = absurd (n refl)
    at_later (suc zero) x n at = cc
    at_later (suc (suc k)) x n at = cc

    -- where two variables differ, the left one may have what leaves the right one another value
    pub left_apart : (place x : ℕ) (by : ℤ) → place ≡ 0 → slice_get (c.left ∷ c.right ∷ []) place ≡ Some x → c.op ≡ Ne → by ≡ c.offset → IsApart (comparison_of (Variables c)) x by
    left_apart place x by first at is same d v has free =
        let e = at_first x (subst (λ k. slice_get (c.left ∷ c.right ∷ []) k ≡ Some x) first at) in
        let o = free c.right (member_there c.left (c.right ∷ []) c.right (member_here c.right [])) (λ f. right_is_other (f ∙ e)) in
        var_supported c x v d distinct (member_get (c.left ∷ c.right ∷ []) place x at) has
        (subst (λ (q : Demand). IsMet (values_of d q.var) q) (sym (demand_at_left c x v e))
        (record { value = o.other; member = o.has; stands = subst (λ op. Stands (flipped_of op) o.other (v -ℤ c.offset)) (sym is) (λ f. o.different (f ∙ ap (λ k. v -ℤ k) (sym same))) }))

    -- and the right one what leaves the left one another value
    pub right_apart : (place x : ℕ) (by : ℤ) → (place ≡ 0 → ⊥) → slice_get (c.left ∷ c.right ∷ []) place ≡ Some x → c.op ≡ Ne → by ≡ pos 0 -ℤ c.offset → IsApart (comparison_of (Variables c)) x by
    right_apart place x by later at is same d v has free =
        let e = at_later place x later at in
        let n : x ≡ c.left → ⊥ = λ f. right_is_other (sym e ∙ f) in
        let o = free c.left (member_here c.left (c.right ∷ [])) (λ f. n (sym f)) in
        let k : v +ℤ c.offset ≡ v -ℤ by = omega (arith, ints, same) in
        var_supported c x v d distinct (member_get (c.left ∷ c.right ∷ []) place x at) has
        (subst (λ (q : Demand). IsMet (values_of d q.var) q) (sym (demand_at_right c x v n))
        (record { value = o.other; member = o.has; stands = subst (λ op. Stands op o.other (v +ℤ c.offset)) (sym is) (λ f. o.different (f ∙ k)) }))

-- ---- comparisons with a value

stands_between : (op : Op) (u v w k : ℤ) → IsOrder op → u ≤ℤ v → v ≤ℤ w → Stands op u k → Stands op w k → Stands op v k
stands_between Eq u v w k o low high first last = absurd o
stands_between Ne u v w k o low high first last = absurd o
stands_between Lt u v w k o low high first last = omega (arith, ints, high, last)
stands_between Le u v w k o low high first last = omega (arith, ints, high, last)
stands_between Gt u v w k o low high first last = omega (arith, ints, low, first)
stands_between Ge u v w k o low high first last = omega (arith, ints, low, first)

module _ (q : Demand) where
  over_own : Contains (q.var ∷ []) q.var
  over_own = member_here q.var []

  stands_from_supported : (d : Domains) (v : ℤ) → IsSupported d (comparison_of (Constant q)) q.var v → Stands q.op v q.bound
  stands_from_supported d v s = stands_from_support q q.var v d over_own (s.each (const_part q q.var v) (member_here (const_part q q.var v) []) over_own)

  -- what has support in an order lies together
  pub const_convex : IsOrder q.op → IsConvex (comparison_of (Constant q)) q.var
  const_convex o d u v w has low high first last =
      const_supported q q.var v d has over_own (stands_between q.op u v w q.bound o low high (stands_from_supported d u first) (stands_from_supported d w last))

  supported_not_lacking : (d : Domains) (v : ℤ) → IsSupported d (comparison_of (Constant q)) q.var v → LacksSupport d (comparison_of (Constant q)) q.var v → ⊥
  supported_not_lacking d v s l = l.lacks (s.each l.part l.is_part l.over)

  -- the bound alone has support
  equal_alike : q.op ≡ Eq → AreAlikeBut (comparison_of (Constant q)) q.var q.bound
  equal_alike is = record {
    supports = λ d v w has_v has_w v_other w_other s. absurd (v_other (subst (λ op. Stands op v q.bound) is (stands_from_supported d v s)));
    lacks = λ d v w has_v has_w v_other w_other l. const_lacking q q.var w d over_own (λ h. w_other (subst (λ op. Stands op w q.bound) is h));
  }

  -- all but the bound have support
  differ_alike : q.op ≡ Ne → AreAlikeBut (comparison_of (Constant q)) q.var q.bound
  differ_alike is = record {
    supports = λ d v w has_v has_w v_other w_other s. const_supported q q.var w d has_w over_own (subst (λ op. Stands op w q.bound) (sym is) w_other);
    lacks = λ d v w has_v has_w v_other w_other l.
        absurd (supported_not_lacking d v (const_supported q q.var v d has_v over_own (subst (λ op. Stands op v q.bound) (sym is) v_other)) l);
  }

  pub const_alike : (k : ℤ) → k ≡ q.bound → (q.op ≡ Eq) ⊎ (q.op ≡ Ne) → AreAlikeBut (comparison_of (Constant q)) q.var k
  const_alike k same is = subst (λ n. AreAlikeBut (comparison_of (Constant q)) q.var n) (sym same) (elim is [ inl e ↦ equal_alike e | inr e ↦ differ_alike e ])
