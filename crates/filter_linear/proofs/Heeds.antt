-- Which losses of a variable of a sum take support from values of the others: those at the end of its values that the
-- relation looks at, and of a sum that is to differ those that leave one value.
use Rattle.std.proofs.Common.{◌≡◌, ℕ, List, [], ◌∷◌, All, Contains, ℤ, pos, ◌+ℤ◌, ◌*ℤ◌, ◌<ℤ◌, ◌≤ℤ◌, ◌⊎◌, inl, inr, refl, sym, ap, ◌∙◌, subst, arith}
use Rattle.std.proofs.lemmas.Int.{ints, by_lt_z}
use Rattle.std.proofs.lemmas.List.Elements.{All-contains}
use Rattle.palm_base.proofs.cited.Members.{member_here, member_nil, member_cases, member_single, member_same, member_map, nat_known, int_known}
use Rattle.palm_filter.specs.Heeds.{Loses, HasBelow, HasAbove, IsHeeded}
use Rattle.palm_filter.specs.Shapes.{HasTwo}
use Rattle.palm_filter.specs.declared.heed.Heed.TheVariants.{Least, Greatest, Ends, Alone}
use Rattle.palm_model.specs.Constraint.{Distinct, IsWellFormed}
use Rattle.palm_model.specs.Domains.{Domains, Assignment, Has, IsWithin}
use Rattle.palm_model.specs.Linear.{IsFactor, term_vars, total, linear_parts}
use Rattle.palm_model.specs.Part.{scope_of, Holds}
use Rattle.palm_model.specs.Relation.{Stands}
use Rattle.palm_model.specs.Support.{HasSupport, IsSupported}
use Rattle.palm_model.specs.declared.constraint.Con.TheVariants.{Linear}
use Rattle.palm_model.specs.declared.constraint.Op.{Op}
use Rattle.palm_model.specs.declared.constraint.Op.TheVariants.{Eq, Ne, Lt, Le, Gt, Ge}
use Rattle.palm_model.specs.declared.constraint.Term.{Term}
use Rattle.palm_model.specs.declared.part.Part.{Part}
use Rattle.palm_model.specs.declared.part.Part.TheVariants.{Linear as LinearPart}
use Rattle.palm_model.proofs.cited.Supports.{supported_by_part}
use Rattle.palm_model.proofs.cited.Trials.{put, put_same, put_other}
use Rattle.palm_reason.proofs.cited.LinearTotals.{product_rises, product_falls}
use Rattle.filter_linear.specs.Linear.{linear_of}
use Rattle.filter_linear.specs.declared.rule.LinearRule.{LinearRule}
use Rattle.filter_linear.proofs.Shapes.{factor_of, factor_here, factor_there, factor_member, total_moved, product_apart}

-- ---- support after a loss

module _ (d e : Domains) (x : ℕ) (v : ℤ) (loses : Loses d e x v) where
  -- what does not give x the lost value stays within the domains
  within_still : (a : Assignment) (vars : List ℕ) → (a x ≡ v → ⊥) → IsWithin a vars d → IsWithin a vars e
  within_still a vars n within z m = loses.stay z (a z) (λ s f. n (ap a (sym s) ∙ f)) (within z m)

  -- and so does what gives x one of the values that are left
  within_put : (a : Assignment) (vars : List ℕ) (w : ℤ) → Has e x w → IsWithin a vars d → IsWithin (put a x w) vars e
  within_put a vars w has within z m = elim (nat_known z x) [
    | inl s ↦ subst (λ k. Has e k (put a x w k)) (sym s) (subst (λ k. Has e x k) (sym (put_same a x w)) has)
    | inr n ↦ subst (λ k. Has e z k) (sym (put_other a x w z n)) (loses.stay z (a z) (λ s f. n s) (within z m))
  ]

  -- where another value can stand for the lost one, the values of the other variables keep their support
  kept_by : (p : Part) (y : ℕ) (u : ℤ) → (y ≡ x → ⊥) → ((a : Assignment) → a x ≡ v → Holds p a → (w : ℤ) × Has e x w × Holds p (put a x w)) → HasSupport d p y u → HasSupport e p y u
  kept_by p y u ne other s = elim (int_known (s.assignment x) v) [
    | inl is ↦
        let r = other s.assignment is s.holds in
        record {
          assignment = put s.assignment x r.0;
          within = within_put s.assignment (scope_of p) r.0 r.1 s.within;
          gives = put_other s.assignment x r.0 y ne ∙ s.gives;
          holds = r.2;
        }
    | inr n ↦ record {
      assignment = s.assignment;
      within = within_still s.assignment (scope_of p) n s.within;
      gives = s.gives;
      holds = s.holds;
    }
  ]

-- ---- sums that are to be low, and sums that are to be high

-- a lower sum stands in the relation too
abbrev Falls : ℤ → Op → Type 0
Falls bound op = (m n : ℤ) → n ≤ℤ m → Stands op m bound → Stands op n bound

-- a higher sum stands in the relation too
abbrev Rises : ℤ → Op → Type 0
Rises bound op = (m n : ℤ) → m ≤ℤ n → Stands op m bound → Stands op n bound

falls : (bound : ℤ) (op : Op) → (op ≡ Lt) ⊎ (op ≡ Le) → Falls bound op
falls bound op (inl e) = subst (Falls bound) (sym e) (λ m n le h. omega (arith, ints, le, h))
falls bound op (inr e) = subst (Falls bound) (sym e) (λ m n le h. omega (arith, ints, le, h))

rises : (bound : ℤ) (op : Op) → (op ≡ Gt) ⊎ (op ≡ Ge) → Rises bound op
rises bound op (inl e) = subst (Rises bound) (sym e) (λ m n le h. omega (arith, ints, le, h))
rises bound op (inr e) = subst (Rises bound) (sym e) (λ m n le h. omega (arith, ints, le, h))

lower : (m n p q : ℤ) → m +ℤ p ≡ n +ℤ q → p ≤ℤ q → n ≤ℤ m
lower m n p q e le = omega (arith, ints, e, le)

higher : (m n p q : ℤ) → m +ℤ p ≡ n +ℤ q → q ≤ℤ p → m ≤ℤ n
higher m n p q e le = omega (arith, ints, e, le)

up_to : (v w : ℤ) → v <ℤ w → v ≤ℤ w
up_to v w lt = omega (arith, ints, lt)

module _ (terms : List Term) (bound : ℤ) (x : ℕ) (distinct : Distinct (term_vars terms)) (over : Contains (term_vars terms) x) where
  abbrev factor : ℤ
  factor = factor_of terms x

  -- what the sum becomes where x goes from v to w
  moved : (a : Assignment) (v w : ℤ) → a x ≡ v → total a terms +ℤ (factor *ℤ w) ≡ total (put a x w) terms +ℤ (factor *ℤ v)
  moved a v w is =
      ap (λ z. total a terms +ℤ (factor *ℤ z)) (sym (put_same a x w))
      ∙ total_moved a (put a x w) terms x distinct over (λ z n. sym (put_other a x w z n))
      ∙ ap (λ z. total (put a x w) terms +ℤ (factor *ℤ z)) is

  module _ (d e : Domains) (v : ℤ) (loses : Loses d e x v) (y : ℕ) (u : ℤ) (ne : y ≡ x → ⊥) where
    abbrev Kept : Part → Type 0
    Kept p = HasSupport d p y u → HasSupport e p y u

    low_kept : (op : Op) → Falls bound op → (w : ℤ) → Has e x w → (factor *ℤ w) ≤ℤ (factor *ℤ v) → Kept (LinearPart terms op bound)
    low_kept op down w has le =
        kept_by d e x v loses (LinearPart terms op bound) y u ne
        (λ a is h. (w, has, down (total a terms) (total (put a x w) terms) (lower (total a terms) (total (put a x w) terms) (factor *ℤ w) (factor *ℤ v) (moved a v w is) le) h))

    high_kept : (op : Op) → Rises bound op → (w : ℤ) → Has e x w → (factor *ℤ v) ≤ℤ (factor *ℤ w) → Kept (LinearPart terms op bound)
    high_kept op up w has le =
        kept_by d e x v loses (LinearPart terms op bound) y u ne
        (λ a is h. (w, has, up (total a terms) (total (put a x w) terms) (higher (total a terms) (total (put a x w) terms) (factor *ℤ w) (factor *ℤ v) (moved a v w is) le) h))

    low_by_below : (op : Op) → Falls bound op → pos 0 <ℤ factor → HasBelow e x v → Kept (LinearPart terms op bound)
    low_by_below op down p below = low_kept op down below.0 below.1 (product_rises factor below.0 v p (up_to below.0 v below.2))

    low_by_above : (op : Op) → Falls bound op → factor ≤ℤ pos 0 → HasAbove e x v → Kept (LinearPart terms op bound)
    low_by_above op down p above = low_kept op down above.0 above.1 (product_falls factor v above.0 p (up_to v above.0 above.2))

    high_by_above : (op : Op) → Rises bound op → pos 0 <ℤ factor → HasAbove e x v → Kept (LinearPart terms op bound)
    high_by_above op up p above = high_kept op up above.0 above.1 (product_rises factor v above.0 p (up_to v above.0 above.2))

    high_by_below : (op : Op) → Rises bound op → factor ≤ℤ pos 0 → HasBelow e x v → Kept (LinearPart terms op bound)
    high_by_below op up p below = high_kept op up below.0 below.1 (product_falls factor below.0 v p (up_to below.0 v below.2))

    low_by_ends : (op : Op) → Falls bound op → HasBelow e x v → HasAbove e x v → Kept (LinearPart terms op bound)
    low_by_ends op down below above = by_lt_z (pos 0) factor (λ p. low_by_below op down p below) (λ p. low_by_above op down p above)

    high_by_ends : (op : Op) → Rises bound op → HasBelow e x v → HasAbove e x v → Kept (LinearPart terms op bound)
    high_by_ends op up below above = by_lt_z (pos 0) factor (λ p. high_by_above op up p above) (λ p. high_by_below op up p below)

    -- a sum that is not to be equal has one part
    one_part : (op : Op) → (op ≡ Eq → ⊥) → linear_parts terms op bound ≡ LinearPart terms op bound ∷ []
    one_part Eq n = absurd (n refl)
    one_part Ne n = refl
    one_part Lt n = refl
    one_part Le n = refl
    one_part Gt n = refl
    one_part Ge n = refl

    kept_whole : (op : Op) → (op ≡ Eq → ⊥) → Contains (term_vars terms) y → Kept (LinearPart terms op bound) → IsSupported d (Linear terms op bound) y u → IsSupported e (Linear terms op bound) y u
    kept_whole op n over_y kept s =
        let own = subst (λ ps. Contains ps (LinearPart terms op bound)) (sym (one_part op n)) (member_here (LinearPart terms op bound) []) in
        supported_by_part e (Linear terms op bound) (LinearPart terms op bound) y u (one_part op n) (kept (s.each (LinearPart terms op bound) own over_y))

    kept_equal : HasBelow e x v → HasAbove e x v → (p : Part) → Contains (linear_parts terms Eq bound) p → Kept p
    kept_equal below above p m = elim (member_cases (LinearPart terms Le bound) (LinearPart terms Ge bound ∷ []) p m) [
      | inl q ↦ subst Kept q (low_by_ends Le (falls bound Le (inr refl)) below above)
      | inr k ↦ subst Kept (member_single (LinearPart terms Ge bound) p k) (high_by_ends Ge (rises bound Ge (inr refl)) below above)
    ]

  low_other : (op : Op) → (op ≡ Lt) ⊎ (op ≡ Le) → op ≡ Eq → ⊥
  low_other op (inl e) f = cc
  low_other op (inr e) f = cc

  high_other : (op : Op) → (op ≡ Gt) ⊎ (op ≡ Ge) → op ≡ Eq → ⊥
  high_other op (inl e) f = cc
  high_other op (inr e) f = cc

  low_least : (op : Op) → (op ≡ Lt) ⊎ (op ≡ Le) → pos 0 <ℤ factor → IsHeeded (Linear terms op bound) x Least
  low_least op low p d e v loses below y u over_y ne has s = kept_whole d e v loses y u ne op (low_other op low) over_y (low_by_below d e v loses y u ne op (falls bound op low) p below) s

  low_greatest : (op : Op) → (op ≡ Lt) ⊎ (op ≡ Le) → factor ≤ℤ pos 0 → IsHeeded (Linear terms op bound) x Greatest
  low_greatest op low p d e v loses above y u over_y ne has s = kept_whole d e v loses y u ne op (low_other op low) over_y (low_by_above d e v loses y u ne op (falls bound op low) p above) s

  high_greatest : (op : Op) → (op ≡ Gt) ⊎ (op ≡ Ge) → pos 0 <ℤ factor → IsHeeded (Linear terms op bound) x Greatest
  high_greatest op high p d e v loses above y u over_y ne has s = kept_whole d e v loses y u ne op (high_other op high) over_y (high_by_above d e v loses y u ne op (rises bound op high) p above) s

  high_least : (op : Op) → (op ≡ Gt) ⊎ (op ≡ Ge) → factor ≤ℤ pos 0 → IsHeeded (Linear terms op bound) x Least
  high_least op high p d e v loses below y u over_y ne has s = kept_whole d e v loses y u ne op (high_other op high) over_y (high_by_below d e v loses y u ne op (rises bound op high) p below) s

  equal_ends : IsHeeded (Linear terms Eq bound) x Ends
  equal_ends d e v loses below above y u over_y ne has s = record { each = λ p m k. kept_equal d e v loses y u ne below above p m (s.each p m k) }

  -- ---- a sum that is to differ

  same_products : (m i j k l : ℤ) → m +ℤ i ≡ k +ℤ l → m +ℤ j ≡ k +ℤ l → i ≡ j
  same_products m i j k l f g = omega (arith, ints, f, g)

  module _ (factors : All IsFactor terms) (e : Domains) (two : HasTwo e x) where
    -- of two values one gives a sum that is not the bound
    sums_apart : (a : Assignment) (v : ℤ) → a x ≡ v → total (put a x two.one) terms ≡ total (put a x two.other) terms → ⊥
    sums_apart a v is same =
        let f = factor_member terms x over in
        let some : factor ≡ pos 0 → ⊥ = λ z. (All-contains IsFactor terms f.0 factors f.1).0 (sym f.2 ∙ z) in
        product_apart factor two.one two.other some two.different
        (same_products (total a terms) (factor *ℤ two.one) (factor *ℤ two.other) (total (put a x two.other) terms) (factor *ℤ v)
        (moved a v two.one is ∙ ap (λ z. z +ℤ (factor *ℤ v)) same)
        (moved a v two.other is))

    other_sum : (a : Assignment) (v : ℤ) → a x ≡ v → (w : ℤ) × Has e x w × (total (put a x w) terms ≡ bound → ⊥)
    other_sum a v is = elim (int_known (total (put a x two.one) terms) bound) [
      | inl q ↦ (two.other, two.has_other, λ r. sums_apart a v is (q ∙ sym r))
      | inr n ↦ (two.one, two.has_one, n)
    ]

  differ_alone : All IsFactor terms → IsHeeded (Linear terms Ne bound) x Alone
  differ_alone factors d e v loses two y u over_y ne has s =
      kept_whole d e v loses y u ne Ne (λ q. cc) over_y (kept_by d e x v loses (LinearPart terms Ne bound) y u ne (λ a is h. other_sum factors e two a v is)) s

-- ---- a term of a sum

-- the coefficient of a term's variable is the term's
factor_own : (terms : List Term) (t : Term) → Distinct (term_vars terms) → Contains terms t → factor_of terms t.var ≡ t.factor
factor_own [] t distinct m = absurd (member_nil t m)
factor_own (k ∷ ts) t distinct m = elim (member_cases k ts t m) [
  | inl e ↦ factor_here k ts t.var (ap (λ (z : Term). z.var) e) ∙ ap (λ (z : Term). z.factor) e
  | inr r ↦ factor_there k ts t.var (λ s. distinct.0 (member_same (term_vars ts) t.var k.var (sym s) (member_map (λ (z : Term). z.var) ts t r))) ∙ factor_own ts t distinct.1 r
]

module _ (rule : LinearRule) (variables : ℕ) (formed : IsWellFormed variables (linear_of rule)) (t : Term) (own : Contains rule.terms t) where
  over_own : Contains (term_vars rule.terms) t.var
  over_own = member_map (λ (z : Term). z.var) rule.terms t own

  own_is : factor_of rule.terms t.var ≡ t.factor
  own_is = factor_own rule.terms t formed.distinct own

  positive : pos 0 <ℤ t.factor → pos 0 <ℤ factor_of rule.terms t.var
  positive p = subst (λ f. pos 0 <ℤ f) (sym own_is) p

  negative : t.factor ≤ℤ pos 0 → factor_of rule.terms t.var ≤ℤ pos 0
  negative p = subst (λ f. f ≤ℤ pos 0) (sym own_is) p

  pub heeds_ends : rule.op ≡ Eq → IsHeeded (linear_of rule) t.var Ends
  heeds_ends e = subst (λ o. IsHeeded (Linear rule.terms o rule.bound) t.var Ends) (sym e) (equal_ends rule.terms rule.bound t.var formed.distinct over_own)

  pub heeds_alone : rule.op ≡ Ne → IsHeeded (linear_of rule) t.var Alone
  heeds_alone e = subst (λ o. IsHeeded (Linear rule.terms o rule.bound) t.var Alone) (sym e) (differ_alone rule.terms rule.bound t.var formed.distinct over_own formed.shaped.0)

  pub low_heeds_least : (rule.op ≡ Lt) ⊎ (rule.op ≡ Le) → pos 0 <ℤ t.factor → IsHeeded (linear_of rule) t.var Least
  low_heeds_least low p = low_least rule.terms rule.bound t.var formed.distinct over_own rule.op low (positive p)

  pub low_heeds_greatest : (rule.op ≡ Lt) ⊎ (rule.op ≡ Le) → t.factor ≤ℤ pos 0 → IsHeeded (linear_of rule) t.var Greatest
  low_heeds_greatest low p = low_greatest rule.terms rule.bound t.var formed.distinct over_own rule.op low (negative p)

  pub high_heeds_greatest : (rule.op ≡ Gt) ⊎ (rule.op ≡ Ge) → pos 0 <ℤ t.factor → IsHeeded (linear_of rule) t.var Greatest
  high_heeds_greatest high p = high_greatest rule.terms rule.bound t.var formed.distinct over_own rule.op high (positive p)

  pub high_heeds_least : (rule.op ≡ Gt) ⊎ (rule.op ≡ Ge) → t.factor ≤ℤ pos 0 → IsHeeded (linear_of rule) t.var Least
  high_heeds_least high p = high_least rule.terms rule.bound t.var formed.distinct over_own rule.op high (negative p)
