-- What is known of support in a sum, whatever the domains: between two values, and beside variables with two values.
use Rattle.std.proofs.Common.{◌≡◌, ℕ, ◌+◌, ◌*◌, ◌<◌, ◌≤◌, List, [], ◌∷◌, length, get_or, cond, eqb, eq-eqb, ne_eqb, All, Contains, slice_get, Some, ℤ, pos, negsuc, ◌+ℤ◌, ◌*ℤ◌, ◌<ℤ◌, ◌≤ℤ◌, inl, inr, refl, sym, ap, ◌∙◌, subst, arith}
use Rattle.std.proofs.Math.Nat.{mul-le-mul_left}
use Rattle.std.proofs.lemmas.Int.{ints, by_lt_z}
use Rattle.std.proofs.lemmas.List.Elements.{All-contains}
use borrow.Author.Differences.{up, down}
use Rattle.palm_base.proofs.cited.Members.{member_here, member_there, member_nil, member_cases, member_single, member_tail, member_same, member_get, nat_known, int_known}
use Rattle.palm_filter.specs.Shapes.{HasTwo, IsConvex, IsGuarded, FitsShape}
use Rattle.palm_filter.specs.declared.shape.Shape.TheVariants.{Convex, Guarded}
use Rattle.palm_model.specs.Constraint.{Distinct, scope, IsWellFormed}
use Rattle.palm_model.specs.Domains.{Domains, Assignment, Has, IsWithin, values_of}
use Rattle.palm_model.specs.Linear.{IsFactor, term_vars, total, linear_parts}
use Rattle.palm_model.specs.Relation.{Stands}
use Rattle.palm_model.specs.Support.{HasSupport}
use Rattle.palm_model.specs.declared.constraint.Con.{Con}
use Rattle.palm_model.specs.declared.constraint.Con.TheVariants.{Linear}
use Rattle.palm_model.specs.declared.constraint.Op.{Op}
use Rattle.palm_model.specs.declared.constraint.Op.TheVariants.{Eq, Ne, Lt, Le, Gt, Ge}
use Rattle.palm_model.specs.declared.constraint.Term.{Term}
use Rattle.palm_model.specs.declared.part.Part.{Part}
use Rattle.palm_model.specs.declared.part.Part.TheVariants.{Linear as LinearPart}
use Rattle.palm_model.proofs.cited.Assignments.{total_agree}
use Rattle.palm_model.proofs.cited.Supports.{supported_by_part}
use Rattle.palm_model.proofs.cited.Trials.{put, put_same, put_other}
use Rattle.palm_reason.proofs.cited.LinearTotals.{product_rises, product_falls}
use Rattle.filter_linear.specs.Linear.{linear_of}
use Rattle.filter_linear.specs.declared.rule.LinearRule.{LinearRule}

-- ---- the coefficient of a variable

-- the coefficient of x, and 0 where no term is over x
abbrev pub factor_of : List Term → ℕ → ℤ
factor_of [] x = pos 0
factor_of (t ∷ ts) x = cond (eqb t.var x) t.factor (factor_of ts x)

pub factor_here : (t : Term) (ts : List Term) (x : ℕ) → t.var ≡ x → factor_of (t ∷ ts) x ≡ t.factor
factor_here t ts x e = ap (λ b. cond b t.factor (factor_of ts x)) (eq-eqb t.var x e)

pub factor_there : (t : Term) (ts : List Term) (x : ℕ) → (t.var ≡ x → ⊥) → factor_of (t ∷ ts) x ≡ factor_of ts x
factor_there t ts x n = ap (λ b. cond b t.factor (factor_of ts x)) (ne_eqb t.var x n)

-- two assignments that differ at x alone give sums that differ by what the term of x does
pub total_moved : (a b : Assignment) (terms : List Term) (x : ℕ) → Distinct (term_vars terms) → Contains (term_vars terms) x → ((y : ℕ) → (y ≡ x → ⊥) → a y ≡ b y) → total a terms +ℤ (factor_of terms x *ℤ b x) ≡ total b terms +ℤ (factor_of terms x *ℤ a x)
total_moved a b [] x distinct over same = absurd (member_nil x over)
total_moved a b (t ∷ ts) x distinct over same = elim (nat_known t.var x) [
  | inl e ↦
      let rest : total a ts ≡ total b ts = total_agree a b ts (λ y m. same y (λ s. distinct.0 (member_same (term_vars ts) y t.var (s ∙ sym e) m))) in
      let at_a : t.factor *ℤ a t.var ≡ factor_of (t ∷ ts) x *ℤ a x = ap (λ y. t.factor *ℤ a y) e ∙ ap (λ f. f *ℤ a x) (sym (factor_here t ts x e)) in
      let at_b : t.factor *ℤ b t.var ≡ factor_of (t ∷ ts) x *ℤ b x = ap (λ y. t.factor *ℤ b y) e ∙ ap (λ f. f *ℤ b x) (sym (factor_here t ts x e)) in
      sum_same (t.factor *ℤ a t.var) (total a ts) (factor_of (t ∷ ts) x *ℤ b x) (t.factor *ℤ b t.var) (total b ts) (factor_of (t ∷ ts) x *ℤ a x) at_a at_b rest
  | inr n ↦
      let more = total_moved a b ts x distinct.1 (member_tail t.var (term_vars ts) x n over) same in
      let own : t.factor *ℤ a t.var ≡ t.factor *ℤ b t.var = ap (λ v. t.factor *ℤ v) (same t.var n) in
      let at_a : factor_of (t ∷ ts) x *ℤ a x ≡ factor_of ts x *ℤ a x = ap (λ f. f *ℤ a x) (factor_there t ts x n) in
      let at_b : factor_of (t ∷ ts) x *ℤ b x ≡ factor_of ts x *ℤ b x = ap (λ f. f *ℤ b x) (factor_there t ts x n) in
      sum_more (t.factor *ℤ a t.var) (total a ts) (t.factor *ℤ b t.var) (total b ts) (factor_of ts x *ℤ b x) (factor_of ts x *ℤ a x) (factor_of (t ∷ ts) x *ℤ b x) (factor_of (t ∷ ts) x *ℤ a x) more own at_a at_b
]
  where
    sum_same : (p r q p' r' q' : ℤ) → p ≡ q' → p' ≡ q → r ≡ r' → (p +ℤ r) +ℤ q ≡ (p' +ℤ r') +ℤ q'
    sum_same p r q p' r' q' e f g = omega (arith, ints)

    sum_more : (p r p' r' q q' s s' : ℤ) → r +ℤ q ≡ r' +ℤ q' → p ≡ p' → s' ≡ q' → s ≡ q → (p +ℤ r) +ℤ s ≡ (p' +ℤ r') +ℤ s'
    sum_more p r p' r' q q' s s' e f g h = omega (arith, ints)

-- it is the coefficient of a term
pub factor_member : (terms : List Term) (x : ℕ) → Contains (term_vars terms) x → (t : Term) × Contains terms t × (factor_of terms x ≡ t.factor)
factor_member [] x over = absurd (member_nil x over)
factor_member (t ∷ ts) x over = elim (nat_known t.var x) [
  | inl e ↦ (t, member_here t ts, factor_here t ts x e)
  | inr n ↦ let r = factor_member ts x (member_tail t.var (term_vars ts) x n over) in (r.0, member_there t ts r.0 r.1, factor_there t ts x n ∙ r.2)
]

-- ---- another value for x

-- what is within the domains stays so where x takes another of its values
within_put : (a : Assignment) (vars : List ℕ) (d : Domains) (x : ℕ) (v : ℤ) → Has d x v → ((y : ℕ) → Contains vars y → (y ≡ x → ⊥) → Has d y (a y)) → IsWithin (put a x v) vars d
within_put a vars d x v has within y m = elim (nat_known y x) [
  | inl e ↦ subst (λ z. Has d z (put a x v z)) (sym e) (subst (λ w. Has d x w) (sym (put_same a x v)) has)
  | inr n ↦ subst (λ w. Has d y w) (sym (put_other a x v y n)) (within y m n)
]

module _ (d : Domains) (terms : List Term) (bound : ℤ) (x : ℕ) (v : ℤ) (distinct : Distinct (term_vars terms)) (over : Contains (term_vars terms) x) (has : Has d x v) where
  abbrev factor : ℤ
  factor = factor_of terms x

  -- the sum where x goes from u to v still stands in the relation
  moved_support : (op : Op) (u : ℤ) (s : HasSupport d (LinearPart terms op bound) x u) → ((m n : ℤ) → m +ℤ (factor *ℤ v) ≡ n +ℤ (factor *ℤ u) → Stands op m bound → Stands op n bound) → HasSupport d (LinearPart terms op bound) x v
  moved_support op u s keeps =
      let a = s.assignment in
      let b = put a x v in
      let moved = total_moved a b terms x distinct over (λ y n. sym (put_other a x v y n)) in
      record {
        assignment = b;
        within = within_put a (term_vars terms) d x v has (λ y m n. s.within y m);
        gives = put_same a x v;
        holds =
            keeps (total a terms) (total b terms)
            (ap (λ z. total a terms +ℤ (factor *ℤ z)) (sym (put_same a x v)) ∙ moved ∙ ap (λ z. total b terms +ℤ (factor *ℤ z)) s.gives)
            s.holds;
      }

  module _ (u w : ℤ) (above : u ≤ℤ v) (below : v ≤ℤ w) where
    -- a sum that is to be low
    low_between : (op : Op) → ((m n : ℤ) → n ≤ℤ m → Stands op m bound → Stands op n bound) → HasSupport d (LinearPart terms op bound) x u → HasSupport d (LinearPart terms op bound) x w → HasSupport d (LinearPart terms op bound) x v
    low_between op falls s r =
        by_lt_z (pos 0) factor
        (λ p. moved_support op w r (λ m n e h. falls m n (omega (arith, ints, e, product_rises factor v w p below)) h))
        (λ p. moved_support op u s (λ m n e h. falls m n (omega (arith, ints, e, product_falls factor u v p above)) h))

    -- a sum that is to be high
    high_between : (op : Op) → ((m n : ℤ) → m ≤ℤ n → Stands op m bound → Stands op n bound) → HasSupport d (LinearPart terms op bound) x u → HasSupport d (LinearPart terms op bound) x w → HasSupport d (LinearPart terms op bound) x v
    high_between op rises s r =
        by_lt_z (pos 0) factor
        (λ p. moved_support op u s (λ m n e h. rises m n (omega (arith, ints, e, product_rises factor u v p above)) h))
        (λ p. moved_support op w r (λ m n e h. rises m n (omega (arith, ints, e, product_falls factor v w p below)) h))

    at_most_between : HasSupport d (LinearPart terms Le bound) x u → HasSupport d (LinearPart terms Le bound) x w → HasSupport d (LinearPart terms Le bound) x v
    at_most_between = low_between Le (λ m n le h. omega (arith, ints, le, h))

    at_least_between : HasSupport d (LinearPart terms Ge bound) x u → HasSupport d (LinearPart terms Ge bound) x w → HasSupport d (LinearPart terms Ge bound) x v
    at_least_between = high_between Ge (λ m n le h. omega (arith, ints, le, h))

    -- each part of a sum that is not to differ supports a value between two that it supports
    abbrev IsBetween : Part → Type 0
    IsBetween p = HasSupport d p x u → HasSupport d p x w → HasSupport d p x v

    part_between : (op : Op) → (op ≡ Ne → ⊥) → (p : Part) → Contains (linear_parts terms op bound) p → IsBetween p
    part_between Eq order p m = elim (member_cases (LinearPart terms Le bound) (LinearPart terms Ge bound ∷ []) p m) [
      | inl e ↦ subst IsBetween e at_most_between
      | inr k ↦ subst IsBetween (member_single (LinearPart terms Ge bound) p k) at_least_between
    ]
    part_between Ne order p m = absurd (order refl)
    part_between Lt order p m = subst IsBetween (member_single (LinearPart terms Lt bound) p m) (low_between Lt (λ i j le h. omega (arith, ints, le, h)))
    part_between Le order p m = subst IsBetween (member_single (LinearPart terms Le bound) p m) at_most_between
    part_between Gt order p m = subst IsBetween (member_single (LinearPart terms Gt bound) p m) (high_between Gt (λ i j le h. omega (arith, ints, le, h)))
    part_between Ge order p m = subst IsBetween (member_single (LinearPart terms Ge bound) p m) at_least_between

-- a sum that is not to differ supports a value between two that it supports
pub sum_convex : (terms : List Term) (op : Op) (bound : ℤ) (x : ℕ) → Distinct (term_vars terms) → Contains (term_vars terms) x → (op ≡ Ne → ⊥) → IsConvex (Linear terms op bound) x
sum_convex terms op bound x distinct over order d u v w has above below s r = record {
  each = λ p m k. part_between d terms bound x v distinct over has u w above below op order p m (s.each p m k) (r.each p m k);
}

-- ---- a sum that is to differ

rising_apart : (n : ℕ) (v w : ℤ) → 0 < n → v <ℤ w → (pos n *ℤ v) <ℤ (pos n *ℤ w)
rising_apart n v w p h = let k : n * (up v + down w + 1) ≤ n * (up w + down v) = mul-le-mul_left n (omega (arith, ints, h)) in omega (arith, ints)

falling_apart : (n : ℕ) (v w : ℤ) → v <ℤ w → (negsuc n *ℤ w) <ℤ (negsuc n *ℤ v)
falling_apart n v w h = let k : (n + 1) * (up v + down w + 1) ≤ (n + 1) * (up w + down v) = mul-le-mul_left (n + 1) (omega (arith, ints, h)) in omega (arith, ints)

below_apart : (f v w : ℤ) → (f ≡ pos 0 → ⊥) → v <ℤ w → f *ℤ v ≡ f *ℤ w → ⊥
below_apart (pos n) v w some h e =
    let p : 0 < n = elim (nat_known n 0) [ inl z ↦ absurd (some (ap pos z)) | inr z ↦ omega (arith, z) ] in
    omega (arith, ints, e, rising_apart n v w p h)
below_apart (negsuc n) v w some h e = omega (arith, ints, e, falling_apart n v w h)

-- a coefficient other than 0 tells two values apart
pub product_apart : (f v w : ℤ) → (f ≡ pos 0 → ⊥) → (v ≡ w → ⊥) → f *ℤ v ≡ f *ℤ w → ⊥
product_apart f v w some apart e =
    by_lt_z v w
    (λ lt. below_apart f v w some lt e)
    (λ le. by_lt_z w v
    (λ lt. below_apart f w v some lt (sym e))
    (λ ge. apart (omega (arith, ints, le, ge))))

-- of several different members one is not x
another : (xs : List ℕ) (x : ℕ) → Distinct xs → 1 < length xs → (y : ℕ) × Contains xs y × (y ≡ x → ⊥)
another [] x distinct more = absurd (omega (arith, more))
another (y ∷ []) x distinct more = absurd (omega (arith, more))
another (y ∷ z ∷ xs) x distinct more = elim (nat_known y x) [
  | inl e ↦ (z, member_there y (z ∷ xs) z (member_here z xs), λ s. distinct.0 (member_same (z ∷ xs) z y (s ∙ sym e) (member_here z xs)))
  | inr n ↦ (y, member_here y (z ∷ xs), n)
]

-- the first of the values of each variable
abbrev firsts : Domains → Assignment
firsts d y = get_or (values_of d y) 0 (pos 0)

first_member : (vs : List ℤ) (v : ℤ) → Contains vs v → Contains vs (get_or vs 0 (pos 0))
first_member [] v m = absurd (member_nil v m)
first_member (w ∷ vs) v m = member_here w vs

-- a sum over several variables that is to differ supports a value beside variables with two values
pub sum_guarded : (terms : List Term) (bound : ℤ) (x : ℕ) → All IsFactor terms → Distinct (term_vars terms) → 1 < length (term_vars terms) → IsGuarded (Linear terms Ne bound) x
sum_guarded terms bound x factors distinct more d v has two =
    supported_by_part d (Linear terms Ne bound) (LinearPart terms Ne bound) x v refl (elim (int_known (total (with_value s.one) terms) bound) [
      | inr n ↦ gives_support s.one s.has_one n
      | inl e ↦ gives_support s.other s.has_other (λ f. apart (e ∙ sym f))
    ])
  where
    r : (y : ℕ) × Contains (term_vars terms) y × (y ≡ x → ⊥)
    r = another (term_vars terms) x distinct more

    s : HasTwo d r.0
    s = two r.0 r.1 r.2

    beside : Assignment
    beside = put (firsts d) x v

    with_value : ℤ → Assignment
    with_value w = put beside r.0 w

    gives_support : (w : ℤ) → Has d r.0 w → (total (with_value w) terms ≡ bound → ⊥) → HasSupport d (LinearPart terms Ne bound) x v
    gives_support w has_w n = record {
      assignment = with_value w;
      within = within_put beside (term_vars terms) d r.0 w has_w (λ y m k. within_put (firsts d) (term_vars terms) d x v has (λ z o q. first_member (values_of d z) (two z o q).one (two z o q).has_one) y m);
      gives = put_other beside r.0 w x (λ q. r.2 (sym q)) ∙ put_same (firsts d) x v;
      holds = n;
    }

    apart : total (with_value s.one) terms ≡ total (with_value s.other) terms → ⊥
    apart e =
        let f = factor_member terms r.0 r.1 in
        let some = (All-contains IsFactor terms f.0 factors f.1).0 in
        let moved = total_moved (with_value s.one) (with_value s.other) terms r.0 distinct r.1 (λ y n. put_other beside r.0 s.one y n ∙ sym (put_other beside r.0 s.other y n)) in
        let at_one : factor_of terms r.0 *ℤ with_value s.one r.0 ≡ f.0.factor *ℤ s.one = ap (λ z. factor_of terms r.0 *ℤ z) (put_same beside r.0 s.one) ∙ ap (λ z. z *ℤ s.one) f.2 in
        let at_other : factor_of terms r.0 *ℤ with_value s.other r.0 ≡ f.0.factor *ℤ s.other = ap (λ z. factor_of terms r.0 *ℤ z) (put_same beside r.0 s.other) ∙ ap (λ z. z *ℤ s.other) f.2 in
        product_apart f.0.factor s.one s.other some s.different (same_left (total (with_value s.one) terms) (total (with_value s.other) terms) (factor_of terms r.0 *ℤ with_value s.other r.0) (factor_of terms r.0 *ℤ with_value s.one r.0) (f.0.factor *ℤ s.one) (f.0.factor *ℤ s.other) moved e at_one at_other)
      where
        same_left : (m n i j k l : ℤ) → m +ℤ i ≡ n +ℤ j → m ≡ n → j ≡ k → i ≡ l → k ≡ l
        same_left m n i j k l moved e g h = omega (arith, ints)

-- ---- a filter's answers, for its meaning m

module _ (rule : LinearRule) (m : Con) (is : linear_of rule ≡ m) (variables : ℕ) (formed : IsWellFormed variables (linear_of rule)) (place : ℕ) where
  pub convex_answers : (rule.op ≡ Ne → ⊥) → FitsShape m place Convex
  convex_answers order x at =
      let over = member_get (term_vars rule.terms) place x (subst (λ c. slice_get (scope c) place ≡ Some x) (sym is) at) in
      subst (λ c. IsConvex c x) is (sum_convex rule.terms rule.op rule.bound x formed.distinct over order)

  pub guarded_answers : rule.op ≡ Ne → 1 < length (term_vars rule.terms) → FitsShape m place Guarded
  guarded_answers e more x at =
      subst (λ c. IsGuarded c x) (ap (λ o. Linear rule.terms o rule.bound) (sym e) ∙ is) (sum_guarded rule.terms rule.bound x formed.shaped.0 formed.distinct more)
