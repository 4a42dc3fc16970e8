-- The values whose products are beyond those of all present values are the first or the last ones of an ascending list.
use Rattle.std.proofs.Common.{◌≡◌, ℕ, ◌+◌, ◌*◌, ◌≤◌, List, [], ◌∷◌, drop, get_or, filter, Contains, ℤ, pos, negsuc, ◌+ℤ◌, ◌*ℤ◌, ◌<ℤ◌, ◌≤ℤ◌, Bool, true, false, not, cond, refl, sym, ap, ◌∙◌, int_lt, arith}
use Rattle.std.proofs.Math.Nat.{mul-le-mul_left}
use Rattle.std.proofs.lemmas.Bool.{both_ways}
use Rattle.std.proofs.lemmas.Int.{ints, by_lt_z}
use borrow.Author.Differences.{up, down}
use Rattle.palm_base.proofs.cited.Members.{member_here, member_there, filter_agree_members}
use Rattle.palm_base.proofs.cited.Sorted.{filter_rest}
use Rattle.palm_base.specs.Order.{IsPartedAt}
use Rattle.palm_domain.specs.Rows.{IsLeastOf, IsGreatestOf}
use Rattle.palm_domain.proofs.cited.Comparisons.{ge_from_int_lt}
use Rattle.palm_model.specs.Domains.{Domains, values_of}
use Rattle.palm_model.specs.Linear.{IsFactor, least_of, greatest_of, products}
use Rattle.palm_model.specs.Removed.{is_listed}
use Rattle.palm_model.specs.declared.constraint.Term.{Term}
use Rattle.palm_model.specs.declared.constraint.Op.TheVariants.{Lt}
use Rattle.palm_model.proofs.cited.Reasons.{member_not_listed}
use Rattle.palm_model.proofs.cited.Standing.{stands_from_test, test_from_stands}
use Rattle.palm_reason.proofs.cited.LinearTotals.{product_rises, product_falls, least_product_below, greatest_product_above}
use Rattle.filter_linear.specs.Linear.{IsOfLow, values_beyond}
use Rattle.filter_linear.specs.declared.reasons.Side.{Side}
use Rattle.filter_linear.specs.declared.reasons.Side.TheVariants.{Below, Above}
use Rattle.filter_linear.proofs.Walks.{least_risen, least_fallen, greatest_risen, greatest_fallen}

-- ---- tests

yes : (b : Bool) → (false ≡ b → ⊥) → b ≡ true
yes true n = refl
yes false n = absurd (n refl)

no : (b : Bool) → (b ≡ true → ⊥) → b ≡ false
no true n = absurd (n refl)
no false n = refl

is_below : (v w : ℤ) → v <ℤ w → int_lt v w ≡ true
is_below v w lt = test_from_stands Lt v w lt

not_below : (v w : ℤ) → w ≤ℤ v → int_lt v w ≡ false
not_below v w le = no (int_lt v w) (λ e. absurd (omega (arith, ints, le, stands_from_test Lt v w e)))

-- of ascending values those above a bound are the last ones
pub higher_last : (vs : List ℤ) (bound : ℤ) (start : ℕ) → IsPartedAt (λ v. int_lt v (bound +ℤ pos 1)) vs start → drop start vs ≡ filter (λ v. int_lt bound v) vs
higher_last vs bound start parted =
    sym (filter_rest (λ v. int_lt bound v) vs start
    (λ k d ge lt. not_below bound (get_or vs k d) (omega (arith, ints, stands_from_test Lt (get_or vs k d) (bound +ℤ pos 1) (parted.before k d ge lt))))
    (λ k d ge lt. is_below bound (get_or vs k d) (omega (arith, ints, ge_from_int_lt (get_or vs k d) (bound +ℤ pos 1) (parted.after k d ge lt)))))

-- every value passes where nothing is asked
pub all_of : (vs : List ℤ) → filter (λ v. true) vs ≡ vs
all_of [] = refl
all_of (v ∷ vs) = ap (λ ws. v ∷ ws) (all_of vs)

-- ---- the order of products

strictly_up : (f v w : ℤ) → pos 0 <ℤ f → v <ℤ w → (f *ℤ v) <ℤ (f *ℤ w)
strictly_up (pos n) v w p h = let k : n * (up v + 1 + down w) ≤ n * (up w + down v) = mul-le-mul_left n (omega (arith, ints, h)) in omega (arith, ints, p)
strictly_up (negsuc n) v w p h = absurd (omega (arith, ints, p))

strictly_down : (f v w : ℤ) → f <ℤ pos 0 → v <ℤ w → (f *ℤ w) <ℤ (f *ℤ v)
strictly_down (pos n) v w p h = absurd (omega (arith, ints, p))
strictly_down (negsuc n) v w p h = let k : (n + 1) * (up v + 1 + down w) ≤ (n + 1) * (up w + down v) = mul-le-mul_left (n + 1) (omega (arith, ints, h)) in omega (arith, ints)

order_kept : (f v w : ℤ) → pos 0 <ℤ f → int_lt v w ≡ int_lt (f *ℤ v) (f *ℤ w)
order_kept f v w p =
    by_lt_z v w
    (λ lt. is_below v w lt ∙ sym (is_below (f *ℤ v) (f *ℤ w) (strictly_up f v w p lt)))
    (λ le. not_below v w le ∙ sym (not_below (f *ℤ v) (f *ℤ w) (product_rises f w v p le)))

order_turned : (f v w : ℤ) → f <ℤ pos 0 → int_lt v w ≡ int_lt (f *ℤ w) (f *ℤ v)
order_turned f v w p =
    by_lt_z v w
    (λ lt. is_below v w lt ∙ sym (is_below (f *ℤ w) (f *ℤ v) (strictly_down f v w p lt)))
    (λ le. not_below v w le ∙ sym (not_below (f *ℤ w) (f *ℤ v) (product_falls f w v (omega (arith, ints, p)) le)))

-- ---- removed values beyond the present ones

filter_both : (p q : ℤ → Bool) (vs : List ℤ) → ((w : ℤ) → Contains vs w → p w ≡ true → q w ≡ true) → filter p (filter q vs) ≡ filter p vs
filter_both p q [] both = refl
filter_both p q (v ∷ vs) both = by_case (p v) (q v) refl refl (λ e. both v (member_here v vs) e) (filter_both p q vs (λ w m e. both w (member_there v vs w m) e))
  where
    by_case : (b c : Bool) → p v ≡ b → q v ≡ c → (p v ≡ true → q v ≡ true) → filter p (filter q vs) ≡ filter p vs → filter p (cond c (v ∷ filter q vs) (filter q vs)) ≡ cond b (v ∷ filter p vs) (filter p vs)
    by_case b true e f h rest = ap (λ z. cond z (v ∷ filter p (filter q vs)) (filter p (filter q vs))) e ∙ ap (λ ws. cond b (v ∷ ws) ws) rest
    by_case true false e f h rest = absurd (both_ways (q v) f (h e))
    by_case false false e f h rest = rest

module _ (initial present : Domains) (t : Term) where
  abbrev values : List ℤ
  values = values_of initial t.var

  -- a declared value whose product is beyond those of the present ones is a removed one
  are_below : (test : ℤ → Bool) → ((w : ℤ) → test w ≡ int_lt (t.factor *ℤ w) (least_of (products present t))) → filter test values ≡ values_beyond Below initial present t
  are_below test same =
      filter_agree_members test (λ w. int_lt (t.factor *ℤ w) (least_of (products present t))) values (λ w m. same w)
      ∙ sym (filter_both (λ w. int_lt (t.factor *ℤ w) (least_of (products present t))) (λ w. not (is_listed (values_of present t.var) w)) values
      (λ w m e. member_not_listed (values_of present t.var) w (λ k.
      absurd (omega (arith, ints, stands_from_test Lt (t.factor *ℤ w) (least_of (products present t)) e, least_product_below present t w k)))))

  are_above : (test : ℤ → Bool) → ((w : ℤ) → test w ≡ int_lt (greatest_of (products present t)) (t.factor *ℤ w)) → filter test values ≡ values_beyond Above initial present t
  are_above test same =
      filter_agree_members test (λ w. int_lt (greatest_of (products present t)) (t.factor *ℤ w)) values (λ w m. same w)
      ∙ sym (filter_both (λ w. int_lt (greatest_of (products present t)) (t.factor *ℤ w)) (λ w. not (is_listed (values_of present t.var) w)) values
      (λ w m e. member_not_listed (values_of present t.var) w (λ k.
      absurd (omega (arith, ints, stands_from_test Lt (greatest_of (products present t)) (t.factor *ℤ w) e, greatest_product_above present t w k)))))

  -- beyond are the values below the least present one, or those above the greatest
  pub low_beyond : (side : Side) (low : ℤ) → IsOfLow side t.factor → IsLeastOf (values_of present t.var) low → filter (λ v. int_lt v low) values ≡ values_beyond side initial present t
  low_beyond Below low p least =
      are_below (λ v. int_lt v low) (λ w. order_kept t.factor w low p ∙ ap (λ z. int_lt (t.factor *ℤ w) z) (least_risen present t low least p))
  low_beyond Above low p least =
      are_above (λ v. int_lt v low) (λ w. order_turned t.factor w low p ∙ ap (λ z. int_lt z (t.factor *ℤ w)) (greatest_fallen present t low least (omega (arith, ints, p))))

  falls : IsFactor t → (IsOfLow Below t.factor → ⊥) → t.factor <ℤ pos 0
  falls factor n = by_lt_z t.factor (pos 0) (λ lt. lt) (λ le. by_lt_z (pos 0) t.factor (λ lt. absurd (n lt)) (λ ge. absurd (factor.0 (omega (arith, ints, le, ge)))))

  rises : IsFactor t → (IsOfLow Above t.factor → ⊥) → pos 0 <ℤ t.factor
  rises factor n = by_lt_z (pos 0) t.factor (λ lt. lt) (λ le. by_lt_z t.factor (pos 0) (λ lt. absurd (n lt)) (λ ge. absurd (factor.0 (omega (arith, ints, le, ge)))))

  pub high_beyond : IsFactor t → (side : Side) (high : ℤ) → (IsOfLow side t.factor → ⊥) → IsGreatestOf (values_of present t.var) high → filter (λ v. int_lt high v) values ≡ values_beyond side initial present t
  high_beyond factor Below high n greatest =
      let p = falls factor n in
      are_below (λ v. int_lt high v) (λ w. order_turned t.factor high w p ∙ ap (λ z. int_lt (t.factor *ℤ w) z) (least_fallen present t high greatest (omega (arith, ints, p))))
  high_beyond factor Above high n greatest =
      let p = rises factor n in
      are_above (λ v. int_lt high v) (λ w. order_kept t.factor high w p ∙ ap (λ z. int_lt z (t.factor *ℤ w)) (greatest_risen present t high greatest p))
