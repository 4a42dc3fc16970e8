-- The values of an ascending list that meet a demand to be low are its first ones, and those that meet one to be high its
-- last ones.
use Rattle.std.proofs.Common.{◌≡◌, ℕ, zero, suc, ℤ, Bool, true, false, not, cond, ◌<◌, ◌≤◌, ◌⊎◌, inl, inr, List, [], ◌∷◌, length, take, drop, get_or, filter, refl, sym, ap, ◌∙◌, subst, arith}
use Rattle.std.specs.List.Sorted.{IsPartitionedBy, IsPartitionPoint}
use Rattle.std.proofs.lemmas.Bool.{false≢true}
use Rattle.std.proofs.lemmas.Int.{ints}
use Rattle.palm_domain.specs.Rows.{Ascends}
use Rattle.palm_domain.proofs.cited.Ascending.{get_or-rises}
use Rattle.palm_model.specs.Relation.{is_standing}
use Rattle.palm_model.specs.declared.constraint.Op.TheVariants.{Lt, Le, Gt, Ge}
use Rattle.palm_model.proofs.cited.Standing.{stands_from_test, test_from_stands}
use Rattle.filter_compare.specs.Comparison.{meeting_values}
use Rattle.filter_compare.specs.declared.demand.Demand.{Demand}

-- ---- lists of which one end passes a test

module _ {X : Type 0} (p : X → Bool) where
  none_pass : (xs : List X) → ((i : ℕ) (d : X) → i < length xs → p (get_or xs i d) ≡ false) → filter p xs ≡ []
  none_pass [] fail = refl
  none_pass (x ∷ xs) fail = ap (λ b. cond b (x ∷ filter p xs) (filter p xs)) (fail 0 x (omega arith)) ∙ none_pass xs (λ i d l. fail (suc i) d (omega arith))

  all_pass : (xs : List X) → ((i : ℕ) (d : X) → i < length xs → p (get_or xs i d) ≡ true) → filter p xs ≡ xs
  all_pass [] pass = refl
  all_pass (x ∷ xs) pass = ap (λ b. cond b (x ∷ filter p xs) (filter p xs)) (pass 0 x (omega arith)) ∙ ap (λ ys. x ∷ ys) (all_pass xs (λ i d l. pass (suc i) d (omega arith)))

  first_pass : (xs : List X) (k : ℕ) → ((i : ℕ) (d : X) → i < k → i < length xs → p (get_or xs i d) ≡ true) → ((i : ℕ) (d : X) → k ≤ i → i < length xs → p (get_or xs i d) ≡ false) → filter p xs ≡ take k xs
  first_pass [] zero pass fail = refl
  first_pass [] (suc k) pass fail = refl
  first_pass (x ∷ xs) zero pass fail = none_pass (x ∷ xs) (λ i d l. fail i d (omega arith) l)
  first_pass (x ∷ xs) (suc k) pass fail =
      ap (λ b. cond b (x ∷ filter p xs) (filter p xs)) (pass 0 x (omega arith) (omega arith))
      ∙ ap (λ ys. x ∷ ys) (first_pass xs k (λ i d l m. pass (suc i) d (omega arith) (omega arith)) (λ i d l m. fail (suc i) d (omega arith) (omega arith)))

  last_pass : (xs : List X) (k : ℕ) → ((i : ℕ) (d : X) → i < k → i < length xs → p (get_or xs i d) ≡ false) → ((i : ℕ) (d : X) → k ≤ i → i < length xs → p (get_or xs i d) ≡ true) → filter p xs ≡ drop k xs
  last_pass [] zero fail pass = refl
  last_pass [] (suc k) fail pass = refl
  last_pass (x ∷ xs) zero fail pass = all_pass (x ∷ xs) (λ i d l. pass i d (omega arith) l)
  last_pass (x ∷ xs) (suc k) fail pass =
      ap (λ b. cond b (x ∷ filter p xs) (filter p xs)) (fail 0 x (omega arith) (omega arith))
      ∙ last_pass xs k (λ i d l m. fail (suc i) d (omega arith) (omega arith)) (λ i d l m. pass (suc i) d (omega arith) (omega arith))

-- ---- tests turned round

turned : (b c : Bool) → (b ≡ true → c ≡ true) → not c ≡ true → not b ≡ true
turned true true to n = n
turned true false to n = absurd (false≢true (to refl))
turned false c to n = refl

not_false : (b : Bool) → not b ≡ false → b ≡ true
not_false true e = refl
not_false false e = absurd (false≢true (sym e))

not_true : (b : Bool) → not b ≡ true → b ≡ false
not_true true e = absurd (false≢true e)
not_true false e = refl

-- ---- the ends of a domain

module _ (d : Demand) (vs : List ℤ) (up : Ascends vs) where
  abbrev meets : ℤ → Bool
  meets v = is_standing d.op v d.bound

  pub low_parted : (d.op ≡ Lt) ⊎ (d.op ≡ Le) → IsPartitionedBy meets vs
  low_parted low i j z le lt t =
      let rises = get_or-rises vs up i j z z le lt in
      elim low [
        | inl e ↦ subst (λ o. is_standing o (get_or vs j z) d.bound ≡ true → is_standing o (get_or vs i z) d.bound ≡ true) (sym e) (λ s. test_from_stands Lt (get_or vs i z) d.bound (omega (arith, ints, rises, stands_from_test Lt (get_or vs j z) d.bound s))) t
        | inr e ↦ subst (λ o. is_standing o (get_or vs j z) d.bound ≡ true → is_standing o (get_or vs i z) d.bound ≡ true) (sym e) (λ s. test_from_stands Le (get_or vs i z) d.bound (omega (arith, ints, rises, stands_from_test Le (get_or vs j z) d.bound s))) t
      ]

  meets_higher : (d.op ≡ Gt) ⊎ (d.op ≡ Ge) → (i j : ℕ) (z : ℤ) → i ≤ j → j < length vs → meets (get_or vs i z) ≡ true → meets (get_or vs j z) ≡ true
  meets_higher high i j z le lt t =
      let rises = get_or-rises vs up i j z z le lt in
      elim high [
        | inl e ↦ subst (λ o. is_standing o (get_or vs i z) d.bound ≡ true → is_standing o (get_or vs j z) d.bound ≡ true) (sym e) (λ s. test_from_stands Gt (get_or vs j z) d.bound (omega (arith, ints, rises, stands_from_test Gt (get_or vs i z) d.bound s))) t
        | inr e ↦ subst (λ o. is_standing o (get_or vs i z) d.bound ≡ true → is_standing o (get_or vs j z) d.bound ≡ true) (sym e) (λ s. test_from_stands Ge (get_or vs j z) d.bound (omega (arith, ints, rises, stands_from_test Ge (get_or vs i z) d.bound s))) t
      ]

  pub high_parted : (d.op ≡ Gt) ⊎ (d.op ≡ Ge) → IsPartitionedBy (λ v. not (meets v)) vs
  high_parted high i j z le lt t = turned (meets (get_or vs i z)) (meets (get_or vs j z)) (meets_higher high i j z le lt) t

  pub low_meet : (end : ℕ) → IsPartitionPoint (λ v. meets v ≡ true) (λ v. meets v ≡ false) vs end → take end vs ≡ meeting_values vs d
  low_meet end point = sym (first_pass meets vs end (λ i z l m. point.0 i z (omega arith) l) (λ i z l m. point.1 i z l m))

  pub high_meet : (start : ℕ) → IsPartitionPoint (λ v. not (meets v) ≡ true) (λ v. not (meets v) ≡ false) vs start → drop start vs ≡ meeting_values vs d
  high_meet start point =
      sym (last_pass meets vs start (λ i z l m. not_true (meets (get_or vs i z)) (point.0 i z (omega arith) l)) (λ i z l m. not_false (meets (get_or vs i z)) (point.1 i z l m)))

-- every value passes where nothing is asked
pub all_of : (vs : List ℤ) → filter (λ v. true) vs ≡ vs
all_of [] = refl
all_of (v ∷ vs) = ap (λ ws. v ∷ ws) (all_of vs)
