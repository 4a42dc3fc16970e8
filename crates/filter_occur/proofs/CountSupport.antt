-- Support in a count, and its reasons as they are written.
use Rattle.std.proofs.Common.{◌≡◌, ℕ, ℤ, pos, ◌-◌, ◌<◌, ◌≤◌, List, ◌++◌, length, filter, All, Contains, inl, inr, refl, sym, ap, ◌∙◌, subst, arith, int_lt, length-append}
use Rattle.std.proofs.lemmas.Bool.{cases_Bool}
use Rattle.std.proofs.lemmas.List.Elements.{All-contains, Contains-append_left, Contains-append_right}
use Rattle.palm_base.proofs.cited.Members.{filter_agree_members, all_members}
use Rattle.palm_base.specs.declared.terms.Pair.{Pair}
use Rattle.palm_domain.proofs.cited.Comparisons.{lt_from_int_lt, ge_from_int_lt}
use Rattle.palm_model.specs.Domains.{Domains, Has, AllAscend, values_of}
use Rattle.palm_model.specs.Count.{target_scope, is_within_counts, is_target_fit, target_pairs, count_reason}
use Rattle.palm_model.specs.Constraint.{scope, Distinct, IsWellFormed}
use Rattle.palm_model.specs.Support.{IsSupported, LacksSupport}
use Rattle.palm_model.specs.Removed.{is_listed, pairs_of}
use Rattle.palm_model.specs.Reason.{reason, AreFilled}
use Rattle.palm_model.specs.declared.limits.TheConstants.{MOST_SCOPE}
use Rattle.palm_model.specs.declared.constraint.Con.{Con}
use Rattle.palm_model.specs.declared.constraint.Target.TheVariants.{Variable}
use Rattle.palm_model.specs.declared.part.Part.TheVariants.{Count as CountPart}
use Rattle.palm_model.proofs.cited.Supports.{supported_by_part, lacking_by_part}
use Rattle.filter_occur.specs.Count.{count_of, values_where, target_values, low_count, high_count, AreCounts, AreCountsTo, CanReach, IsCountReached, IsEnough}
use Rattle.filter_occur.specs.declared.counts.Counts.{Counts}
use Rattle.filter_occur.specs.declared.rule.CountRule.{CountRule}
use Rattle.palm_reason.proofs.cited.CountNumbers.{passed_few, low_high, distinct_front}
use Rattle.palm_reason.proofs.cited.CountReason.{Fits, fits_support, support_fits, counted_not_target, target_list, fit_same}

-- ---- a filter's answers, for its meaning m

all_left : (P : ℕ → Type 0) (xs ys : List ℕ) → All P (xs ++ ys) → All P xs
all_left P xs ys all = all_members P xs (λ y m. All-contains P (xs ++ ys) y all (Contains-append_left xs ys y m))

all_right : (P : ℕ → Type 0) (xs ys : List ℕ) → All P (xs ++ ys) → All P ys
all_right P xs ys all = all_members P ys (λ y m. All-contains P (xs ++ ys) y all (Contains-append_right xs ys y m))

module _ (o : CountRule) (m : Con) (n : ℕ) (is : count_of o ≡ m) (formed : IsWellFormed n m) where
  own_formed : IsWellFormed n (count_of o)
  own_formed = subst (λ k. IsWellFormed n k) (sym is) formed

  own_over : (x : ℕ) → Contains (scope m) x → Contains (o.vars ++ target_scope o.target) x
  own_over x over = subst (λ k. Contains (scope k) x) (sym is) over

  few_vars : length o.vars ≤ MOST_SCOPE
  few_vars = omega (arith, length-append o.vars (target_scope o.target), own_formed.few)

  pub vars_declared : All (λ y. y < n) o.vars
  vars_declared = all_left (λ y. y < n) o.vars (target_scope o.target) own_formed.declared

  pub target_declared : All (λ y. y < n) (target_scope o.target)
  target_declared = all_right (λ y. y < n) o.vars (target_scope o.target) own_formed.declared

  pub vars_filled : (d : Domains) → AreFilled d (scope m) → AreFilled d o.vars
  vars_filled d filled = all_left (λ y. 0 < length (values_of d y)) o.vars (target_scope o.target) (subst (λ k. AreFilled d (scope k)) (sym is) filled)

  pub answers_supported : (d : Domains) (x : ℕ) (v : ℤ) → AllAscend d → Contains (scope m) x → Has d x v → CanReach d x v o → IsSupported d m x v
  answers_supported d x v up over has r =
      subst (λ k. IsSupported d k x v) is
      (supported_by_part d (count_of o) (CountPart o.value o.vars o.op o.target) x v refl
      (fits_support d o.value o.vars o.op x v o.target up own_formed.distinct (own_over x over) has
      (record {
        filled = λ y k. All-contains (λ z. 0 < length (values_where d x v z)) o.vars y r.are.filled k;
        number = r.reached.number;
        from = subst (λ k. k ≤ r.reached.number) r.are.low r.reached.from;
        to = subst (λ k. r.reached.number ≤ k) r.are.high r.reached.to;
        target = r.reached.target;
        member = r.reached.member;
        stands = r.reached.stands;
      })))

  reach_from_fits : (d : Domains) (x : ℕ) (v : ℤ) → Fits d o.value o.vars o.op o.target x v → CanReach d x v o
  reach_from_fits d x v f = record {
    counts = record { low = low_count (values_where d x v) o.value o.vars; high = high_count (values_where d x v) o.value o.vars };
    are = record {
      low = refl;
      high = refl;
      ordered = low_high (values_where d x v) o.value o.vars;
      small = omega (arith, few_vars, passed_few (λ y. is_listed (values_where d x v y) o.value) o.vars);
      filled = all_members (λ y. 0 < length (values_where d x v y)) o.vars f.filled;
    };
    reached = record { number = f.number; from = f.from; to = f.to; target = f.target; member = f.member; stands = f.stands };
  }

  pub answers_lacking : (d : Domains) (x : ℕ) (v : ℤ) → Contains (scope m) x → (CanReach d x v o → ⊥) → LacksSupport d m x v
  answers_lacking d x v over none =
      subst (λ k. LacksSupport d k x v) is
      (lacking_by_part d (count_of o) (CountPart o.value o.vars o.op o.target) x v refl (own_over x over)
      (λ s. none (reach_from_fits d x v (support_fits d o.value o.vars o.op x v o.target s))))

  pub gives_reason : (initial present : Domains) (x : ℕ) (v : ℤ) (out : List Pair) → out ≡ count_reason initial present o.value o.vars o.op o.target x v → out ≡ reason initial present m x v
  gives_reason initial present x v out e = e ∙ ap (λ k. reason initial present k x v) is

-- ---- from what was counted to what is told

module _ (d : Domains) (x : ℕ) (v : ℤ) (o : CountRule) (enough : ℤ) (counts : Counts) (few : length o.vars ≤ MOST_SCOPE) (are : AreCountsTo d x v o enough counts) where
  pub reach_from_counted : IsCountReached counts o.op (target_values d x v o.target) → CanReach d x v o
  reach_from_counted r = record {
    counts = record { low = low_count (values_where d x v) o.value o.vars; high = high_count (values_where d x v) o.value o.vars };
    are = record {
      low = refl;
      high = refl;
      ordered = low_high (values_where d x v) o.value o.vars;
      small = omega (arith, few, passed_few (λ y. is_listed (values_where d x v y) o.value) o.vars);
      filled = are.filled;
    };
    reached = record { number = r.number; from = subst (λ n. n ≤ r.number) are.low r.from; to = omega (arith, r.to, are.most); target = r.target; member = r.member; stands = r.stands };
  }

  pub counted_from_reach : IsEnough o.op (target_values d x v o.target) enough → CanReach d x v o → IsCountReached counts o.op (target_values d x v o.target)
  counted_from_reach is r = elim (cases_Bool (int_lt (pos counts.high) enough)) [
    | inl t ↦
        let same : counts.high ≡ r.counts.high = are.high (lt_from_int_lt (pos counts.high) enough t) ∙ sym r.are.high in
        record { number = r.reached.number; from = omega (arith, r.reached.from, are.low, r.are.low); to = omega (arith, r.reached.to, same); target = r.reached.target; member = r.reached.member; stands = r.reached.stands }
    | inr t ↦ is counts r.counts are.ordered (ge_from_int_lt (pos counts.high) enough t) (r.are.low ∙ sym are.low) r.reached
  ]

-- ---- the declared values of the target

module _ (initial present : Domains) (o : CountRule) (x : ℕ) (v : ℤ) (y : ℕ) (counts : Counts) where
  pub targets_written : o.target ≡ Variable y → (y ≡ x → ⊥) → Distinct (o.vars ++ target_scope o.target) → Contains (o.vars ++ target_scope o.target) x → AreCounts present x v o counts → pairs_of y (filter (is_within_counts counts.low (counts.high - counts.low) o.op) (values_of initial y)) ≡ target_pairs initial present o.value o.vars o.op o.target x v
  targets_written e ne distinct over are =
      let counted = counted_not_target initial present o.value o.vars o.op x v y (subst (λ u. Contains (o.vars ++ target_scope u) x) e over) ne in
      ap (pairs_of y)
      (filter_agree_members (is_within_counts counts.low (counts.high - counts.low) o.op) (λ w. is_target_fit present o.value o.vars o.op x v w) (values_of initial y)
      (λ w k. fit_same present o.value o.vars x v (distinct_front o.vars (target_scope o.target) distinct) counted o.op w counts.low counts.high are.low are.high))
      ∙ sym (target_list initial present o.value o.vars o.op x v y ne)
      ∙ ap (λ u. target_pairs initial present o.value o.vars o.op u x v) (sym e)
