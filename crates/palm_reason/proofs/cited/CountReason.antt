-- Support in a count, and its reason: the pairs of the counted variables, and the values of the target that would fit.
use Rattle.std.proofs.Common.{◌≡◌, ℕ, ℤ, pos, ◌+◌, ◌-◌, ◌<◌, ◌≤◌, ◌<ℤ◌, Bool, true, false, ◌||◌, cond, List, [], ◌∷◌, ◌++◌, length, filter, flat_map, Contains, eq-eqb, ne_eqb, inl, inr, refl, sym, ap, ◌∙◌, subst, arith, int_eq}
use Rattle.std.proofs.lemmas.Bool.{cases_Bool, both_ways}
use Rattle.std.proofs.lemmas.Bool.Decides.{Decides-int_eq}
use Rattle.std.proofs.lemmas.List.Elements.{All-nil, All-contains, Contains-append_left, Contains-append_right, Contains-append_cases}
use Rattle.palm_base.proofs.cited.Members.{member_nil, member_here, member_single, member_same, filter_member, member_filter, flat_map_member, member_flat_map, all_members, nat_known, int_known, member_known}
use Rattle.palm_base.specs.declared.terms.Pair.{Pair}
use Rattle.palm_model.specs.Constraint.{Distinct}
use Rattle.palm_model.specs.Count.{target_scope, count_among, target_of, needs_low, needs_high, low_pairs, high_pairs, counted_pairs, least_count, greatest_count, own_count, is_within_counts, is_target_fit, target_pairs, count_reason}
use Rattle.palm_model.specs.Domains.{Domains, Assignment, Has, Ascends, AllAscend, values_of, without}
use Rattle.palm_model.specs.Reason.{AreFilled, IsReason}
use Rattle.palm_model.specs.Relation.{Stands}
use Rattle.palm_model.specs.Removed.{is_alone, is_listed, others, removed_values, pairs_of}
use Rattle.palm_model.specs.Support.{HasSupport, LacksSupport}
use Rattle.palm_model.specs.declared.constraint.Con.{Con}
use Rattle.palm_model.specs.declared.constraint.Con.TheVariants.{Count}
use Rattle.palm_model.specs.declared.constraint.Op.{Op}
use Rattle.palm_model.specs.declared.constraint.Target.{Target}
use Rattle.palm_model.specs.declared.constraint.Target.TheVariants.{Const, Variable}
use Rattle.palm_model.specs.declared.part.Part.{Part}
use Rattle.palm_model.specs.declared.part.Part.TheVariants.{Count as CountPart}
use Rattle.palm_model.proofs.cited.Ascending.{ascends_at}
use Rattle.palm_model.proofs.cited.Assignments.{counts_agree}
use Rattle.palm_model.proofs.cited.Reasons.{member_listed, removed_member, member_removed, pairs_member, member_pairs, others_member, member_others}
use Rattle.palm_model.proofs.cited.Supports.{lacking_by_part, part_unsupported, without_has}
use Rattle.palm_model.proofs.cited.Trials.{put, put_same, put_other}
use Rattle.palm_reason.specs.Count.{values_where, target_values, low_count, high_count}
use Rattle.palm_reason.proofs.cited.CountNumbers.{bit, passed_rises, alone_has, low_high, at_least_low, at_most_high, Choice, some_choice, Within, within_test, test_within, moved_within, passed_others, distinct_front, distinct_apart}
use Rattle.palm_reason.proofs.cited.TwoVariables.{lacking_over}

-- ---- the values where x has the value v

module _ (d : Domains) (x : ℕ) (v : ℤ) where
  pub where_same : (y : ℕ) → y ≡ x → values_where d x v y ≡ v ∷ []
  where_same y e = ap (λ b. cond b (v ∷ []) (values_of d y)) (eq-eqb y x e)

  pub where_other : (y : ℕ) → (y ≡ x → ⊥) → values_where d x v y ≡ values_of d y
  where_other y n = ap (λ b. cond b (v ∷ []) (values_of d y)) (ne_eqb y x n)

  pub where_ascends : AllAscend d → (y : ℕ) → Ascends (values_where d x v y)
  where_ascends up y = elim (nat_known y x) [
    | inl e ↦ subst Ascends (sym (where_same y e)) (All-nil (λ w. v <ℤ w), tt)
    | inr n ↦ subst Ascends (sym (where_other y n)) (ascends_at d y up)
  ]

  pub where_filled : (vars : List ℕ) → AreFilled d vars → (y : ℕ) → Contains vars y → 0 < length (values_where d x v y)
  where_filled vars filled y m = elim (nat_known y x) [
    | inl e ↦ subst (λ vs. 0 < length vs) (sym (where_same y e)) (omega arith)
    | inr n ↦ subst (λ vs. 0 < length vs) (sym (where_other y n)) (All-contains (λ z. 0 < length (values_of d z)) vars y filled m)
  ]

  -- such a value is one of the domain
  pub where_has : Has d x v → (y : ℕ) (w : ℤ) → Contains (values_where d x v y) w → Has d y w
  where_has has y w m = elim (nat_known y x) [
    | inl e ↦ subst (λ z. Has d z w) (sym e) (member_same (values_of d x) v w (member_single v w (subst (λ vs. Contains vs w) (where_same y e) m)) has)
    | inr n ↦ subst (λ vs. Contains vs w) (where_other y n) m
  ]

  pub where_given : (y : ℕ) (w : ℤ) → y ≡ x → Contains (values_where d x v y) w → w ≡ v
  where_given y w e m = sym (member_single v w (subst (λ vs. Contains vs w) (where_same y e) m))

  -- an assignment that gives x the value v takes such values
  pub has_where : (a : Assignment) → a x ≡ v → (y : ℕ) → Has d y (a y) → Contains (values_where d x v y) (a y)
  has_where a gives y has = elim (nat_known y x) [
    | inl e ↦ subst (λ vs. Contains vs (a y)) (sym (where_same y e)) (member_same (v ∷ []) v (a y) (sym (ap a e ∙ gives)) (member_here v []))
    | inr n ↦ subst (λ vs. Contains vs (a y)) (sym (where_other y n)) has
  ]

-- ---- support

-- no variable is without a value, and some number between the two stands in the relation to a value of the target
pub record Fits (d : Domains) (value : ℤ) (vars : List ℕ) (op : Op) (t : Target) (x : ℕ) (v : ℤ) : Type 0 where
  pub filled : (y : ℕ) → Contains vars y → 0 < length (values_where d x v y)
  pub number : ℕ
  pub from : low_count (values_where d x v) value vars ≤ number
  pub to : number ≤ high_count (values_where d x v) value vars
  pub target : ℤ
  pub member : Contains (target_values d x v t) target
  pub stands : Stands op (pos number) target

module _ (d : Domains) (value : ℤ) (vars : List ℕ) (op : Op) (x : ℕ) (v : ℤ) where
  -- the target takes its value beside the counted variables
  support_by_choice : (t : Target) → Distinct (vars ++ target_scope t) → Contains (vars ++ target_scope t) x → Has d x v → (k : ℕ) → Choice (values_where d x v) value vars k → (w : ℤ) → Contains (target_values d x v t) w → Stands op (pos k) w → HasSupport d (CountPart value vars op t) x v
  support_by_choice (Const u) distinct over has k c w m h =
      let counted : (y : ℕ) → Contains (vars ++ []) y → Contains vars y =
      λ y n. elim (Contains-append_cases vars [] y n) [ inl r ↦ r | inr r ↦ absurd (member_nil y r) ] in
      record {
        assignment = c.assignment;
        within = λ y n. where_has d x v has y (c.assignment y) (c.within y (counted y n));
        gives = where_given d x v x (c.assignment x) refl (c.within x (counted x over));
        holds = subst (λ n. Stands op (pos n) u) (sym c.counted) (subst (λ z. Stands op (pos k) z) (sym (member_single u w m)) h);
      }
  support_by_choice (Variable y) distinct over has k c w m h =
      let a = put c.assignment y w in
      let apart : (z : ℕ) → Contains vars z → z ≡ y → ⊥ =
      λ z n e. distinct_apart vars (y ∷ []) z distinct n (member_same (y ∷ []) y z (sym e) (member_here y [])) in
      let takes : (z : ℕ) → Contains (vars ++ y ∷ []) z → Contains (values_where d x v z) (a z) =
      λ z n. elim (Contains-append_cases vars (y ∷ []) z n) [
        | inl r ↦ subst (λ u. Contains (values_where d x v z) u) (sym (put_other c.assignment y w z (apart z r))) (c.within z r)
        | inr r ↦ subst (λ s. Contains (values_where d x v s) (a s)) (member_single y z r) (subst (λ u. Contains (values_where d x v y) u) (sym (put_same c.assignment y w)) m)
      ] in
      record {
        assignment = a;
        within = λ z n. where_has d x v has z (a z) (takes z n);
        gives = where_given d x v x (a x) refl (takes x over);
        holds =
            subst (λ n. Stands op (pos n) (a y)) (sym (counts_agree a c.assignment value vars (λ z n. put_other c.assignment y w z (apart z n)) ∙ c.counted))
            (subst (λ u. Stands op (pos k) u) (sym (put_same c.assignment y w)) h);
      }

  pub fits_support : (t : Target) → AllAscend d → Distinct (vars ++ target_scope t) → Contains (vars ++ target_scope t) x → Has d x v → Fits d value vars op t x v → HasSupport d (CountPart value vars op t) x v
  fits_support t up distinct over has f =
      support_by_choice t distinct over has f.number
      (some_choice (values_where d x v) value vars f.number (distinct_front vars (target_scope t) distinct) f.filled (where_ascends d x v up) f.from f.to)
      f.target f.member f.stands

  taken_target : (t : Target) (a : Assignment) → a x ≡ v → ((y : ℕ) → Contains (vars ++ target_scope t) y → Has d y (a y)) → Contains (target_values d x v t) (target_of a t)
  taken_target (Const u) a gives within = member_here u []
  taken_target (Variable y) a gives within = has_where d x v a gives y (within y (Contains-append_right vars (y ∷ []) y (member_here y [])))

  pub support_fits : (t : Target) → HasSupport d (CountPart value vars op t) x v → Fits d value vars op t x v
  support_fits t s =
      let takes : (y : ℕ) → Contains vars y → Contains (values_where d x v y) (s.assignment y) =
      λ y m. has_where d x v s.assignment s.gives y (s.within y (Contains-append_left vars (target_scope t) y m)) in
      record {
        filled = λ y m. omega (arith, (takes y m).1);
        number = count_among s.assignment value vars;
        from = at_least_low (values_where d x v) value vars s.assignment takes;
        to = at_most_high (values_where d x v) value vars s.assignment takes;
        target = target_of s.assignment t;
        member = taken_target t s.assignment s.gives s.within;
        stands = s.holds;
      }

-- ---- the numbers of the other variables, and of x itself

module _ (d : Domains) (value : ℤ) (vars : List ℕ) (x : ℕ) (v : ℤ) (distinct : Distinct vars) (counted : Contains vars x) where
  listed_one : (b : Bool) → (b || false) ≡ b
  listed_one true = refl
  listed_one false = refl

  pub low_others : low_count (values_where d x v) value vars ≡ least_count d value (others vars x) + own_count value v
  low_others =
      passed_others (λ y. is_alone (values_where d x v y) value) (λ y. is_alone (values_of d y) value) x vars distinct counted
      (λ y n. ap (λ vs. is_alone vs value) (where_other d x v y n))
      ∙ ap (λ b. least_count d value (others vars x) + bit b) (ap (λ vs. is_alone vs value) (where_same d x v x refl))

  pub high_others : high_count (values_where d x v) value vars ≡ greatest_count d value (others vars x) + own_count value v
  high_others =
      passed_others (λ y. is_listed (values_where d x v y) value) (λ y. is_listed (values_of d y) value) x vars distinct counted
      (λ y n. ap (λ vs. is_listed vs value) (where_other d x v y n))
      ∙ ap (λ b. greatest_count d value (others vars x) + bit b) (ap (λ vs. is_listed vs value) (where_same d x v x refl) ∙ listed_one (int_eq v value))

  pub fit_same : (op : Op) (w : ℤ) (low high : ℕ) → low ≡ low_count (values_where d x v) value vars → high ≡ high_count (values_where d x v) value vars → is_within_counts low (high - low) op w ≡ is_target_fit d value vars op x v w
  fit_same op w low high e f =
      let more : high - low ≡ greatest_count d value (others vars x) - least_count d value (others vars x) = omega (arith, e, f, low_others, high_others) in
      ap (λ n. is_within_counts low n op w) more
      ∙ ap (λ n. is_within_counts n (greatest_count d value (others vars x) - least_count d value (others vars x)) op w) (e ∙ low_others)

  pub fit_within : (op : Op) (w : ℤ) → is_target_fit d value vars op x v w ≡ true → Within (low_count (values_where d x v) value vars) (high_count (values_where d x v) value vars) op w
  fit_within op w t =
      let low = low_count (values_where d x v) value vars in
      let high = high_count (values_where d x v) value vars in
      let le : low ≤ high = low_high (values_where d x v) value vars in
      let r = test_within low (high - low) op w (fit_same op w low high refl refl ∙ t) in
      record { number = r.number; from = r.from; to = omega (arith, r.to, le); stands = r.stands }

  pub within_fit : (op : Op) (w : ℤ) → Within (low_count (values_where d x v) value vars) (high_count (values_where d x v) value vars) op w → is_target_fit d value vars op x v w ≡ true
  within_fit op w r =
      let low = low_count (values_where d x v) value vars in
      let high = high_count (values_where d x v) value vars in
      sym (fit_same op w low high refl refl) ∙ within_test low (high - low) op w r.number r.from (omega (arith, r.from, r.to)) r.stands

-- ---- reasons

in_then : {X : Type 0} (b : Bool) (xs : List X) (p : X) → Contains (cond b xs []) p → (b ≡ true) × Contains xs p
in_then true xs p m = (refl, m)
in_then false xs p m = absurd (member_nil p m)

in_else : {X : Type 0} (b : Bool) (xs : List X) (p : X) → Contains (cond b [] xs) p → (b ≡ false) × Contains xs p
in_else true xs p m = absurd (member_nil p m)
in_else false xs p m = (refl, m)

then_in : {X : Type 0} (b : Bool) (xs : List X) (p : X) → b ≡ true → Contains xs p → Contains (cond b xs []) p
then_in b xs p t m = subst (λ c. Contains (cond c xs []) p) (sym t) m

else_in : {X : Type 0} (b : Bool) (xs : List X) (p : X) → b ≡ false → Contains xs p → Contains (cond b [] xs) p
else_in b xs p t m = subst (λ c. Contains (cond c [] xs) p) (sym t) m

-- a declared pair of y that is not present
abbrev IsRemoved : Domains → Domains → ℕ → Pair → Type 0
IsRemoved initial present y p = (y ≡ p.var) × Has initial y p.value × (Has present y p.value → ⊥)

module _ (initial present : Domains) (value : ℤ) (op : Op) (y : ℕ) where
  low_removed : (p : Pair) → Contains (low_pairs initial present value y) p → IsRemoved initial present y p
  low_removed p m =
      let r = in_then (is_alone (values_of present y) value) (pairs_of y (removed_values initial present y)) p m in
      let s = pairs_member y (removed_values initial present y) p r.1 in
      let t = removed_member initial present y p.value s.1 in
      (s.0, t.0, t.1)

  high_removed : (p : Pair) → Contains (high_pairs initial present value y) p → IsRemoved initial present y p
  high_removed p m =
      let r = in_else (is_listed (values_of present y) value) (pairs_of y (filter (λ w. int_eq w value) (values_of initial y))) p m in
      let s = pairs_member y (filter (λ w. int_eq w value) (values_of initial y)) p r.1 in
      let t = filter_member (λ w. int_eq w value) (values_of initial y) p.value s.1 in
      (s.0, t.0, λ k. both_ways (is_listed (values_of present y) value) r.0 (member_listed (values_of present y) value (member_same (values_of present y) p.value value ((Decides-int_eq p.value value).0 t.1) k)))

  counted_removed : (p : Pair) → Contains (counted_pairs initial present value op y) p → IsRemoved initial present y p
  counted_removed p m = elim (Contains-append_cases (cond (needs_low op) (low_pairs initial present value y) []) (cond (needs_high op) (high_pairs initial present value y) []) p m) [
    | inl r ↦ low_removed p (in_then (needs_low op) (low_pairs initial present value y) p r).1
    | inr r ↦ high_removed p (in_then (needs_high op) (high_pairs initial present value y) p r).1
  ]

  low_counted : (w : ℤ) → needs_low op ≡ true → is_alone (values_of present y) value ≡ true → Has initial y w → (Has present y w → ⊥) → Contains (counted_pairs initial present value op y) (record { var = y; value = w })
  low_counted w needed alone has gone =
      let pair : Pair = record { var = y; value = w } in
      Contains-append_left (cond (needs_low op) (low_pairs initial present value y) []) (cond (needs_high op) (high_pairs initial present value y) []) pair
      (then_in (needs_low op) (low_pairs initial present value y) pair needed
      (then_in (is_alone (values_of present y) value) (pairs_of y (removed_values initial present y)) pair alone
      (member_pairs y (removed_values initial present y) w (member_removed initial present y w has gone))))

  high_counted : needs_high op ≡ true → is_listed (values_of present y) value ≡ false → Has initial y value → Contains (counted_pairs initial present value op y) (record { var = y; value = value })
  high_counted needed unlisted has =
      let pair : Pair = record { var = y; value = value } in
      Contains-append_right (cond (needs_low op) (low_pairs initial present value y) []) (cond (needs_high op) (high_pairs initial present value y) []) pair
      (then_in (needs_high op) (high_pairs initial present value y) pair needed
      (else_in (is_listed (values_of present y) value) (pairs_of y (filter (λ w. int_eq w value) (values_of initial y))) pair unlisted
      (member_pairs y (filter (λ w. int_eq w value) (values_of initial y)) value
      (member_filter (λ w. int_eq w value) (values_of initial y) value has ((Decides-int_eq value value).1 refl)))))

module _ (initial present : Domains) (value : ℤ) (vars : List ℕ) (op : Op) (t : Target) (x : ℕ) (v : ℤ) where
  abbrev con : Con
  con = Count value vars op t

  abbrev part : Part
  part = CountPart value vars op t

  abbrev vars_and_target : List ℕ
  vars_and_target = vars ++ target_scope t

  abbrev counted_all : List Pair
  counted_all = flat_map (counted_pairs initial present value op) (others vars x)

  abbrev pairs : List Pair
  pairs = count_reason initial present value vars op t x v

  -- a removed pair of another variable of the scope
  abbrev IsOther : Pair → Type 0
  IsOther p = (Contains vars_and_target p.var × (p.var ≡ x → ⊥)) × Has initial p.var p.value × (Has present p.var p.value → ⊥)

  counted_other : (p : Pair) → Contains counted_all p → IsOther p
  counted_other p m =
      let r = flat_map_member (counted_pairs initial present value op) (others vars x) p m in
      let s = others_member vars x r.0 r.1 in
      let g = counted_removed initial present value op r.0 p r.2 in (
        (Contains-append_left vars (target_scope t) p.var (member_same vars r.0 p.var g.0 s.0), λ e. s.1 (g.0 ∙ e)),
        subst (λ y. Has initial y p.value) g.0 g.1,
        λ h. g.2 (subst (λ y. Has present y p.value) (sym g.0) h),
      )

  in_pairs_left : (p : Pair) → Contains counted_all p → Contains pairs p
  in_pairs_left p m = Contains-append_left counted_all (target_pairs initial present value vars op t x v) p m

  low_in : (y : ℕ) (w : ℤ) → Contains vars y → (y ≡ x → ⊥) → needs_low op ≡ true → is_alone (values_of present y) value ≡ true → Has initial y w → (Has present y w → ⊥) → Contains pairs (record { var = y; value = w })
  low_in y w m ne needed alone has gone =
      in_pairs_left (record { var = y; value = w })
      (member_flat_map (counted_pairs initial present value op) (others vars x) y (record { var = y; value = w }) (member_others vars x y m ne) (low_counted initial present value op y w needed alone has gone))

  high_in : (y : ℕ) → Contains vars y → (y ≡ x → ⊥) → needs_high op ≡ true → is_listed (values_of present y) value ≡ false → Has initial y value → Contains pairs (record { var = y; value = value })
  high_in y m ne needed unlisted has =
      in_pairs_left (record { var = y; value = value })
      (member_flat_map (counted_pairs initial present value op) (others vars x) y (record { var = y; value = value }) (member_others vars x y m ne) (high_counted initial present value op y needed unlisted has))

  -- without the pairs, a count is too low or too high only where this does not matter
  module _ (a : Assignment) (gives : a x ≡ v) (within : (y : ℕ) → Contains vars y → Has (without initial pairs) y (a y)) where
    low_taken : needs_low op ≡ true → (y : ℕ) → Contains vars y → is_alone (values_where present x v y) value ≡ true → a y ≡ value
    low_taken needed y m alone = elim (nat_known y x) [
      | inl e ↦ ap a e ∙ gives ∙ (Decides-int_eq v value).0 (subst (λ vs. is_alone vs value ≡ true) (where_same present x v y e) alone)
      | inr ne ↦
          let here : is_alone (values_of present y) value ≡ true = subst (λ vs. is_alone vs value ≡ true) (where_other present x v y ne) alone in
          let r = without_has initial pairs y (a y) (within y m) in
          elim (member_known int_known (values_of present y) (a y)) [
            | inl h ↦ alone_has (values_of present y) value (a y) here h
            | inr n ↦ absurd (r.1 (low_in y (a y) m ne needed here r.0 n))
          ]
    ]

    high_taken : needs_high op ≡ true → (y : ℕ) → Contains vars y → a y ≡ value → is_listed (values_where present x v y) value ≡ true
    high_taken needed y m is = elim (nat_known y x) [
      | inl e ↦ member_listed (values_where present x v y) value (subst (λ vs. Contains vs value) (sym (where_same present x v y e)) (member_same (v ∷ []) v value (sym (ap a e ∙ gives) ∙ is) (member_here v [])))
      | inr ne ↦ elim (cases_Bool (is_listed (values_of present y) value)) [
        | inl l ↦ subst (λ vs. is_listed vs value ≡ true) (sym (where_other present x v y ne)) l
        | inr l ↦
            let r = without_has initial pairs y value (subst (λ w. Has (without initial pairs) y w) is (within y m)) in
            absurd (r.1 (high_in y m ne needed l r.0))
      ]
    ]

    pub number_within : (w : ℤ) → Stands op (pos (count_among a value vars)) w → Within (low_count (values_where present x v) value vars) (high_count (values_where present x v) value vars) op w
    number_within w h =
        moved_within op (low_count (values_where present x v) value vars) (high_count (values_where present x v) value vars) (count_among a value vars) w
        (low_high (values_where present x v) value vars)
        (λ needed. passed_rises (λ y. is_alone (values_where present x v y) value) (λ y. int_eq (a y) value) vars (λ y m alone. (Decides-int_eq (a y) value).1 (low_taken needed y m alone)))
        (λ needed. passed_rises (λ y. int_eq (a y) value) (λ y. is_listed (values_where present x v y) value) vars (λ y m is. high_taken needed y m ((Decides-int_eq (a y) value).0 is)))
        h

-- ---- the pairs of the target

module _ (initial present : Domains) (value : ℤ) (vars : List ℕ) (op : Op) (x : ℕ) (v : ℤ) where
  pub counted_not_target : (y : ℕ) → Contains (vars ++ y ∷ []) x → (y ≡ x → ⊥) → Contains vars x
  counted_not_target y over ne = elim (Contains-append_cases vars (y ∷ []) x over) [ inl m ↦ m | inr m ↦ absurd (ne (member_single y x m)) ]

  target_skip : (y : ℕ) → y ≡ x → target_pairs initial present value vars op (Variable y) x v ≡ []
  target_skip y e = ap (λ b. cond b [] (pairs_of y (filter (λ w. is_target_fit present value vars op x v w) (values_of initial y)))) (eq-eqb y x e)

  pub target_list : (y : ℕ) → (y ≡ x → ⊥) → target_pairs initial present value vars op (Variable y) x v ≡ pairs_of y (filter (λ w. is_target_fit present value vars op x v w) (values_of initial y))
  target_list y ne = ap (λ b. cond b [] (pairs_of y (filter (λ w. is_target_fit present value vars op x v w) (values_of initial y)))) (ne_eqb y x ne)

  target_other : (t : Target) → Contains (vars ++ target_scope t) x → Distinct (vars ++ target_scope t) → AreFilled present vars → (Fits present value vars op t x v → ⊥) → (p : Pair) → Contains (target_pairs initial present value vars op t x v) p → IsOther initial present value vars op t x v p
  target_other (Const u) over distinct filled unfit p m = absurd (member_nil p m)
  target_other (Variable y) over distinct filled unfit p m = elim (nat_known y x) [
    | inl e ↦ absurd (member_nil p (subst (λ ps. Contains ps p) (target_skip y e) m))
    | inr ne ↦
        let fits = λ (w : ℤ). is_target_fit present value vars op x v w in
        let r = pairs_member y (filter fits (values_of initial y)) p (subst (λ ps. Contains ps p) (target_list y ne) m) in
        let s = filter_member fits (values_of initial y) p.value r.1 in
        let k = fit_within present value vars x v (distinct_front vars (y ∷ []) distinct) (counted_not_target y over ne) op p.value s.1 in (
          (Contains-append_right vars (y ∷ []) p.var (member_same (y ∷ []) y p.var r.0 (member_here y [])), λ e. ne (r.0 ∙ e)),
          subst (λ z. Has initial z p.value) r.0 s.0,
          λ h. unfit (record {
            filled = where_filled present x v vars filled;
            number = k.number;
            from = k.from;
            to = k.to;
            target = p.value;
            member = subst (λ vs. Contains vs p.value) (sym (where_other present x v y ne)) (subst (λ z. Has present z p.value) (sym r.0) h);
            stands = k.stands;
          }),
        )
  ]

  -- without the pairs, the target has no value in which a number stands in the relation
  target_lacking : (t : Target) → Contains (vars ++ target_scope t) x → Distinct (vars ++ target_scope t) → AreFilled present vars → (Fits present value vars op t x v → ⊥) → (s : HasSupport (without initial (count_reason initial present value vars op t x v)) (CountPart value vars op t) x v) → Within (low_count (values_where present x v) value vars) (high_count (values_where present x v) value vars) op (target_of s.assignment t) → ⊥
  target_lacking (Const u) over distinct filled unfit s k =
      unfit (record { filled = where_filled present x v vars filled; number = k.number; from = k.from; to = k.to; target = u; member = member_here u []; stands = k.stands })
  target_lacking (Variable y) over distinct filled unfit s k = elim (nat_known y x) [
    | inl e ↦
        unfit (record {
          filled = where_filled present x v vars filled;
          number = k.number;
          from = k.from;
          to = k.to;
          target = s.assignment y;
          member = subst (λ vs. Contains vs (s.assignment y)) (sym (where_same present x v y e)) (member_same (v ∷ []) v (s.assignment y) (sym (ap s.assignment e ∙ s.gives)) (member_here v []));
          stands = k.stands;
        })
    | inr ne ↦
        let fits = λ (w : ℤ). is_target_fit present value vars op x v w in
        let w = s.assignment y in
        let pair : Pair = record { var = y; value = w } in
        let counted_all = flat_map (counted_pairs initial present value op) (others vars x) in
        let r = without_has initial (count_reason initial present value vars op (Variable y) x v) y w (s.within y (Contains-append_right vars (y ∷ []) y (member_here y []))) in
        r.1 (Contains-append_right counted_all (target_pairs initial present value vars op (Variable y) x v) pair
        (subst (λ ps. Contains ps pair) (sym (target_list y ne))
        (member_pairs y (filter fits (values_of initial y)) w
        (member_filter fits (values_of initial y) w r.0
        (within_fit present value vars x v (distinct_front vars (y ∷ []) distinct) (counted_not_target y over ne) op w k)))))
  ]

-- ---- the law

module _ (initial present : Domains) (value : ℤ) (vars : List ℕ) (op : Op) (t : Target) (x : ℕ) (v : ℤ) where
  filled_front : AreFilled present (vars ++ target_scope t) → AreFilled present vars
  filled_front filled =
      all_members (λ y. 0 < length (values_of present y)) vars
      (λ y m. All-contains (λ z. 0 < length (values_of present z)) (vars ++ target_scope t) y filled (Contains-append_left vars (target_scope t) y m))

  pub count_right : AllAscend present → Distinct (vars ++ target_scope t) → AreFilled present (vars ++ target_scope t) → Has present x v → LacksSupport present (Count value vars op t) x v → IsReason initial present (Count value vars op t) x v (count_reason initial present value vars op t x v)
  count_right up distinct filled has lacks =
      let p : Part = CountPart value vars op t in
      let reasons = count_reason initial present value vars op t x v in
      let counted_list = flat_map (counted_pairs initial present value op) (others vars x) in
      let over : Contains (vars ++ target_scope t) x = lacking_over present (Count value vars op t) x v lacks in
      let full = filled_front filled in
      let unfit : Fits present value vars op t x v → ⊥ = λ f. part_unsupported present (Count value vars op t) p x v refl lacks (fits_support present value vars op x v t up distinct over has f) in
      let other : (q : Pair) → Contains reasons q → IsOther initial present value vars op t x v q =
      λ q m. elim (Contains-append_cases counted_list (target_pairs initial present value vars op t x v) q m) [
        | inl r ↦ counted_other initial present value vars op t x v q r
        | inr r ↦ target_other initial present value vars op x v t over distinct full unfit q r
      ] in
      record {
        removed = λ q m. ((other q m).1, (other q m).2);
        others = λ q m. ((other q m).0.0, (other q m).0.1);
        lacks = lacking_by_part (without initial reasons) (Count value vars op t) p x v refl over (λ s.
            target_lacking initial present value vars op x v t over distinct full unfit s
            (number_within initial present value vars op t x v s.assignment s.gives (λ y m. s.within y (Contains-append_left vars (target_scope t) y m)) (target_of s.assignment t) s.holds));
      }
