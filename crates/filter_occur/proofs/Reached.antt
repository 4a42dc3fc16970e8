-- Whether a number of several stands in a relation to one of some values, by the least, the greatest or the next of them.
use Rattle.std.proofs.Common.{◌≡◌, ℤ, pos, negsuc, ◌-◌, ◌≤◌, ◌<ℤ◌, ◌≤ℤ◌, Bool, true, false, List, [], ◌∷◌, Contains, ◌⊎◌, inl, inr, refl, sym, subst, arith}
use Rattle.std.proofs.lemmas.Int.{ints}
use Rattle.std.proofs.lemmas.Bool.{cases_Bool}
use Rattle.palm_base.proofs.cited.Members.{member_here, member_single}
use Rattle.palm_base.specs.Tells.{Tells}
use Rattle.palm_domain.specs.Rows.{IsLeastOf, IsGreatestOf, IsNextFrom}
use Rattle.palm_model.specs.Relation.{Stands}
use Rattle.palm_model.specs.Count.{is_within_counts}
use Rattle.palm_model.specs.declared.constraint.Op.{Op}
use Rattle.palm_model.specs.declared.constraint.Op.TheVariants.{Eq, Ne, Lt, Le, Gt, Ge}
use Rattle.filter_occur.specs.Count.{IsCountReached}
use Rattle.filter_occur.specs.declared.counts.Counts.{Counts}
use Rattle.palm_reason.proofs.cited.CountNumbers.{within_test, test_within}

module _ (counts : Counts) where
  -- ---- equal to one of the numbers

  pub equal_reached : (vs : List ℤ) (w : ℤ) → Contains vs w → pos counts.low ≤ℤ w → w ≤ℤ pos counts.high → IsCountReached counts Eq vs
  equal_reached vs (pos n) m from to = record { number = n; from = omega (arith, ints, from); to = omega (arith, ints, to); target = pos n; member = m; stands = refl }
  equal_reached vs (negsuc n) m from to = absurd (omega (arith, ints, from))

  pub op_equal_reached : (op : Op) (w : ℤ) → op ≡ Eq → pos counts.low ≤ℤ w → w ≤ℤ pos counts.high → IsCountReached counts op (w ∷ [])
  op_equal_reached op w is from to = subst (λ o. IsCountReached counts o (w ∷ [])) (sym is) (equal_reached (w ∷ []) w (member_here w []) from to)

  pub next_reached : (vs : List ℤ) (low u : ℤ) → low ≡ pos counts.low → IsNextFrom vs low u → u ≤ℤ pos counts.high → IsCountReached counts Eq vs
  next_reached vs low u e next le = equal_reached vs u next.member (subst (λ z. z ≤ℤ u) e next.from) le

  pub next_missed : (vs : List ℤ) (low u : ℤ) → low ≡ pos counts.low → IsNextFrom vs low u → pos counts.high <ℤ u → IsCountReached counts Eq vs → ⊥
  next_missed vs low u e next lt r =
      let same : pos r.number ≡ r.target = r.stands in
      let least = next.least r.target r.member (omega (arith, ints, e, same, r.from)) in
      omega (arith, ints, least, same, r.to, lt)

  pub none_missed : (vs : List ℤ) (low : ℤ) → low ≡ pos counts.low → ((w : ℤ) → Contains vs w → w <ℤ low) → IsCountReached counts Eq vs → ⊥
  none_missed vs low e below r =
      let same : pos r.number ≡ r.target = r.stands in
      omega (arith, ints, below r.target r.member, e, same, r.from)

  -- ---- the least and the greatest value

  -- the number of one answer with another value
  other_target : (op : Op) (vs ws : List ℤ) (r : IsCountReached counts op vs) (w : ℤ) → Contains ws w → Stands op (pos r.number) w → IsCountReached counts op ws
  other_target op vs ws r w m h = record { number = r.number; from = r.from; to = r.to; target = w; member = m; stands = h }

  one_value : (op : Op) (vs : List ℤ) (r : IsCountReached counts op vs) (w : ℤ) → Stands op (pos r.number) w → IsCountReached counts op (w ∷ [])
  one_value op vs r w h = other_target op vs (w ∷ []) r w (member_here w []) h

  unlike_missed : (vs : List ℤ) (least greatest : ℤ) → IsLeastOf vs least → IsGreatestOf vs greatest → (IsCountReached counts Ne (least ∷ []) → ⊥) → (IsCountReached counts Ne (greatest ∷ []) → ⊥) → IsCountReached counts Ne vs → ⊥
  unlike_missed vs least greatest low high n m r =
      n (one_value Ne vs r least (λ e. m (one_value Ne vs r greatest (λ g. r.stands (omega (arith, ints, e, g, low.least r.target r.member, high.greatest r.target r.member))))))

  pub op_unlike_missed : (op : Op) (vs : List ℤ) (least greatest : ℤ) → op ≡ Ne → IsLeastOf vs least → IsGreatestOf vs greatest → (IsCountReached counts op (least ∷ []) → ⊥) → (IsCountReached counts op (greatest ∷ []) → ⊥) → IsCountReached counts op vs → ⊥
  op_unlike_missed op vs least greatest is low high n m r =
      unlike_missed vs least greatest low high
      (λ q. n (subst (λ o. IsCountReached counts o (least ∷ [])) (sym is) q)) (λ q. m (subst (λ o. IsCountReached counts o (greatest ∷ [])) (sym is) q))
      (subst (λ o. IsCountReached counts o vs) is r)

  below_missed : (op : Op) (vs : List ℤ) (greatest : ℤ) → ((n w : ℤ) → w ≤ℤ greatest → Stands op n w → Stands op n greatest) → IsGreatestOf vs greatest → (IsCountReached counts op (greatest ∷ []) → ⊥) → IsCountReached counts op vs → ⊥
  below_missed op vs greatest rises high n r = n (one_value op vs r greatest (rises (pos r.number) r.target (high.greatest r.target r.member) r.stands))

  rises_lt : (greatest n w : ℤ) → w ≤ℤ greatest → Stands Lt n w → Stands Lt n greatest
  rises_lt greatest n w le h = omega (arith, ints, le, h)

  rises_le : (greatest n w : ℤ) → w ≤ℤ greatest → Stands Le n w → Stands Le n greatest
  rises_le greatest n w le h = omega (arith, ints, le, h)

  pub op_below_missed : (op : Op) (vs : List ℤ) (greatest : ℤ) → (op ≡ Lt) ⊎ (op ≡ Le) → IsGreatestOf vs greatest → (IsCountReached counts op (greatest ∷ []) → ⊥) → IsCountReached counts op vs → ⊥
  op_below_missed op vs greatest is high n = elim is [
    | inl e ↦ below_missed op vs greatest (subst (λ o. (n w : ℤ) → w ≤ℤ greatest → Stands o n w → Stands o n greatest) (sym e) (rises_lt greatest)) high n
    | inr e ↦ below_missed op vs greatest (subst (λ o. (n w : ℤ) → w ≤ℤ greatest → Stands o n w → Stands o n greatest) (sym e) (rises_le greatest)) high n
  ]

  above_missed : (op : Op) (vs : List ℤ) (least : ℤ) → ((n w : ℤ) → least ≤ℤ w → Stands op n w → Stands op n least) → IsLeastOf vs least → (IsCountReached counts op (least ∷ []) → ⊥) → IsCountReached counts op vs → ⊥
  above_missed op vs least falls low n r = n (one_value op vs r least (falls (pos r.number) r.target (low.least r.target r.member) r.stands))

  falls_gt : (least n w : ℤ) → least ≤ℤ w → Stands Gt n w → Stands Gt n least
  falls_gt least n w le h = omega (arith, ints, le, h)

  falls_ge : (least n w : ℤ) → least ≤ℤ w → Stands Ge n w → Stands Ge n least
  falls_ge least n w le h = omega (arith, ints, le, h)

  pub op_above_missed : (op : Op) (vs : List ℤ) (least : ℤ) → (op ≡ Gt) ⊎ (op ≡ Ge) → IsLeastOf vs least → (IsCountReached counts op (least ∷ []) → ⊥) → IsCountReached counts op vs → ⊥
  op_above_missed op vs least is low n = elim is [
    | inl e ↦ above_missed op vs least (subst (λ o. (n w : ℤ) → least ≤ℤ w → Stands o n w → Stands o n least) (sym e) (falls_gt least)) low n
    | inr e ↦ above_missed op vs least (subst (λ o. (n w : ℤ) → least ≤ℤ w → Stands o n w → Stands o n least) (sym e) (falls_ge least)) low n
  ]

  -- ---- the test of the reasons

  pub reached_test : (op : Op) (w : ℤ) → IsCountReached counts op (w ∷ []) → is_within_counts counts.low (counts.high - counts.low) op w ≡ true
  reached_test op w r =
      within_test counts.low (counts.high - counts.low) op w r.number r.from (omega (arith, r.from, r.to))
      (subst (λ z. Stands op (pos r.number) z) (sym (member_single w r.target r.member)) r.stands)

  pub missed_test : (op : Op) (w : ℤ) → counts.low ≤ counts.high → (IsCountReached counts op (w ∷ []) → ⊥) → is_within_counts counts.low (counts.high - counts.low) op w ≡ false
  missed_test op w le n = elim (cases_Bool (is_within_counts counts.low (counts.high - counts.low) op w)) [
    | inl t ↦
        let r = test_within counts.low (counts.high - counts.low) op w t in
        absurd (n (record { number = r.number; from = r.from; to = omega (arith, r.to, le); target = w; member = member_here w []; stands = r.stands }))
    | inr t ↦ t
  ]

  pub told_test : (op : Op) (w : ℤ) (told : Bool) → counts.low ≤ counts.high → Tells told (IsCountReached counts op (w ∷ [])) → told ≡ is_within_counts counts.low (counts.high - counts.low) op w
  told_test op w true le r = sym (reached_test op w r)
  told_test op w false le n = sym (missed_test op w le n)

  -- one of the values is enough
  pub wider : (op : Op) (vs : List ℤ) (w : ℤ) → Contains vs w → IsCountReached counts op (w ∷ []) → IsCountReached counts op vs
  wider op vs w m r = record {
    number = r.number;
    from = r.from;
    to = r.to;
    target = w;
    member = m;
    stands = subst (λ z. Stands op (pos r.number) z) (sym (member_single w r.target r.member)) r.stands;
  }

  pub op_equal_missed : (op : Op) (w : ℤ) → op ≡ Eq → pos counts.high <ℤ w → IsCountReached counts op (w ∷ []) → ⊥
  op_equal_missed op w is gt r =
      let e : pos r.number ≡ r.target = subst (λ o. Stands o (pos r.number) r.target) is r.stands in
      let f : w ≡ r.target = member_single w r.target r.member in
      omega (arith, ints, gt, e, f, r.to)
