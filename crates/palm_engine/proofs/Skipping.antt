-- A walk over the values of a variable that goes on from a value to a later one, where those between have support.
use Rattle.std.proofs.Common.{◌≡◌, ℕ, ◌+◌, ◌<◌, ◌≤◌, ℤ, pos, ◌+ℤ◌, ◌<ℤ◌, ◌≤ℤ◌, not, Option, Some, None, IfSome, List, [], ◌∷◌, length, Contains, int_lt, ◌⊎◌, inl, inr, sym, ap, ◌∙◌, subst, arith, length-append}
use Rattle.std.proofs.lemmas.Int.{ints}
use Rattle.std.proofs.lemmas.Bool.{not-true}
use Rattle.palm_base.proofs.cited.Members.{int_known}
use Rattle.palm_domain.specs.Rows.{initial_of, present_of}
use Rattle.palm_domain.proofs.cited.Comparisons.{ge_from_int_lt, int_lt_from_lt, int_lt_from_ge}
use Rattle.palm_model.specs.Domains.{Domains, Ascends, Has, values_of}
use Rattle.palm_model.specs.Log.{Active}
use Rattle.palm_model.specs.Removed.{pairs_of}
use Rattle.palm_model.specs.Support.{IsSupported}
use Rattle.palm_model.proofs.cited.Without.{pair_of}
use Rattle.palm_engine.specs.declared.filtering.Filtering.{Filtering}
use Rattle.palm_engine.specs.Advancing.{Advanced, IsBefore, values_below, values_from, values_before}
use Rattle.palm_engine.specs.Kept.{state_in_revision}
use Rattle.palm_engine.specs.Revising.{IsRevising, Walked, HasCounted}
use Rattle.palm_engine.proofs.Bounds.{left_from, values_between, below_between, below_from, below_of, member_below, member_from, walk_on, walk_value}
use Rattle.palm_engine.proofs.Counting.{length_filter_lt}
use Rattle.palm_engine.proofs.Progress.{declared_ascend, has_declared_value, walked_initial, again_then, stays_there, alone_after, one_more_below, below_or_not, over, counted_more, counted_none, counted_then}
use Rattle.palm_engine.proofs.Revised.{present_is, one_supports}

-- the later one is at least the number after the value
after_one : (v : ℤ) (next : Option ℤ) → IfSome next (λ w. v <ℤ w) → IfSome next (λ w. (v +ℤ pos 1) ≤ℤ w)
after_one v (Some w) lt = omega (arith, ints, lt)
after_one v None lt = tt

-- a value before the later one is below the value, or it, or between the two
skip_cases : (vs : List ℤ) (v : ℤ) (next : Option ℤ) (z : ℤ) → Contains (values_before next vs) z → (v ≡ z → ⊥) → Contains (values_below v vs) z ⊎ ((v <ℤ z) × IsBefore next z)
skip_cases vs v (Some w) z m other =
    let r = below_of w vs z m in
    elim (below_or_not z v) [
      | inl lt ↦ inl (member_below v vs z r.0 lt)
      | inr ge ↦ let gt = over v z ge other in inr (omega (arith, ints, gt), r.1)
    ]
skip_cases vs v None z m other = elim (below_or_not z v) [
  | inl lt ↦ inl (member_below v vs z m lt)
  | inr ge ↦ let gt = over v z ge other in inr (omega (arith, ints, gt), tt)
]

-- the value was walked over, and those between it and the later one have support
pub values_skipped : (active : List Active) (owner : Active) (x : ℕ) (v : ℤ) (next : Option ℤ) (before now after : Filtering) → Advanced active owner x (Some v) before now
    → Walked active owner (pair_of x v ∷ []) now after → IsRevising after active owner → (Has (present_of after.store) x v → IsSupported (present_of after.store) owner.con x v)
    → IfSome next (λ w. v <ℤ w) → IfSome next (λ w. Has (present_of after.store) x w)
    → ((u : ℤ) → v <ℤ u → IsBefore next u → Has (present_of after.store) x u → IsSupported (present_of after.store) owner.con x u) → Advanced active owner x next before after
values_skipped active owner x v next before now after w one r supported above here between =
    let vs = values_of (initial_of before.store) x in
    let i = walked_initial active owner (pairs_of x (values_below v vs)) before now w.walked in
    let a : Ascends vs = subst (λ (d : Domains). Ascends (values_of d x)) i (declared_ascend now active owner w.revising x) in
    let has : Contains vs v = subst (λ (d : Domains). Has d x v) i (has_declared_value now active w.revising.kept x v w.present) in
    let en = present_is now active owner.cid w.revising.kept in
    let ea = present_is after active owner.cid r.kept in
    let start = state_in_revision before active owner.cid in
    let middle = state_in_revision now active owner.cid in
    let end = state_in_revision after active owner.cid in
    let both = walk_value owner x start w.walked.removed middle one.removed end vs v a has w.walked.walk one.walk in
    let walk = walk_on owner x start (w.walked.removed + one.removed) end vs (v +ℤ pos 1) next a (after_one v next above) both (λ u ge is there.
    subst (λ d. IsSupported d owner.con x u) (sym ea) (between u (omega (arith, ints, ge)) is (subst (λ d. Has d x u) ea there))) in
    record {
      revising = r;
      walked = record { removed = w.walked.removed + one.removed; walk = walk; again = again_then w.walked.removed one.removed owner.cid before now after w.walked.again one.again };
      present = here;
      supported = λ z m there. elim (int_known v z) [
        | inl e ↦ subst (λ y. IsSupported (present_of after.store) owner.con x y) e (supported (subst (λ y. Has (present_of after.store) x y) (sym e) there))
        | inr n ↦ elim (skip_cases vs v next z m n) [
          | inl was ↦
              let stays = stays_there active owner x v now after one z (subst (λ d. Has d x z) (sym ea) there) in
              let s_now = w.supported z was (subst (λ d. Has d x z) en stays) in
              subst (λ d. IsSupported d owner.con x z) ea (one_supports owner x v middle one.removed end one.walk z n (subst (λ d. IsSupported d owner.con x z) (sym en) s_now))
          | inr q ↦ between z q.0 q.1 there
        ]
      ];
      alone = λ y empty. alone_after active owner x v now after w.revising r one w.present w.alone y empty;
    }

upto_length : (vs : List ℤ) (low : ℤ) (next : Option ℤ) → Ascends vs → IfSome next (λ w. low ≤ℤ w) → length (values_below low vs) ≤ length (values_before next vs)
upto_length vs low (Some w) a le =
    let e = ap length (sym (below_between low w vs a le)) ∙ length-append (values_below low vs) (values_between low w vs) in
    omega (arith, e)
upto_length vs low None a le =
    let e = ap length (sym (below_from low vs a)) ∙ length-append (values_below low vs) (values_from low vs) in
    omega (arith, e)

-- and so many were asked for
pub skipped_counted : (active : List Active) (owner : Active) (x : ℕ) (v : ℤ) (next : Option ℤ) (before now after : Filtering) (s t u : ℕ) → Advanced active owner x (Some v) before now
    → HasCounted (length (values_below v (values_of (initial_of before.store) x))) before now s t → HasCounted 1 now after t u → IfSome next (λ w. v <ℤ w)
    → HasCounted (length (values_before next (values_of (initial_of before.store) x))) before after s u
skipped_counted active owner x v next before now after s t u w first counted above =
    let vs = values_of (initial_of before.store) x in
    let i = walked_initial active owner (pairs_of x (values_below v vs)) before now w.walked in
    let a : Ascends vs = subst (λ (d : Domains). Ascends (values_of d x)) i (declared_ascend now active owner w.revising x) in
    let has : Contains vs v = subst (λ (d : Domains). Has d x v) i (has_declared_value now active w.revising.kept x v w.present) in
    let more = upto_length vs (v +ℤ pos 1) next a (after_one v next above) in
    let count = one_more_below vs v a has in
    counted_more (length (values_below v vs) + 1) (length (values_before next vs)) before after s u (omega (arith, more, count))
    (counted_then (length (values_below v vs)) 1 before now after s t u first counted)

-- nothing was asked for below the next one
pub passed_counted : (x : ℕ) (next : Option ℤ) (f : Filtering) (s : ℕ) → HasCounted (length (values_before next (values_of (initial_of f.store) x))) f f s s
passed_counted x next f s = counted_more 0 (length (values_before next (values_of (initial_of f.store) x))) f f s s (omega arith) (counted_none f s)

fewer_above : (vs : List ℤ) (v : ℤ) (next : Option ℤ) → Contains vs v → IfSome next (λ w. v <ℤ w) → left_from next vs < left_from (Some v) vs
fewer_above vs v (Some w) has above =
    length_filter_lt (λ u. not (int_lt u w)) (λ u. not (int_lt u v)) vs v
    (λ u t. let ge = ge_from_int_lt u w (not-true (int_lt u w) t) in ap not (int_lt_from_ge u v (omega (arith, ints, ge, above))))
    has (ap not (int_lt_from_ge v v (omega (arith, ints)))) (ap not (int_lt_from_lt v w above))
fewer_above vs v None has above = let m = member_from v vs v has (omega (arith, ints)) in omega (arith, m.1)

-- fewer values are left
pub skipped_fewer : (active : List Active) (owner : Active) (x : ℕ) (v : ℤ) (next : Option ℤ) (before now : Filtering) → Advanced active owner x (Some v) before now → IfSome next (λ w. v <ℤ w)
    → left_from next (values_of (initial_of before.store) x) < left_from (Some v) (values_of (initial_of before.store) x)
skipped_fewer active owner x v next before now w above =
    let vs = values_of (initial_of before.store) x in
    let i = walked_initial active owner (pairs_of x (values_below v vs)) before now w.walked in
    let has : Contains vs v = subst (λ (d : Domains). Has d x v) i (has_declared_value now active w.revising.kept x v w.present) in
    fewer_above vs v next has above
