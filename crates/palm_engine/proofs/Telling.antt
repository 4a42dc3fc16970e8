-- Spans that are told by a rule at once: from a number on, up to one, of one, and of all but one.
use Rattle.std.proofs.Common.{◌≡◌, ◌-◌, ℤ, pos, ◌+ℤ◌, ◌-ℤ◌, ◌≤ℤ◌, ℕ, Bool, true, not, List, [], ◌∷◌, ◌++◌, filter, length, get_or, Contains, Result, inl, inr, sym, ap, ◌∙◌, subst, arith, append-nil, append_assoc, int_lt, int_eq, Ok, Err, IfOk}
use Rattle.std.proofs.lemmas.Int.{ints}
use Rattle.std.proofs.lemmas.Bool.{cases_Bool, not-true}
use Rattle.std.proofs.lemmas.List.{map-append}
use Rattle.std.proofs.lemmas.List.Elements.{Contains-append_cases, Contains-append_left, Contains-append_right, Contains-push_cases}
use Rattle.palm_base.specs.declared.terms.Pair.{Pair}
use Rattle.palm_base.proofs.cited.Members.{filter_member, member_filter}
use Rattle.palm_domain.proofs.cited.Ascending.{get_or-rises, same_ascending}
use Rattle.palm_domain.proofs.cited.Comparisons.{apart_from_int_eq, ge_from_int_lt, int_eq_apart, int_lt_from_ge, lt_from_int_lt}
use Rattle.palm_explain.specs.Explanations.{AreSpanned}
use Rattle.palm_explain.specs.Explanations.AreSpanned.{spans_end}
use Rattle.palm_explain.specs.Moving.{FitsEnd, FitsSpan, end_at, span_at, spans_at}
use Rattle.palm_explain.specs.declared.moving.End.{End}
use Rattle.palm_explain.specs.declared.moving.End.TheVariants.{At, Shifted}
use Rattle.palm_explain.specs.declared.moving.MovingSpan.{MovingSpan}
use Rattle.palm_explain.specs.declared.spans.Span.{Span}
use Rattle.palm_filter.specs.Rules.{declared_passing}
use Rattle.palm_filter.specs.declared.rule.Shift.{Shift}
use Rattle.palm_model.specs.Domains.{Ascends, Domains, Has, values_of}
use Rattle.palm_model.specs.Removed.{pairs_of}
use Rattle.palm_model.proofs.cited.Ascending.{ascends_filter}
use Rattle.palm_model.proofs.cited.Reasons.{member_pairs}
use Rattle.palm_engine.specs.Reasons.{AreNear, IsNear, IsNearNumber, IsNearShift, IsToldBy, TellsMore}
use Rattle.palm_engine.proofs.Bounds.{ascends_both, pairs_both}
use Rattle.palm_engine.proofs.Progress.{over}
use Rattle.palm_engine.proofs.Spanning.{spanned_more}

-- the first and the last of ascending values are their ends
pub ends_hold : (vs : List ℤ) → Ascends vs → (low high : ℤ) → low ≡ get_or vs 0 low → high ≡ get_or vs (length vs - 1) high → (v : ℤ) → Contains vs v → (low ≤ℤ v) × (v ≤ℤ high)
ends_hold vs rise low high first last v m =
    let above = get_or-rises vs rise 0 m.0 low v (omega arith) m.1 in
    let below = get_or-rises vs rise m.0 (length vs - 1) v high (omega (arith, m.1)) (omega (arith, m.1)) in
    (omega (arith, ints, above, first, m.2), omega (arith, ints, below, last, m.2))

-- a span stands for the removals of the values that pass the test
more_told : (d : Domains) (x : ℕ) (test : ℤ → Bool) (low high : ℤ) (before after : List Span) → Ascends (values_of d x) → ((v : ℤ) → Has d x v → test v ≡ true → (low ≤ℤ v) × (v ≤ℤ high))
    → ((v : ℤ) → Has d x v → low ≤ℤ v → v ≤ℤ high → test v ≡ true) → after ≡ before ++ record { var = x; low = low; high = high } ∷ [] → (reasons : List Pair) → IsToldBy d reasons before → IsToldBy d (reasons ++ declared_passing d x test) after
more_told d x test low high before after rise inside outside now reasons told pairs declared all =
    let values = filter test (values_of d x) in
    let listed = declared_passing d x test in
    subst (λ spans. AreSpanned pairs spans (reasons ++ listed)) (sym now)
    (spanned_more pairs before reasons (record { var = x; low = low; high = high }) values (told pairs declared (λ p m. all p (Contains-append_left reasons listed p m))) (record {
      ascends = ascends_filter test (values_of d x) rise;
      each = λ v. (
        (λ m.
            let r = filter_member test (values_of d x) v m in
            let within = inside v r.0 r.1 in
            let p : Pair = record { var = x; value = v } in
            (within.0, within.1, all p (Contains-append_right reasons listed p (member_pairs x values v m)))),
        (λ r. let has = declared (record { var = x; value = v }) r.2 in member_filter test (values_of d x) v has (outside v has r.0 r.1)),
      );
    }))

-- at each value a moving span stands for the removals of the values that pass the test at it
pub span_told : (d : Domains) (s : MovingSpan) (test : ℤ → ℤ → Bool) (before after : List MovingSpan) → Ascends (values_of d s.var)
    → ((v w : ℤ) → Has d s.var w → test v w ≡ true → (end_at s.low v ≤ℤ w) × (w ≤ℤ end_at s.high v)) → ((v w : ℤ) → Has d s.var w → end_at s.low v ≤ℤ w → w ≤ℤ end_at s.high v → test v w ≡ true)
    → after ≡ before ++ s ∷ [] → TellsMore d before after (λ v. declared_passing d s.var (test v))
span_told d s test before after rise inside outside now v =
    more_told d s.var (test v) (end_at s.low v) (end_at s.high v) (spans_at before v) (spans_at after v) rise (inside v) (outside v) (ap (λ ss. spans_at ss v) now ∙ map-append (span_at v) before (s ∷ []))

-- where the variable has no values they stand for nothing more
pub none_told : (d : Domains) (x : ℕ) (test : ℤ → ℤ → Bool) (before : List MovingSpan) → values_of d x ≡ [] → TellsMore d before before (λ v. declared_passing d x (test v))
none_told d x test before none v reasons told =
    subst (λ rs. IsToldBy d rs (spans_at before v)) (sym (ap (λ vs. reasons ++ pairs_of x (filter (test v) vs)) none ∙ append-nil reasons)) told

-- one after another
pub both_told : (d : Domains) (before then_on after : List MovingSpan) (more rest : ℤ → List Pair) → TellsMore d before then_on more → TellsMore d then_on after rest → TellsMore d before after (λ v. more v ++ rest v)
both_told d before then_on after more rest first second v reasons told =
    subst (λ rs. IsToldBy d rs (spans_at after v)) (append_assoc reasons (more v) (rest v)) (second v (reasons ++ more v) (first v reasons told))

-- no spans stand for nothing
pub nothing_told : (d : Domains) (spans : List MovingSpan) (v : ℤ) → spans ≡ [] → IsToldBy d [] (spans_at spans v)
nothing_told d spans v none pairs declared all = subst (λ ss. AreSpanned pairs (spans_at ss v) []) (sym none) spans_end

-- spans that stand for nothing are none before, and for these after
pub alone_told : {E : Type 0} (d : Domains) (before after : List MovingSpan) (more : ℤ → List Pair) (v : ℤ) (wanted : List Pair) (result : Result Bool E) → before ≡ [] → more v ≡ wanted → IfOk result (λ told. told ≡ true → TellsMore d before after more)
    → IfOk result (λ told. told ≡ true → IsToldBy d wanted (spans_at after v))
alone_told d before after more v wanted (Ok told) none same tells = λ yes. subst (λ rs. IsToldBy d rs (spans_at after v)) same (tells yes v [] (nothing_told d before v none))
alone_told d before after more v wanted (Err e) none same tells = tt

-- spans are near where one more is
pub near_more : (before after : List MovingSpan) (s : MovingSpan) → after ≡ before ++ s ∷ [] → IsNear s.low × IsNear s.high → AreNear before → AreNear after
near_more before after s now near are t m = elim (Contains-push_cases before s t (subst (λ ss. Contains ss t) now m)) [
  | inl o ↦ are t o
  | inr q ↦ subst (λ (z : MovingSpan). IsNear z.low × IsNear z.high) q near
]

pub near_shift : (s : Shift) → IsNearShift s → IsNearNumber s.by
near_shift s is =
    let low = is.before.0 in
    let high = is.after.1 in (omega (arith, ints, low), omega (arith, ints, high))

-- and fit at a value that is near
pub near_fits : (spans : List MovingSpan) (v : ℤ) → IsNearNumber v → AreNear spans → (s : MovingSpan) → Contains spans s → FitsSpan s v
near_fits spans v near are s m = let n = are s m in (fits s.low n.0, fits s.high n.1)
  where
    fits : (end : End) → IsNear end → FitsEnd end v
    fits (At w) is = tt
    fits (Shifted by) is = let low = near.0 in let high = near.1 in let from = is.0 in let to = is.1 in omega (arith, ints, low, high, from, to)

-- the values but one are those up to the number before it and those from the number after it on
pub others_split : (d : Domains) (x : ℕ) (n low high : ℤ) → Ascends (values_of d x) → low ≡ n -ℤ pos 1 → high ≡ n +ℤ pos 1
    → declared_passing d x (λ w. not (int_lt low w)) ++ declared_passing d x (λ w. not (int_lt w high)) ≡ declared_passing d x (λ w. not (int_eq w n))
others_split d x n low high rise at_low at_high =
    sym (pairs_both x below above) ∙ ap (pairs_of x)
    (same_ascending (below ++ above) (filter other vs)
    (ascends_both below above (ascends_filter (λ w. not (int_lt low w)) vs rise) (ascends_filter (λ w. not (int_lt w high)) vs rise) (λ v w m k.
    let le = below_low v m in
    let ge = above_high w k in
    omega (arith, ints, le, ge, at_low, at_high)))
    (ascends_filter other vs rise)
    (λ v m. elim (Contains-append_cases below above v m) [
      | inl k ↦ let le = below_low v k in member_filter other vs v (filter_member (λ w. not (int_lt low w)) vs v k).0 (ap not (int_eq_apart v n (λ e. absurd (omega (arith, ints, le, at_low, e)))))
      | inr k ↦ let ge = above_high v k in member_filter other vs v (filter_member (λ w. not (int_lt w high)) vs v k).0 (ap not (int_eq_apart v n (λ e. absurd (omega (arith, ints, ge, at_high, e)))))
    ])
    (λ v m.
    let r = filter_member other vs v m in
    let apart = apart_from_int_eq v n (not-true (int_eq v n) r.1) in
    elim (cases_Bool (int_lt v n)) [
      | inl t ↦
          let lt = lt_from_int_lt v n t in
          Contains-append_left below above v (member_filter (λ w. not (int_lt low w)) vs v r.0 (ap not (int_lt_from_ge low v (omega (arith, ints, lt, at_low)))))
      | inr f ↦
          let gt = over n v (ge_from_int_lt v n f) (λ e. apart (sym e)) in
          Contains-append_right below above v (member_filter (λ w. not (int_lt w high)) vs v r.0 (ap not (int_lt_from_ge v high (omega (arith, ints, gt, at_high)))))
    ]))
  where
    vs : List ℤ
    vs = values_of d x

    other : ℤ → Bool
    other w = not (int_eq w n)

    below : List ℤ
    below = filter (λ w. not (int_lt low w)) (values_of d x)

    above : List ℤ
    above = filter (λ w. not (int_lt w high)) (values_of d x)

    below_low : (v : ℤ) → Contains below v → v ≤ℤ low
    below_low v m = ge_from_int_lt low v (not-true (int_lt low v) (filter_member (λ w. not (int_lt low w)) (values_of d x) v m).1)

    above_high : (v : ℤ) → Contains above v → high ≤ℤ v
    above_high v m = ge_from_int_lt v high (not-true (int_lt v high) (filter_member (λ w. not (int_lt w high)) (values_of d x) v m).1)

-- and so at each value those up to what is before the shifted value and those from behind it on
pub others_told : (d : Domains) (x : ℕ) (by v : ℤ) (before then_on after : List MovingSpan) → Ascends (values_of d x) → TellsMore d before then_on (λ u. declared_passing d x (λ w. not (int_lt (u +ℤ (by -ℤ pos 1)) w)))
    → TellsMore d then_on after (λ u. declared_passing d x (λ w. not (int_lt w (u +ℤ (by +ℤ pos 1))))) → (reasons : List Pair) → IsToldBy d reasons (spans_at before v)
    → IsToldBy d (reasons ++ declared_passing d x (λ w. not (int_eq w (v +ℤ by)))) (spans_at after v)
others_told d x by v before then_on after rise first second reasons told =
    subst (λ rs. IsToldBy d (reasons ++ rs) (spans_at after v)) (others_split d x (v +ℤ by) (v +ℤ (by -ℤ pos 1)) (v +ℤ (by +ℤ pos 1)) rise (omega (arith, ints)) (omega (arith, ints)))
    (both_told d before then_on after (λ u. declared_passing d x (λ w. not (int_lt (u +ℤ (by -ℤ pos 1)) w))) (λ u. declared_passing d x (λ w. not (int_lt w (u +ℤ (by +ℤ pos 1))))) first second v reasons told)
