-- Values that stand side by side: a span of removals stands for them.
use Rattle.std.proofs.Common.{◌≡◌, ℕ, suc, ℤ, ◌+◌, ◌-◌, ◌<◌, ◌≤◌, ◌≤ℤ◌, ◌++◌, List, [], ◌∷◌, length, take, drop, get_or, min, slice_get, All, Contains, Some, inl, inr, refl, sym, ap, ◌∙◌, subst, arith, append-nil, append_assoc}
use Rattle.std.proofs.lemmas.Grind.{flat_map-append}
use Rattle.std.proofs.lemmas.Bool.{cases_lt}
use Rattle.std.proofs.lemmas.Int.{ints}
use Rattle.std.proofs.lemmas.List.{drop-take, drop_all, get_or-drop, get_or-take, length-drop, length-map, length-take-le, take_all}
use Rattle.std.proofs.lemmas.Option.{get_or_from_slice_get, slice_get_within}
use Rattle.palm_base.specs.declared.terms.Pair.{Pair}
use Rattle.palm_base.proofs.cited.Members.{member_flat_map, member_map}
use Rattle.palm_domain.specs.Rows.{Ascends, Row, IsDeclared, IsPresent, declared_values, initial_of, present_of}
use Rattle.palm_domain.proofs.cited.Ascending.{get_or-ascends, get_or-rises, Ascends-from_adjacent}
use Rattle.palm_explain.specs.Entries.{pairs_with}
use Rattle.palm_explain.specs.Explanations.{AreSpanned, IsSpanOf}
use Rattle.palm_explain.specs.Explanations.AreSpanned.{spans_end, spans_on}
use Rattle.palm_explain.specs.declared.spans.Span.{Span}
use Rattle.palm_filter.specs.Rules.{interval_pairs, listed_pairs}
use Rattle.palm_filter.specs.declared.rule.Interval.{Interval}
use Rattle.palm_model.specs.Constraint.{IsFormed, IsWellFormed}
use Rattle.palm_model.specs.Domains.{Domains, Has}
use Rattle.palm_model.specs.Reason.{WantsReason}
use Rattle.palm_model.specs.declared.constraint.Con.{Con}
use Rattle.palm_model.proofs.cited.Formed.{well_formed_formed}
use Rattle.palm_engine.specs.Reasons.{Goes, IsRun, values_in}

-- ---- a part of ascending values

slice_at : (vs : List ℤ) (f n k : ℕ) (d : ℤ) → k < n → get_or (take n (drop f vs)) k d ≡ get_or vs (f + k) d
slice_at vs f n k d lt = get_or-take n (drop f vs) k d lt ∙ get_or-drop f vs k d

slice_long : (vs : List ℤ) (f n : ℕ) → f + n ≤ length vs → length (take n (drop f vs)) ≡ n
slice_long vs f n le = length-take-le n (drop f vs) (omega (arith, le, length-drop f vs))

pub slice_ascends : (vs : List ℤ) → Ascends vs → (f n : ℕ) → f + n ≤ length vs → Ascends (take n (drop f vs))
slice_ascends vs rise f n le = Ascends-from_adjacent (take n (drop f vs)) (λ k d e lt.
    let long = slice_long vs f n le in
    let within : suc k < n = omega (arith, lt, long) in
    let a = slice_at vs f n k d (omega (arith, within)) in
    let b = slice_at vs f n (suc k) e within in
    let less = get_or-ascends vs rise (f + k) (f + suc k) d e (omega arith) (omega (arith, within, le)) in
    omega (arith, ints, a, b, less))

pub slice_whole : (vs : List ℤ) → Ascends vs → (f n : ℕ) → f + n ≤ length vs → (u v w : ℤ) → Contains (take n (drop f vs)) u → Contains (take n (drop f vs)) w → u ≤ℤ v → v ≤ℤ w → Contains vs v → Contains (take n (drop f vs)) v
slice_whole vs rise f n le u v w mu mw low high mv =
    let long = slice_long vs f n le in
    let iu : mu.0 < n = omega (arith, mu.1, long) in
    let iw : mw.0 < n = omega (arith, mw.1, long) in
    let au = slice_at vs f n mu.0 u iu in
    let aw = slice_at vs f n mw.0 w iw in
    let from : f ≤ mv.0 = not_less mv.0 f (λ lt. let less = get_or-ascends vs rise mv.0 (f + mu.0) v u (omega (arith, lt)) (omega (arith, iu, le)) in omega (arith, ints, less, au, mu.2, mv.2, low)) in
    let till : mv.0 < f + n = less_or mv.0 (f + n) (λ ge. let less = get_or-ascends vs rise (f + mw.0) mv.0 w v (omega (arith, iw, ge)) mv.1 in omega (arith, ints, less, aw, mw.2, mv.2, high)) in
    let at : f + (mv.0 - f) ≡ mv.0 = omega (arith, from) in
    let within : mv.0 - f < n = omega (arith, from, till) in
    (mv.0 - f, omega (arith, within, long), slice_at vs f n (mv.0 - f) v within ∙ ap (λ k. get_or vs k v) at ∙ mv.2)
  where
    not_less : (a b : ℕ) → (a < b → ⊥) → b ≤ a
    not_less a b refuted = elim (cases_lt a b) [ inl lt ↦ absurd (refuted lt) | inr ge ↦ ge ]

    less_or : (a b : ℕ) → (b ≤ a → ⊥) → a < b
    less_or a b refuted = elim (cases_lt a b) [ inl lt ↦ lt | inr ge ↦ absurd (refuted ge) ]

taken : (vs : List ℤ) (n : ℕ) → take (min n (length vs)) vs ≡ take n vs
taken vs n = elim (cases_lt (length vs) n) [
  | inl lt ↦ take_all (min n (length vs)) vs (omega (arith, lt)) ∙ sym (take_all n vs (omega (arith, lt)))
  | inr le ↦ ap (λ k. take k vs) (omega (arith, le))
]

dropped : (vs : List ℤ) (n e : ℕ) → e ≤ length vs → take (e - min n e) (drop (min n e) vs) ≡ drop n (take e vs)
dropped vs n e le = elim (cases_lt e n) [
  | inl lt ↦
      let none : e - min n e ≡ 0 = omega (arith, lt) in
      ap (λ k. take k (drop (min n e) vs)) none ∙ sym (drop_all n (take e vs) (omega (arith, lt, length-take-le e vs le)))
  | inr more ↦
      let same : min n e ≡ n = omega (arith, more) in
      let sum : n + (e - n) ≡ e = omega (arith, more) in
      ap (λ k. take (e - k) (drop k vs)) same ∙ sym (drop-take n (e - n) vs) ∙ ap (λ k. drop n (take k vs)) sum
]

-- the values at the places of an interval, which is cut at the last place
pub values_cut : (vs : List ℤ) (i : Interval) (e f : ℕ) → e ≡ min i.end (length vs) → f ≡ min i.first e → take (e - f) (drop f vs) ≡ values_in vs i
values_cut vs i e f is at =
    let le : e ≤ length vs = omega (arith, is) in
    ap (λ k. take (e - k) (drop k vs)) at ∙ dropped vs i.first e le ∙ ap (λ k. drop i.first (take k vs)) is ∙ ap (drop i.first) (taken vs i.end)

-- ---- spans

pub run_spans : (pairs : List Pair) (x : ℕ) (values : List ℤ) (low high : ℤ) → IsRun pairs x values → slice_get values 0 ≡ Some low → slice_get values (length values - 1) ≡ Some high
    → IsSpanOf pairs (record { var = x; low = low; high = high }) values
run_spans pairs x values low high run first last =
    let rise = run.ascends in
    let some = slice_get_within values 0 low first in
    let lowest : get_or values 0 low ≡ low = get_or_from_slice_get values 0 low low first in
    let highest : get_or values (length values - 1) high ≡ high = get_or_from_slice_get values (length values - 1) high high last in
    record {
      ascends = rise;
      each = λ v. (
        (λ m.
            let above = get_or-rises values rise 0 m.0 low v (omega arith) m.1 in
            let below = get_or-rises values rise m.0 (length values - 1) v high (omega (arith, m.1)) (omega (arith, some)) in
            (omega (arith, ints, above, lowest, m.2), omega (arith, ints, below, highest, m.2), run.each v m)),
        (λ r. run.whole low v high (0, some, lowest) (length values - 1, omega (arith, some), highest) r.0 r.1 r.2),
      );
    }

pub spanned_more : (pairs : List Pair) (spans : List Span) (reasons : List Pair) (s : Span) (values : List ℤ) → AreSpanned pairs spans reasons → IsSpanOf pairs s values → AreSpanned pairs (spans ++ s ∷ []) (reasons ++ pairs_with s.var values)
spanned_more pairs _ _ s values spans_end is = subst (λ ps. AreSpanned pairs (s ∷ []) ps) (append-nil (pairs_with s.var values)) (spans_on s [] values [] is spans_end)
spanned_more pairs _ _ s values (spans_on t spans vs reasons at rest) is =
    subst (λ ps. AreSpanned pairs (t ∷ (spans ++ s ∷ [])) ps) (sym (append_assoc (pairs_with t.var vs) reasons (pairs_with s.var values)))
    (spans_on t (spans ++ s ∷ []) vs (reasons ++ pairs_with s.var values) at (spanned_more pairs spans reasons s values rest is))

-- ---- intervals

pub listed_on : (d : Domains) (intervals : List Interval) (i : Interval) → listed_pairs d (intervals ++ i ∷ []) ≡ listed_pairs d intervals ++ interval_pairs d i
listed_on d intervals i = flat_map-append (λ (j : Interval). interval_pairs d j) intervals (i ∷ []) ∙ ap (λ ps. listed_pairs d intervals ++ ps) (append-nil (interval_pairs d i))

-- the declared values of an interval are a run of the removed ones, where all of them are removed
pub interval_run : (rows : List Row) (pairs : List Pair) (i : Interval) → ((p : Pair) → Contains pairs p → Has (initial_of rows) p.var p.value) → Ascends (declared_values rows i.var)
    → ((p : Pair) → Contains (interval_pairs (initial_of rows) i) p → Contains pairs p) → IsRun pairs i.var (values_in (declared_values rows i.var) i)
interval_run rows pairs i declared rise all =
    let vs = declared_values rows i.var in
    let e = min i.end (length vs) in
    let f = min i.first e in
    let cut : take (e - f) (drop f vs) ≡ values_in vs i = values_cut vs i e f refl refl in
    let le : f + (e - f) ≤ length vs = omega arith in
    record {
      ascends = subst (λ ws. Ascends ws) cut (slice_ascends vs rise f (e - f) le);
      each = λ v m. all (record { var = i.var; value = v }) (member_map (λ w. let p : Pair = record { var = i.var; value = w } in p) (values_in vs i) v m);
      whole = λ u v w mu mw low high m.
          subst (λ ws. Contains ws v) cut
          (slice_whole vs rise f (e - f) le u v w (subst (λ ws. Contains ws u) (sym cut) mu) (subst (λ ws. Contains ws w) (sym cut) mw) low high (declared (record { var = i.var; value = v }) m));
    }

-- the pairs of one interval are among those of all
pub one_listed : (d : Domains) (intervals : List Interval) (k : ℕ) (i : Interval) → k < length intervals → i ≡ get_or intervals k i → (p : Pair) → Contains (interval_pairs d i) p → Contains (listed_pairs d intervals) p
one_listed d intervals k i lt at p m = member_flat_map (λ (j : Interval). interval_pairs d j) intervals i p (k, lt, sym at) m

-- ---- rules

-- the reason of a value that goes is wanted
pub goes_wants : (rows : List Row) → All Ascends (initial_of rows) → All Ascends (present_of rows) → ((x : ℕ) (v : ℤ) → IsPresent rows x v → IsDeclared rows x v) → (c : Con) (p : Pair) → IsWellFormed (length rows) c → Goes rows c p
    → WantsReason (initial_of rows) (present_of rows) c p.var p.value
goes_wants rows initial_ascend present_ascend inside c p formed goes = record {
  initial_ascend = initial_ascend;
  present_ascend = present_ascend;
  inside = inside;
  formed = subst (λ n. IsFormed n c) (sym (length-map rows (λ (r : Row). r.initial))) (well_formed_formed (length rows) c formed);
  present_value = goes.present;
  lacks = goes.unsupported;
  filled = goes.filled;
}
