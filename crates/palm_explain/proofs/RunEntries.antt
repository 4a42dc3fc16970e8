-- The entries of the removals of several values: what they add to a log.
use Rattle.std.proofs.Common.{◌≡◌, ℕ, ℤ, zero, suc, ◌+◌, ◌<◌, ◌≤◌, List, [], ◌∷◌, ◌++◌, length, map, get_or, Contains, Option, None, Some, slice_get, ◌⊎◌, inl, inr, refl, sym, ap, ◌∙◌, subst, arith}
use Rattle.std.specs.List.{AllPairs, sum_by}
use Rattle.std.proofs.lemmas.List.{append_assoc, append-nil, get_or_default, length-append, map-append}
use Rattle.std.proofs.lemmas.List.Elements.{Contains-append_cases, Contains-append_left, Contains-append_right, Contains-push, Contains-push_cases}
use Rattle.std.proofs.lemmas.List.Quantifiers.{all_pairs_push}
use Rattle.std.proofs.lemmas.List.Sums.{sum_by-cons}
use Rattle.palm_base.specs.declared.terms.Cid.{Cid}
use Rattle.palm_base.specs.declared.terms.Pair.{Pair}
use Rattle.palm_base.proofs.cited.Members.{member_cases, member_get, member_here, member_place, member_same, member_there, member_unmap}
use Rattle.palm_events.proofs.cited.Agreeing.{pair_known}
use Rattle.palm_model.specs.Log.{Removal, log_pairs}
use Rattle.palm_explain.specs.declared.entry.Entry.{Entry}
use Rattle.palm_explain.specs.declared.firsts.Firsts.{Firsts}
use Rattle.palm_explain.specs.declared.moving.MovingSpan.{MovingSpan}
use Rattle.palm_explain.specs.declared.rows.Row.{Row}
use Rattle.palm_explain.specs.declared.rows.TheConstants.{NO_NUMBER}
use Rattle.palm_explain.specs.declared.spans.Span.{Span}
use Rattle.palm_explain.specs.Entries.{AreEntered, IsWhole, log_of, pairs_with, removal_of, row_span, span_pairs, span_values, written}
use Rattle.palm_explain.specs.Explanations.{IsRunOf}
use Rattle.palm_explain.specs.Firsts.{AreFormedFirsts, HasFirst, first_of}
use Rattle.palm_explain.specs.Moving.{AreCountable, AreEntriesOf, AreNumbered, IsEntryOf, NumbersEach, lost_at, lost_of, span_at, spans_at}
use Rattle.palm_explain.specs.Rows.{number_at}
use Rattle.palm_explain.proofs.Reasons.{entry_numbered, some_same}
use Rattle.palm_explain.proofs.RowSpans.{pairs_length, span_most}
use Rattle.palm_explain.proofs.Spanned.{AreKnown, entered_known, spanned_spans}
use Rattle.palm_explain.proofs.Stores.{Knows, below_next, countable_same, log_same}

-- ---- entries by place

module _ (x : ℕ) (by : Cid) (spans : List MovingSpan) where
  pub entries_push : (n : ℕ) (values : List ℤ) (run : List Entry) (v : ℤ) (e : Entry) → AreEntriesOf x by spans n values run → IsEntryOf x by spans (n + length values) v e
      → AreEntriesOf x by spans n (values ++ v ∷ []) (run ++ e ∷ [])
  entries_push n [] [] v e are is = (let same : n + 0 ≡ n = omega arith in subst (λ k. IsEntryOf x by spans k v e) same is, tt)
  entries_push n [] (f ∷ run) v e are is = absurd are
  entries_push n (w ∷ values) [] v e are is = absurd are
  entries_push n (w ∷ values) (f ∷ run) v e are is =
      let same : n + suc (length values) ≡ n + 1 + length values = omega arith in
      (are.0, entries_push (n + 1) values run v e are.1 (subst (λ k. IsEntryOf x by spans k v e) same is))

  -- an entry of the run is that of a value
  run_value : (n : ℕ) (values : List ℤ) (run : List Entry) (e : Entry) → AreEntriesOf x by spans n values run → Contains run e → (i : ℕ) × (v : ℤ) × (slice_get values i ≡ Some v) × IsEntryOf x by spans (n + i) v e
  run_value n [] [] e are m = absurd (let lt = m.1 in omega (arith, lt))
  run_value n [] (f ∷ run) e are m = absurd are
  run_value n (w ∷ values) [] e are m = absurd are
  run_value n (w ∷ values) (f ∷ run) e are m = elim (member_cases f run e m) [
    | inl same ↦ (0, w, refl, (let k : n ≡ n + 0 = omega arith in subst (λ j. IsEntryOf x by spans j w e) k (subst (IsEntryOf x by spans n w) same are.0)))
    | inr rest ↦
        let r = run_value (n + 1) values run e are.1 rest in
        let k : n + 1 + r.0 ≡ n + suc r.0 = omega arith in
        (suc r.0, r.1, r.2, subst (λ j. IsEntryOf x by spans j r.1 e) k r.3)
  ]

  -- a value has an entry in the run
  value_run : (n : ℕ) (values : List ℤ) (run : List Entry) (i : ℕ) (v : ℤ) → AreEntriesOf x by spans n values run → slice_get values i ≡ Some v → (e : Entry) × Contains run e × IsEntryOf x by spans (n + i) v e
  value_run n [] run i v are at = cc
  value_run n (w ∷ values) [] i v are at = absurd are
  value_run n (w ∷ values) (f ∷ run) zero v are at =
      (f, member_here f run, (let k : n ≡ n + 0 = omega arith in subst (λ j. IsEntryOf x by spans j v f) k (subst (λ u. IsEntryOf x by spans n u f) (some_same w v at) are.0)))
  value_run n (w ∷ values) (f ∷ run) (suc i) v are at =
      let r = value_run (n + 1) values run i v are.1 at in
      let k : n + 1 + i ≡ n + suc i = omega arith in
      (r.0, member_there f run r.0 r.1, subst (λ j. IsEntryOf x by spans j v r.0) k r.2)

  pub run_length : (n : ℕ) (values : List ℤ) (run : List Entry) → AreEntriesOf x by spans n values run → length run ≡ length values
  run_length n [] [] are = refl
  run_length n [] (f ∷ run) are = absurd are
  run_length n (w ∷ values) [] are = absurd are
  run_length n (w ∷ values) (f ∷ run) are = ap suc (run_length (n + 1) values run are.1)

  -- behind others with less numbers their numbers rise
  rises_run : (n : ℕ) (values : List ℤ) (run entries : List Entry) → AreEntriesOf x by spans n values run → AllPairs (λ a b. a.number < b.number) entries → ((e : Entry) → Contains entries e → e.number < n)
      → AllPairs (λ a b. a.number < b.number) (entries ++ run) × ((e : Entry) → Contains (entries ++ run) e → e.number < n + length values)
  rises_run n [] [] entries are rises below =
      let same = sym (append-nil entries) in
      (subst (AllPairs (λ a b. a.number < b.number)) same rises, λ e m. let lt = below e (subst (λ es. Contains es e) (sym same) m) in omega (arith, lt))
  rises_run n [] (f ∷ run) entries are rises below = absurd are
  rises_run n (w ∷ values) [] entries are rises below = absurd are
  rises_run n (w ∷ values) (f ∷ run) entries are rises below =
      let is = are.0.numbered in
      let same = append_assoc entries (f ∷ []) run in
      let r = rises_run (n + 1) values run (entries ++ f ∷ []) are.1
      (all_pairs_push (λ a b. a.number < b.number) entries f rises (λ k d lt. let l = below (get_or entries k d) (k, lt, get_or_default entries k (get_or entries k d) d lt) in omega (arith, l, is)))
      (λ e m. elim (Contains-push_cases entries f e m) [
        | inl o ↦ let lt = below e o in omega (arith, lt)
        | inr q ↦ let k = ap (λ (z : Entry). z.number) q in omega (arith, k, is)
      ]) in
      (subst (AllPairs (λ a b. a.number < b.number)) same r.0, λ e m. let lt = r.1 e (subst (λ es. Contains es e) (sym same) m) in omega (arith, lt))

-- ---- the reasons of a run

-- from a number on each number is that of one of these values
abbrev pub AreOnly : List Row → ℕ → ℕ → List ℤ → Type 0
AreOnly rows x n values = (p : Pair) (k : ℕ) → number_at rows p ≡ Some k → n ≤ k → k < NO_NUMBER → (i : ℕ) × (v : ℤ) × (slice_get values i ≡ Some v) × (p ≡ record { var = x; value = v }) × (k ≡ n + i)

log_pairs_push : (log : List Removal) (r : Removal) → log_pairs (log ++ r ∷ []) ≡ log_pairs log ++ r.pair ∷ []
log_pairs_push log r = map-append (λ (z : Removal). z.pair) log (r ∷ [])

module _ (rows : List Row) (x : ℕ) (by : Cid) (spans : List MovingSpan) where
  -- with one more removal the rows know the log up to one number more
  known_more : (log : List Removal) (n : ℕ) (v : ℤ) (values : List ℤ) (r : Removal) → n < NO_NUMBER → AreKnown rows n (log_pairs log) → AreNumbered rows x n (v ∷ values) → AreOnly rows x n (v ∷ values) → r.pair ≡ record { var = x; value = v }
      → AreKnown rows (n + 1) (log_pairs (log ++ r ∷ []))
  known_more log n v values r small are numbered only is = record {
    formed = are.formed;
    logged = λ p m. elim (Contains-push_cases (log_pairs log) r.pair p (subst (λ ps. Contains ps p) (log_pairs_push log r) m)) [
      | inl o ↦ let k = are.logged p o in (k.0, k.1, (let lt = k.2 in omega (arith, lt)))
      | inr q ↦ (n + 0, ap (number_at rows) (sym q ∙ is) ∙ numbered 0 v refl, omega arith)
    ];
    numbered = λ p k at lt. subst (λ ps. Contains ps p) (sym (log_pairs_push log r)) (elim (cases_less k n lt) [
      | inl less ↦ Contains-append_left (log_pairs log) (r.pair ∷ []) p (are.numbered p k at less)
      | inr same ↦
          let o = only p k at (omega (arith, same)) (omega (arith, same, small)) in
          let zeroth : o.0 ≡ 0 = let e = o.4 in omega (arith, same, e) in
          let first : o.1 ≡ v = some_same o.1 v (sym o.2 ∙ ap (slice_get (v ∷ values)) zeroth) in
          member_same (log_pairs log ++ r.pair ∷ []) r.pair p (is ∙ ap (λ w. let q : Pair = record { var = x; value = w } in q) (sym first) ∙ sym o.3) (Contains-push (log_pairs log) r.pair)
    ]);
  }
    where
      cases_less : (k n : ℕ) → k < n + 1 → (k < n) ⊎ (k ≡ n)
      cases_less zero zero lt = inr refl
      cases_less zero (suc n) lt = inl (omega arith)
      cases_less (suc k) zero lt = absurd (omega (arith, lt))
      cases_less (suc k) (suc n) lt = elim (cases_less k n (omega (arith, lt))) [ inl l ↦ inl (omega (arith, l)) | inr e ↦ inr (ap suc e) ]

  only_more : (n : ℕ) (v : ℤ) (values : List ℤ) → AreOnly rows x n (v ∷ values) → AreOnly rows x (n + 1) values
  only_more n v values only p k at le small = from (only p k at (omega (arith, le)) small)
    where
      from : ((i : ℕ) × (w : ℤ) × (slice_get (v ∷ values) i ≡ Some w) × (p ≡ record { var = x; value = w }) × (k ≡ n + i)) → (i : ℕ) × (w : ℤ) × (slice_get values i ≡ Some w) × (p ≡ record { var = x; value = w }) × (k ≡ n + 1 + i)
      from (zero, w, is, same, e) = absurd (omega (arith, le, e))
      from (suc i, w, is, same, e) = (i, w, is, same, omega (arith, e))

  numbered_more : (n : ℕ) (v : ℤ) (values : List ℤ) → AreNumbered rows x n (v ∷ values) → AreNumbered rows x (n + 1) values
  numbered_more n v values are i w at = let e : n + suc i ≡ n + 1 + i = omega arith in are (suc i) w at ∙ ap Some e

  -- what the entries of the run stand for is a run behind the log
  run_read : (log : List Removal) (n : ℕ) (values : List ℤ) (run : List Entry) (removals : List Removal) → n + length values ≤ NO_NUMBER → AreKnown rows n (log_pairs log) → AreNumbered rows x n values → AreOnly rows x n values
      → AreEntriesOf x by spans n values run → IsRunOf x by spans log values removals → map (removal_of rows) run ≡ removals
  run_read log n [] [] [] small known numbered only are is = refl
  run_read log n [] [] (r ∷ removals) small known numbered only are is = absurd is
  run_read log n [] (e ∷ run) removals small known numbered only are is = absurd are
  run_read log n (v ∷ values) [] removals small known numbered only are is = absurd are
  run_read log n (v ∷ values) (e ∷ run) [] small known numbered only are is = absurd is
  run_read log n (v ∷ values) (e ∷ run) (r ∷ removals) small known numbered only are is =
      let reasons : written rows e.number e.spans.items ≡ r.reasons =
      ap (λ ss. written rows e.number ss) are.0.resting ∙ ap (λ k. written rows k (spans_at spans v)) are.0.numbered ∙ spanned_spans rows n (log_pairs log) known (spans_at spans v) r.reasons is.0.resting in
      let one : removal_of rows e ≡ r =
      ap (λ ps. let z : Removal = record { pair = e.pair; by = e.by; reasons = ps } in z) reasons ∙ ap (λ p. let z : Removal = record { pair = p; by = e.by; reasons = r.reasons } in z) (are.0.paired ∙ sym is.0.paired)
      ∙ ap (λ c. let z : Removal = record { pair = r.pair; by = c; reasons = r.reasons } in z) (are.0.made ∙ sym is.0.made) in
      let rest = run_read (log ++ r ∷ []) (n + 1) values run removals (omega (arith, small)) (known_more log n v values r (omega (arith, small)) known numbered only is.0.paired) (numbered_more n v values numbered) (only_more n v values only) are.1 is.1 in
      ap (λ z. z ∷ map (removal_of rows) run) one ∙ ap (λ l. r ∷ l) rest

-- ---- how many reasons

lost_most : (rows : List Row) (m : ℕ) (s : Span) → length (span_values rows m s) ≤ lost_at rows s.var
lost_most rows m s = from (slice_get rows s.var) refl
  where
    from : (o : Option Row) → slice_get rows s.var ≡ o → length (span_values rows m s) ≤ lost_at rows s.var
    from None is = let none : length (span_values rows m s) ≡ 0 = ap (λ q. length (row_span q m s.low s.high)) is in omega (arith, none)
    from (Some r) is =
        let most = span_most rows s.var r m s.low s.high is in
        let all : lost_at rows s.var ≡ length r.values.items = ap lost_of is in omega (arith, most, all)

written_most : (rows : List Row) (m : ℕ) (v : ℤ) (spans : List MovingSpan) → length (written rows m (spans_at spans v)) ≤ sum_by (λ s. lost_at rows s.var) spans
written_most rows m v [] = omega arith
written_most rows m v (s ∷ spans) =
    let long = length-append (span_pairs rows m (span_at v s)) (written rows m (spans_at spans v)) in
    let own = pairs_length rows m (span_at v s) in
    let most = lost_most rows m (span_at v s) in
    let rest = written_most rows m v spans in
    let sum = sum_by-cons (λ t. lost_at rows t.var) s spans in omega (arith, long, own, most, rest, sum)

sum_agrees : (f g : ℕ → ℕ) → ((y : ℕ) → f y ≡ g y) → (spans : List MovingSpan) → sum_by (λ s. f s.var) spans ≡ sum_by (λ s. g s.var) spans
sum_agrees f g same [] = refl
sum_agrees f g same (s ∷ spans) =
    sum_by-cons (λ t. f t.var) s spans ∙ ap (λ k. k + sum_by (λ t. f t.var) spans) (same s.var) ∙ ap (λ k. g s.var + k) (sum_agrees f g same spans)
    ∙ sym (sum_by-cons (λ t. g t.var) s spans)

-- ---- the longer log

module _ (entries run : List Entry) (rows more : List Row) (next x : ℕ) (by : Cid) (spans : List MovingSpan) (values : List ℤ) (are : AreEntered entries rows next) (of : AreEntriesOf x by spans next values run)
    (each : NumbersEach rows x next values more) (room : next + length values ≤ NO_NUMBER) (fits : AreCountable rows spans)
    (fresh : (v : ℤ) → Contains values v → (f : Entry) → Contains entries f → f.pair ≡ record { var = x; value = v } → ⊥) where
  abbrev paired : ℤ → Pair
  paired v = record { var = x; value = v }

  -- a pair is that of a value at a place, or of none
  value_of : (p : Pair) → ((i : ℕ) × (v : ℤ) × (slice_get values i ≡ Some v) × (p ≡ paired v)) ⊎ (Contains (pairs_with x values) p → ⊥)
  value_of p = elim (pair_known (pairs_with x values) p) [
    | inl m ↦ let u = member_unmap paired values p m in let i = member_place values u.0 u.1 in inl (i.0, u.0, i.1, sym u.2)
    | inr n ↦ inr n
  ]

  number_of_value : (p : Pair) (k i : ℕ) (v : ℤ) → slice_get values i ≡ Some v → p ≡ paired v → number_at more p ≡ Some k → k ≡ next + i
  number_of_value p k i v at same is = sym (some_same (next + i) k (sym (each.numbered i v at) ∙ ap (number_at more) (sym same) ∙ is))

  to : Knows rows more next
  to p k at lt = elim (value_of p) [
    | inl v ↦ let f = entry_numbered entries rows next next p k are at lt are.most in absurd (fresh v.1 (member_get values v.0 v.1 v.2) f.0 f.1 (f.2 ∙ v.3))
    | inr n ↦ each.others p n ∙ at
  ]

  back : Knows more rows next
  back p k at lt = elim (value_of p) [
    | inl v ↦ let e = number_of_value p k v.0 v.1 v.2 v.3 at in absurd (omega (arith, e, lt))
    | inr n ↦ sym (each.others p n) ∙ at
  ]

  only_run : AreOnly more x next values
  only_run p k at le small = elim (value_of p) [
    | inl v ↦ (v.0, v.1, v.2, v.3, number_of_value p k v.0 v.1 v.2 v.3 at)
    | inr n ↦ elim (are.only p k (sym (each.others p n) ∙ at)) [
      | inl none ↦ absurd (omega (arith, none, small))
      | inr f ↦ let lt = are.below f.0 f.1 in let e = f.3 in absurd (omega (arith, lt, e, le))
    ]
  ]

  known_run : AreKnown more next (log_pairs (log_of rows entries))
  known_run =
      let known = entered_known entries rows next are in record {
        formed = each.formed;
        logged = λ p m. let k = known.logged p m in (k.0, to p k.0 k.1 k.2, k.2);
        numbered = λ p k at lt. known.numbered p k (back p k at lt) lt;
      }

  pub log_run : (removals : List Removal) → IsRunOf x by spans (log_of rows entries) values removals → log_of more (entries ++ run) ≡ log_of rows entries ++ removals
  log_run removals is =
      map-append (removal_of more) entries run ∙ ap (λ l. l ++ map (removal_of more) run) (log_same rows more next are.formed each.formed to back entries (below_next entries rows next are))
      ∙ ap (λ l. log_of rows entries ++ l) (run_read more x by spans (log_of rows entries) next values run removals room known_run each.numbered only_run of is)

  pub entered_run : AreEntered (entries ++ run) more (next + length values)
  entered_run =
      let rises = rises_run x by spans next values run entries of are.rises are.below in record {
        rises = rises.0;
        below = rises.1;
        most = room;
        formed = each.formed;
        found = λ f m. elim (Contains-append_cases entries run f m) [
          | inl o ↦ to f.pair f.number (are.found f o) (are.below f o)
          | inr r ↦
              let v = run_value x by spans next values run f of r in
              ap (number_at more) v.3.paired ∙ each.numbered v.0 v.1 v.2 ∙ ap Some (sym v.3.numbered)
        ];
        only = λ p k at. elim (value_of p) [
          | inl v ↦
              let e = value_run x by spans next values run v.0 v.1 of v.2 in
              inr (e.0, Contains-append_right entries run e.0 e.1, e.2.paired ∙ sym v.3, e.2.numbered ∙ sym (number_of_value p k v.0 v.1 v.2 v.3 at))
          | inr n ↦ elim (are.only p k (sym (each.others p n) ∙ at)) [
            | inl none ↦ inl none
            | inr f ↦ inr (f.0, Contains-append_left entries run f.0 f.1, f.2, f.3)
          ]
        ];
        countable = λ f m. elim (Contains-append_cases entries run f m) [
          | inl o ↦ countable_same rows more next are.formed each.formed to back f (below_next entries rows next are f o) (are.countable f o)
          | inr r ↦
              let v = run_value x by spans next values run f of r in
              let most = written_most more f.number v.1 spans in
              let same = sum_agrees (lost_at more) (lost_at rows) each.lost spans in
              let own = ap (λ ss. length (written more f.number ss)) v.3.resting in omega (arith, most, same, own, fits)
        ];
      }

-- what is kept with a run more
pub whole_run : (entries run : List Entry) (next x : ℕ) (by : Cid) (spans : List MovingSpan) (values : List ℤ) → AreEntriesOf x by spans next values run → (rows more : List Row) (room larger : ℕ) (firsts later : Firsts) → IsWhole entries rows next room firsts
    → AreEntered (entries ++ run) more (next + length values) → length entries + length values ≤ larger → AreFormedFirsts later → ((c : Cid) (k : ℕ) → first_of firsts c ≡ Some k → HasFirst later c k) → HasFirst later by next
    → IsWhole (entries ++ run) more (next + length values) larger later
whole_run entries run next x by spans values of rows more room larger firsts later whole entered grows firm stays noted = record {
  entered = entered;
  unmarked = λ f m. elim (Contains-append_cases entries run f m) [ inl o ↦ whole.unmarked f o | inr r ↦ (run_value x by spans next values run f of r).3.unmarked ];
  formed = firm;
  begun = λ f m. elim (Contains-append_cases entries run f m) [
    | inl o ↦ let k = whole.begun f o in let j = stays f.by k.0 k.1 in (j.0, j.1, (let a = j.2 in let b = k.2 in omega (arith, a, b)))
    | inr r ↦
        let v = run_value x by spans next values run f of r in
        let is = v.3.numbered in
        let le = noted.2 in (noted.0, ap (first_of later) v.3.made ∙ noted.1, omega (arith, le, is))
  ];
  room = let long = length-append entries run in let same = run_length x by spans next values run of in omega (arith, long, same, grows);
}
