-- The entries that a withdrawal keeps.
use Rattle.std.proofs.Common.{◌≡◌, ℕ, ℤ, ◌<◌, ◌≤◌, ◌^◌, true, false, not, List, [], ◌∷◌, length, Contains, Some, inl, inr, refl, sym, ap, ◌∙◌, subst, arith}
use Rattle.std.proofs.lemmas.Bool.{cases_Bool, false≢true}
use Rattle.std.proofs.lemmas.List.Kept.{AllPairs-filter}
use Rattle.palm_base.specs.declared.terms.Cid.{Cid}
use Rattle.palm_base.specs.declared.terms.Pair.{Pair}
use Rattle.palm_base.proofs.cited.Members.{filter_member, map_agree, member_filter, member_same}
use Rattle.palm_events.proofs.cited.Agreeing.{pair_known}
use Rattle.palm_explain.specs.declared.entry.Entry.{Entry}
use Rattle.palm_explain.specs.declared.rows.Row.{Row}
use Rattle.palm_explain.specs.declared.rows.TheConstants.{NO_NUMBER}
use Rattle.palm_explain.specs.declared.spans.Span.{Span}
use Rattle.palm_explain.specs.Entries.{AreEntered, log_of, pairs_of, removal_of, span_values, written}
use Rattle.palm_explain.specs.Losing.{AreMarkedBy, LosesNumbers, kept_of, marked_pairs}
use Rattle.palm_explain.specs.Rows.{AreFormedRows, number_at}
use Rattle.palm_model.specs.Log.{log_pairs}
use Rattle.palm_explain.proofs.Keeping.{entry_marked}
use Rattle.palm_explain.proofs.Marking.{pair_marked}
use Rattle.palm_explain.proofs.Reasons.{number_written, some_same, span_same, span_value, value_span, written_same}

-- the pairs of the log are those of the entries
pub pairs_logged : (rows : List Row) (entries : List Entry) → log_pairs (log_of rows entries) ≡ pairs_of entries
pairs_logged rows [] = refl
pairs_logged rows (e ∷ entries) = ap (λ l. e.pair ∷ l) (pairs_logged rows entries)

-- one that is kept is one of them, and has no mark
pub kept_entry : (entries : List Entry) (e : Entry) → Contains (kept_of entries) e → Contains entries e × (e.mark ≡ false)
kept_entry entries e m = let f = filter_member (λ (z : Entry). not z.mark) entries e m in (f.0, is_false e f.1)
  where
    is_false : (e : Entry) → not e.mark ≡ true → e.mark ≡ false
    is_false e is = elim (cases_Bool e.mark) [ inl t ↦ absurd (false≢true (ap not (sym t) ∙ is)) | inr f ↦ f ]

pub entry_kept : (entries : List Entry) (e : Entry) → Contains entries e → e.mark ≡ false → Contains (kept_of entries) e
entry_kept entries e m is = member_filter (λ (z : Entry). not z.mark) entries e m (ap not is)

-- ---- spans without a lost pair

module _ (old new : List Row) (pairs : List Pair) (loses : LosesNumbers old new pairs) (formed : AreFormedRows old) (n : ℕ) (most : n ≤ NO_NUMBER) where
  -- a number of now is that of a pair that is not lost
  stays : (p : Pair) (k : ℕ) → number_at new p ≡ Some k → k < n → number_at old p ≡ Some k
  stays p k is lt = elim (pair_known pairs p) [
    | inl m ↦ let e = some_same k NO_NUMBER (sym is ∙ loses.gone p m) in absurd (omega (arith, e, lt, most))
    | inr none ↦ sym (loses.others p none) ∙ is
  ]

  -- a span without a lost pair is as it was
  span_stays : (s : Span) → ((v : ℤ) → Contains (span_values old n s) v → Contains pairs (record { var = s.var; value = v }) → ⊥) → span_values new n s ≡ span_values old n s
  span_stays s none =
      span_same old new n s formed loses.formed
      (λ v k from to is lt.
      let m = value_span old n s v (record { from = from; to = to; number = k; stands = is; before = lt }) in
      loses.others (record { var = s.var; value = v }) (none v m) ∙ is)
      (λ v k from to is lt. stays (record { var = s.var; value = v }) k is lt)

-- ---- what is kept

module _ (entries : List Entry) (rows now : List Row) (next : ℕ) (cid : Cid) (are : AreEntered entries rows next) (by : AreMarkedBy rows cid entries) (loses : LosesNumbers rows now (marked_pairs entries)) where
  -- a span of one that is kept has all its values
  kept_span : (e : Entry) → Contains (kept_of entries) e → (s : Span) → Contains e.spans.items s → span_values now e.number s ≡ span_values rows e.number s
  kept_span e m s there =
      let k = kept_entry entries e m in
      let below = are.below e k.0 in
      let most = are.most in
      let low : e.number ≤ NO_NUMBER = omega (arith, below, most) in
      span_stays rows now (marked_pairs entries) loses are.formed e.number low s (λ v n marked.
      false≢true (sym k.1 ∙ (by e k.0).1 (inr (
        record { var = s.var; value = v },
        number_written rows e.number e.spans.items s (record { var = s.var; value = v }) there refl (span_value rows e.number s v n),
        marked,
      ))))

  kept_written : (e : Entry) → Contains (kept_of entries) e → written now e.number e.spans.items ≡ written rows e.number e.spans.items
  kept_written e m = written_same rows now e.number e.spans.items (kept_span e m)

  -- the removals that stay are as they were
  pub log_kept : log_of now (kept_of entries) ≡ log_of rows (kept_of entries)
  log_kept = map_agree (removal_of now) (removal_of rows) (kept_of entries) (λ e m. ap (λ ps. record { pair = e.pair; by = e.by; reasons = ps }) (kept_written e m))

  -- what is kept is entered still
  pub entered_kept : AreEntered (kept_of entries) now next
  entered_kept = record {
    rises = AllPairs-filter (λ (a b : Entry). a.number < b.number) (λ (z : Entry). not z.mark) entries are.rises;
    below = λ e m. are.below e (kept_entry entries e m).0;
    most = are.most;
    formed = loses.formed;
    found = λ e m.
        let k = kept_entry entries e m in
        loses.others e.pair (λ marked. false≢true (sym k.1 ∙ pair_marked entries rows next are e k.0 marked)) ∙ are.found e k.0;
    only = λ p k is. elim (pair_known (marked_pairs entries) p) [
      | inl m ↦ inl (some_same k NO_NUMBER (sym is ∙ loses.gone p m))
      | inr n ↦ elim (are.only p k (sym (loses.others p n) ∙ is)) [
        | inl none ↦ inl none
        | inr e ↦ elim (cases_Bool e.0.mark) [
          | inl t ↦ absurd (n (member_same (marked_pairs entries) e.0.pair p e.2 (entry_marked entries e.0 e.1 t)))
          | inr f ↦ inr (e.0, entry_kept entries e.0 e.1 f, e.2, e.3)
        ]
      ]
    ];
    countable = λ e m. subst (λ ps. length ps < 2 ^ 64) (sym (kept_written e m)) (are.countable e (kept_entry entries e m).0);
  }
