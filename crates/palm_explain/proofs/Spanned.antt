-- The spans that a caller hands in and those that a store makes of a list stand for the same reasons.
use Rattle.std.proofs.Common.{◌≡◌, ℕ, ℤ, ◌<◌, List, [], ◌∷◌, ◌++◌, Contains, Some, refl, sym, ap, ◌∙◌, subst}
use Rattle.palm_base.specs.declared.terms.Pair.{Pair}
use Rattle.palm_base.proofs.cited.Members.{member_same}
use Rattle.palm_domain.proofs.cited.Ascending.{same_ascending}
use Rattle.palm_model.specs.Log.{log_pairs}
use Rattle.palm_explain.specs.declared.entry.Entry.{Entry}
use Rattle.palm_explain.specs.declared.rows.Row.{Row}
use Rattle.palm_explain.specs.declared.spans.Span.{Span}
use Rattle.palm_explain.specs.Entries.{AreEntered, log_of, pairs_with, span_values, written}
use Rattle.palm_explain.specs.Explanations.{AreSpanned, IsSpanOf}
use Rattle.palm_explain.specs.Explanations.AreSpanned.{spans_end, spans_on}
use Rattle.palm_explain.specs.Rows.{AreFormedRows, WereRemoved, number_at}
use Rattle.palm_explain.proofs.Reasons.{entry_numbered, entry_pair, pair_entry, span_ascends, span_value, value_span}

-- the pairs are exactly those that the rows know to be removed before the number
pub record AreKnown (rows : List Row) (next : ℕ) (known : List Pair) : Type 0 where
  pub formed : AreFormedRows rows
  pub logged : (p : Pair) → Contains known p → (k : ℕ) × (number_at rows p ≡ Some k) × (k < next)
  pub numbered : (p : Pair) (k : ℕ) → number_at rows p ≡ Some k → k < next → Contains known p

-- as those of the entries of a log are
pub entered_known : (entries : List Entry) (rows : List Row) (next : ℕ) → AreEntered entries rows next → AreKnown rows next (log_pairs (log_of rows entries))
entered_known entries rows next are = record {
  formed = are.formed;
  logged = λ p m. let e = pair_entry rows entries p m in (e.0.number, ap (number_at rows) (sym e.2) ∙ are.found e.0 e.1, are.below e.0 e.1);
  numbered = λ p k is lt. let e = entry_numbered entries rows next next p k are is lt are.most in member_same (log_pairs (log_of rows entries)) e.0.pair p e.2 (entry_pair rows entries e.0 e.1);
}

module _ (rows : List Row) (next : ℕ) (known : List Pair) (are : AreKnown rows next known) where
  own_span : (s : Span) → IsSpanOf known s (span_values rows next s)
  own_span s = record {
    ascends = span_ascends rows next s are.formed;
    each = λ v. (
      λ m. let is = span_value rows next s v m in (is.from, is.to, are.numbered (record { var = s.var; value = v }) is.number is.stands is.before),
      λ m. let k = are.logged (record { var = s.var; value = v }) m.2 in value_span rows next s v (record { from = m.0; to = m.1; number = k.0; stands = k.1; before = k.2 }),
    );
  }

  only_span : (s : Span) (values : List ℤ) → IsSpanOf known s values → span_values rows next s ≡ values
  only_span s values is =
      same_ascending (span_values rows next s) values (span_ascends rows next s are.formed) is.ascends
      (λ v m. let w = span_value rows next s v m in (is.each v).1 (w.from, w.to, are.numbered (record { var = s.var; value = v }) w.number w.stands w.before))
      (λ v m.
      let w = (is.each v).0 m in
      let k = are.logged (record { var = s.var; value = v }) w.2 in value_span rows next s v (record { from = w.0; to = w.1; number = k.0; stands = k.1; before = k.2 }))

  pub own_spanned : (spans : List Span) → AreSpanned known spans (written rows next spans)
  own_spanned [] = spans_end
  own_spanned (s ∷ spans) = spans_on s spans (span_values rows next s) (written rows next spans) (own_span s) (own_spanned spans)

  -- spans of a list
  pub list_spanned : (spans : List Span) (reasons : List Pair) → ((p : Pair) → Contains reasons p → Contains known p) → (WereRemoved rows next reasons → written rows next spans ≡ reasons) → AreSpanned known spans reasons
  list_spanned spans reasons earlier of = subst (AreSpanned known spans) (of (λ p m. are.logged p (earlier p m))) (own_spanned spans)

  -- spans of a caller
  pub spanned_spans : (spans : List Span) (reasons : List Pair) → AreSpanned known spans reasons → written rows next spans ≡ reasons
  spanned_spans _ _ spans_end = refl
  spanned_spans _ _ (spans_on s spans values reasons is rest) =
      ap (λ vs. pairs_with s.var vs ++ written rows next spans) (only_span s values is) ∙ ap (λ ps. pairs_with s.var values ++ ps) (spanned_spans spans reasons rest)
