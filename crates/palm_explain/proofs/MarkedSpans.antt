-- What the mark of a span's removal tells.
use Rattle.std.proofs.Common.{◌≡◌, ℕ, ℤ, ◌≤◌, Bool, true, false, List, ◌∷◌, Contains, Some, slice_get, slice_index_or, sym, ap, ◌∙◌, subst, arith}
use Rattle.std.proofs.lemmas.Bool.{false≢true}
use Rattle.std.proofs.lemmas.Option.{get_or_from_slice_get}
use Rattle.palm_base.specs.declared.terms.Pair.{Pair}
use Rattle.palm_base.proofs.cited.Members.{member_map, member_same, member_unmap}
use Rattle.palm_explain.specs.declared.entry.Entry.{Entry}
use Rattle.palm_explain.specs.declared.rows.Row.{Row}
use Rattle.palm_explain.specs.declared.rows.TheConstants.{NO_NUMBER}
use Rattle.palm_explain.specs.declared.spans.Span.{Span}
use Rattle.palm_explain.specs.Entries.{AreEntered, row_span, span_pairs, span_values}
use Rattle.palm_explain.specs.Losing.{marked_pairs}
use Rattle.palm_explain.specs.Rows.{number_at, number_in, row_number, span_in}
use Rattle.palm_explain.proofs.Keeping.{entry_marked}
use Rattle.palm_explain.proofs.Marking.{pair_marked}
use Rattle.palm_explain.proofs.Reasons.{entry_numbered, some_same, span_value}

-- the row of the span has its values
pub span_row : (rows : List Row) (row : Row) (n : ℕ) (s : Span) → slice_get rows s.var ≡ Some row → span_values rows n s ≡ span_in row n s.low s.high
span_row rows row n s is = ap (λ r. row_span r n s.low s.high) is

-- the next one of those that are left
pub next_left : (values rest left : List ℤ) (next : ℕ) (v : ℤ) → slice_get values next ≡ Some v → ((d : ℤ) → left ≡ slice_index_or values next d ∷ rest) → left ≡ v ∷ rest
next_left values rest left next v at is = is v ∙ ap (λ z. z ∷ rest) (get_or_from_slice_get values next v v at)

module _ (entries : List Entry) (rows : List Row) (next : ℕ) (are : AreEntered entries rows next) (n : ℕ) (most : n ≤ NO_NUMBER) (s : Span) (row : Row) (is : slice_get rows s.var ≡ Some row)
    (v : ℤ) (k : ℕ) (number : number_in row.values.items row.numbers.items v ≡ Some k) (m : Contains (span_in row n s.low s.high) v) where
  among : Contains (span_values rows n s) v
  among = subst (λ l. Contains l v) (sym (span_row rows row n s is)) m

  abbrev pair : Pair
  pair = record { var = s.var; value = v }

  -- the removal of the value
  pub span_entry : (e : Entry) × Contains entries e × (e.pair ≡ pair) × (e.number ≡ k)
  span_entry =
      let at = span_value rows n s v among in
      let same : number_at rows pair ≡ Some k = ap (λ r. row_number r v) is ∙ number in
      let e = some_same at.number k (sym at.stands ∙ same) in
      let lt = at.before in
      entry_numbered entries rows next n pair k are same (omega (arith, e, lt)) most

  pub span_marked : (b : Bool) → ((e : Entry) → Contains entries e → e.number ≡ k → b ≡ e.mark) → b ≡ true → (p : Pair) × Contains (span_pairs rows n s) p × Contains (marked_pairs entries) p
  span_marked b tells has =
      let e = span_entry in (
        pair,
        member_map (λ w. let q : Pair = record { var = s.var; value = w } in q) (span_values rows n s) v among,
        member_same (marked_pairs entries) e.0.pair pair e.2 (entry_marked entries e.0 e.1 (sym (tells e.0 e.1 e.3) ∙ has)),
      )

  pub span_unmarked : (b : Bool) → ((e : Entry) → Contains entries e → e.number ≡ k → b ≡ e.mark) → b ≡ false → Contains (marked_pairs entries) pair → ⊥
  span_unmarked b tells none marked =
      let e = span_entry in
      false≢true (sym none ∙ tells e.0 e.1 e.3 ∙ pair_marked entries rows next are e.0 e.1 (member_same (marked_pairs entries) pair e.0.pair (sym e.2) marked))

-- where none of the values has a mark, none of the pairs has
pub none_passed : (rows : List Row) (n : ℕ) (s : Span) (pairs : List Pair) → ((v : ℤ) → Contains (span_values rows n s) v → Contains pairs (record { var = s.var; value = v }) → ⊥)
    → (p : Pair) → Contains (span_pairs rows n s) p → Contains pairs p → ⊥
none_passed rows n s pairs none p m marked =
    let v = member_unmap (λ w. let q : Pair = record { var = s.var; value = w } in q) (span_values rows n s) p m in
    let made : Pair = record { var = s.var; value = v.0 } in
    let same : made ≡ p = v.2 in none v.0 v.1 (member_same pairs p made (sym same) marked)
