-- Which spans have a lost reason: what is told of their variables says it, or else which of their values are present.
use Rattle.std.proofs.Common.{◌≡◌, ℕ, ℤ, ◌<◌, ◌≤ℤ◌, Bool, List, length, Contains, Some, slice_get, inl, inr, sym, subst, arith}
use Rattle.std.proofs.lemmas.Int.{ints}
use Rattle.palm_base.specs.Tells.{Tells}
use Rattle.palm_base.specs.declared.terms.Pair.{Pair}
use Rattle.palm_base.proofs.cited.Members.{member_map, member_same, member_unmap}
use Rattle.palm_domain.specs.Rows.{Row as DomainRow, IsPresent}
use Rattle.palm_domain.proofs.cited.StoreRows.{exists_from_present}
use Rattle.palm_explain.specs.declared.restored.Restored.{Restored}
use Rattle.palm_explain.specs.declared.rows.Row.{Row}
use Rattle.palm_explain.specs.declared.spans.Span.{Span}
use Rattle.palm_explain.specs.Entries.{span_values}
use Rattle.palm_explain.specs.Losing.{AreToldBefore, HasEnd, HasLost, StandsWithin}
use Rattle.palm_explain.specs.Rows.{span_in}
use Rattle.palm_explain.proofs.Marking.{tells_like}
use Rattle.palm_explain.proofs.MarkedSpans.{span_row}
use Rattle.palm_explain.proofs.Reasons.{span_value, value_span}
use Rattle.palm_explain.proofs.Slots.{number_within}

module _ (rows : List Row) (restored : List Restored) (store : List DomainRow) (n : ℕ) (pairs : List Pair) (told : AreToldBefore rows restored store n pairs) (s : Span) where
  abbrev pair : ℤ → Pair
  pair v = record { var = s.var; value = v }

  -- a told pair that stands in the span is one of its reasons
  lost_within : (v : ℤ) → Contains pairs (pair v) → StandsWithin s v → HasLost rows n pairs s
  lost_within v m within =
      let k = told.removed (pair v) m in
      let is = value_span rows n s v (record { from = within.0; to = within.1; number = k.0; stands = k.1; before = k.2 }) in
      (pair v, member_map (λ w. let q : Pair = record { var = s.var; value = w } in q) (span_values rows n s) v is, m)

  pub end_lost : (r : Restored) → Contains restored r → r.var ≡ s.var → HasEnd r s → HasLost rows n pairs s
  end_lost r m var end =
      let both = told.ends r m in
      let low : record { var = r.var; value = r.low } ≡ pair r.low = λ i. record { var = var i; value = r.low } in
      let high : record { var = r.var; value = r.high } ≡ pair r.high = λ i. record { var = var i; value = r.high } in
      elim end [
        | inl w ↦ lost_within r.low (member_same pairs (record { var = r.var; value = r.low }) (pair r.low) low both.0) w
        | inr w ↦ lost_within r.high (member_same pairs (record { var = r.var; value = r.high }) (pair r.high) high both.1) w
      ]

  -- a lost reason is one of the values of the span
  lost_value : HasLost rows n pairs s → (v : ℤ) × Contains (span_values rows n s) v × Contains pairs (pair v)
  lost_value lost =
      let v = member_unmap (λ w. let q : Pair = record { var = s.var; value = w } in q) (span_values rows n s) lost.0 lost.1 in
      let same : pair v.0 ≡ lost.0 = v.2 in (v.0, v.1, member_same pairs lost.0 (pair v.0) (sym same) lost.2)

  pub none_apart : ((r : Restored) → Contains restored r → r.var ≡ s.var → (r.low ≤ℤ s.high) × (s.low ≤ℤ r.high) → ⊥) → HasLost rows n pairs s → ⊥
  none_apart none lost =
      let v = lost_value lost in
      let is = span_value rows n s v.0 v.1 in
      let r = told.spanned (pair v.0) v.2 in
      let from = is.from in
      let to = is.to in
      let above : r.0.low ≤ℤ v.0 = r.3 in
      let under : v.0 ≤ℤ r.0.high = r.4 in none r.0 r.1 r.2 (omega (arith, ints, above, to), omega (arith, ints, under, from))

  -- the variable of what is told has a row, and values
  pub told_within : (r : Restored) → Contains restored r → r.var ≡ s.var → (s.var < length rows) × (s.var < length store)
  told_within r m var =
      let p : Pair = record { var = r.var; value = r.low } in
      let there = (told.ends r m).0 in
      let k = told.removed p there in (
        subst (λ x. x < length rows) var (number_within rows p k.0 k.1),
        subst (λ x. x < length store) var (exists_from_present store r.var r.low (told.present p there)),
      )

  -- the reasons of the span that are present are the lost ones
  pub present_lost : (row : Row) → slice_get rows s.var ≡ Some row → (b : Bool) → Tells b ((v : ℤ) × Contains (span_in row n s.low s.high) v × IsPresent store s.var v) → Tells b (HasLost rows n pairs s)
  present_lost row at b =
      tells_like b ((v : ℤ) × Contains (span_in row n s.low s.high) v × IsPresent store s.var v) (HasLost rows n pairs s)
      (λ is found.
      let m = subst (λ l. Contains l found.0) (sym (span_row rows row n s at)) found.1 in
      let value = span_value rows n s found.0 m in
      let lost = told.only (pair found.0) value.number value.stands value.before found.2 in lost_within found.0 lost (value.from, value.to))
      (λ is lost.
      let v = lost_value lost in
      (v.0, subst (λ l. Contains l v.0) (span_row rows row n s at) v.1, told.present (pair v.0) v.2))
