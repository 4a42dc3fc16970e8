-- Spans of what is noted: what they hold at the start of a walk, at its next removal, and past one more span of reasons.
use Rattle.std.proofs.Common.{int_le, Contains, ◌≡◌, ◌≢◌, ℕ, ℤ, ◌≤◌, ◌≤ℤ◌, ◌<ℤ◌, List, Some, slice_get, ◌⊎◌, inl, inr, sym, ap, ◌∙◌, subst, arith}
use Rattle.std.proofs.lemmas.Bool.{cases_Bool, cases_eq}
use Rattle.std.proofs.lemmas.Int.{ints}
use Rattle.palm_base.specs.declared.terms.Pair.{Pair}
use Rattle.palm_base.proofs.cited.Members.{member_map, member_same, member_unmap}
use Rattle.palm_explain.specs.declared.noted.NotedSpan.{NotedSpan}
use Rattle.palm_explain.specs.declared.noted.NotedSpans.{NotedSpans}
use Rattle.palm_explain.specs.declared.places.PlaceWord.{PlaceWord}
use Rattle.palm_explain.specs.declared.rows.Row.{Row}
use Rattle.palm_explain.specs.declared.rows.TheConstants.{NO_NUMBER}
use Rattle.palm_explain.specs.declared.spans.Span.{Span}
use Rattle.palm_explain.specs.Entries.{span_pairs, span_values}
use Rattle.palm_explain.specs.Needed.{AreBothEmpty, AreBothNoted, AreEmptySpans, AreNotedSpans, HasAll, HasNoted, IsNotedSpan, turned}
use Rattle.palm_explain.specs.Places.{HasPlace}
use Rattle.palm_explain.specs.Rows.{number_at}
use Rattle.palm_explain.proofs.Reasons.{some_same, span_value, value_span}

-- ---- all spans

pub both_empty : (rows : List Row) (x : ℕ) (s : NotedSpans) (n : ℕ) (noted : List PlaceWord) → AreBothEmpty s → AreBothNoted rows x s n noted
both_empty rows x s n noted none = (
  λ v k low high is lt. (let less = none.0 in absurd (omega (arith, ints, less, low, high))),
  λ v k low high is lt. (let less = none.1 in absurd (omega (arith, ints, less, low, high))),
)

pub spans_empty : (rows : List Row) (spans : List NotedSpans) (n : ℕ) (noted : List PlaceWord) → AreEmptySpans spans → AreNotedSpans rows spans n noted
spans_empty rows spans n noted none x s at = both_empty rows x s n noted (none x s at)

span_lower : (rows : List Row) (x : ℕ) (s : NotedSpan) (m n : ℕ) (noted : List PlaceWord) → m ≤ n → IsNotedSpan rows x s n noted → IsNotedSpan rows x s m noted
span_lower rows x s m n noted le is v k low high stands lt = is v k low high stands (omega (arith, lt, le))

pub spans_lower : (rows : List Row) (spans : List NotedSpans) (m n : ℕ) (noted : List PlaceWord) → m ≤ n → AreNotedSpans rows spans n noted → AreNotedSpans rows spans m noted
spans_lower rows spans m n noted le are x s at = let both = are x s at in (span_lower rows x s.first m n noted le both.0, span_lower rows x s.second m n noted le both.1)

-- what is noted stays so
pub span_stays : (rows : List Row) (x : ℕ) (s : NotedSpan) (n : ℕ) (old new : List PlaceWord) → ((k : ℕ) → HasPlace old k → HasPlace new k) → IsNotedSpan rows x s n old → IsNotedSpan rows x s n new
span_stays rows x s n old new stay is v k low high stands lt = stay k (is v k low high stands lt)

-- those of a variable are replaced
pub spans_set : (rows : List Row) (spans more : List NotedSpans) (x : ℕ) (s : NotedSpans) (n : ℕ) (old new : List PlaceWord) → AreNotedSpans rows spans n old → ((k : ℕ) → HasPlace old k → HasPlace new k) → AreBothNoted rows x s n new
    → ((t : NotedSpans) → slice_get more x ≡ Some t → t ≡ s) → ((y : ℕ) → y ≢ x → slice_get more y ≡ slice_get spans y) → AreNotedSpans rows more n new
spans_set rows spans more x s n old new are stay is own others y t at = elim (cases_eq y x) [
  | inl e ↦
      let same : t ≡ s = own t (ap (slice_get more) (sym e) ∙ at) in subst (λ z. AreBothNoted rows z t n new) (sym e) (subst (λ (u : NotedSpans). AreBothNoted rows x u n new) (sym same) is)
  | inr apart ↦
      let both = are y t (sym (others y apart) ∙ at) in (span_stays rows y t.first n old new stay both.0, span_stays rows y t.second n old new stay both.1)
]

-- the other way round
pub turned_noted : (rows : List Row) (x : ℕ) (s t : NotedSpans) (n : ℕ) (noted : List PlaceWord) → AreBothNoted rows x s n noted → (t ≡ s) ⊎ (t ≡ turned s) → AreBothNoted rows x t n noted
turned_noted rows x s t n noted are is = elim is [
  | inl e ↦ subst (λ (u : NotedSpans). AreBothNoted rows x u n noted) (sym e) are
  | inr e ↦ subst (λ (u : NotedSpans). AreBothNoted rows x u n noted) (sym e) (are.1, are.0)
]

-- ---- one span

-- the spans of a variable, or two without a value
pub spans_found : (rows : List Row) (spans : List NotedSpans) (x : ℕ) (s : NotedSpans) (n : ℕ) (noted : List PlaceWord) → AreNotedSpans rows spans n noted → (slice_get spans x ≡ Some s) ⊎ AreBothEmpty s → AreBothNoted rows x s n noted
spans_found rows spans x s n noted are found = elim found [ inl at ↦ are x s at | inr none ↦ both_empty rows x s n noted none ]

-- the reasons of a span are noted now
pub all_noted : (rows : List Row) (s : Span) (n : ℕ) (old new : List PlaceWord) → n ≤ NO_NUMBER → HasNoted rows old new (span_pairs rows n s) → IsNotedSpan rows s.var (record { low = s.low; high = s.high }) n new
all_noted rows s n old new most has v k low high is lt =
    let pair : ℤ → Pair = λ w. record { var = s.var; value = w } in
    has.more (pair v) k (member_map pair (span_values rows n s) v (value_span rows n s v (record { from = low; to = high; number = k; stands = is; before = lt })))
    (record { stands = is; removed = λ e. absurd (omega (arith, lt, e, most)) })

module _ (rows : List Row) (s : Span) (n : ℕ) where
  abbrev pair : ℤ → Pair
  pair v = record { var = s.var; value = v }

  -- all its reasons are noted already
  pub span_held : (known : NotedSpan) (noted : List PlaceWord) → IsNotedSpan rows s.var known n noted → known.low ≤ℤ s.low → s.high ≤ℤ known.high → HasNoted rows noted noted (span_pairs rows n s)
  span_held known noted are low high = record {
    stay = λ k h. h;
    more = λ p k m has.
        let v = member_unmap pair (span_values rows n s) p m in
        let made = pair v.0 in
        let same : made ≡ p = v.2 in
        let is = span_value rows n s v.0 v.1 in
        let from = is.from in
        let to = is.to in
        let number = some_same is.number k (sym is.stands ∙ ap (number_at rows) same ∙ has.stands) in
        subst (HasPlace noted) number (are v.0 is.number (omega (arith, ints, low, from)) (omega (arith, ints, high, to)) is.stands is.before);
    only = λ k h. inl h;
  }

  -- one of the known spans holds all its reasons
  pub both_held : (known : NotedSpans) (noted : List PlaceWord) → AreBothNoted rows s.var known n noted → HasAll known.first s.low s.high ⊎ HasAll known.second s.low s.high → HasNoted rows noted noted (span_pairs rows n s)
  both_held known noted are has = elim has [ inl h ↦ span_held known.first noted are.0 h.0 h.1 | inr h ↦ span_held known.second noted are.1 h.0 h.1 ]

  -- it has no value
  pub none_noted : (noted : List PlaceWord) → s.high <ℤ s.low → HasNoted rows noted noted (span_pairs rows n s)
  none_noted noted less = record {
    stay = λ k h. h;
    more = λ p k m has.
        let v = member_unmap pair (span_values rows n s) p m in
        let is = span_value rows n s v.0 v.1 in
        let from = is.from in
        let to = is.to in absurd (omega (arith, ints, from, to, less));
    only = λ k h. inl h;
  }

  abbrev part : ℤ → ℤ → Span
  part low high = record { var = s.var; low = low; high = high }

  part_reason : (low high : ℤ) → s.low ≤ℤ low → high ≤ℤ s.high → (p : Pair) → Contains (span_pairs rows n (part low high)) p → Contains (span_pairs rows n s) p
  part_reason low high from to p m =
      let v = member_unmap pair (span_values rows n (part low high)) p m in
      let is = span_value rows n (part low high) v.0 v.1 in
      let lower = is.from in
      let upper = is.to in
      member_same (span_pairs rows n s) (pair v.0) p v.2
      (member_map pair (span_values rows n s) v.0
      (value_span rows n s v.0 (record { from = omega (arith, ints, from, lower); to = omega (arith, ints, to, upper); number = is.number; stands = is.stands; before = is.before })))

  -- those below and above a span that is known are noted now
  module _ (known wide : NotedSpan) (under over : ℤ) (unders : (under ≤ℤ known.low) × ((v : ℤ) → v <ℤ known.low → v ≤ℤ under)) (overs : (known.high ≤ℤ over) × ((v : ℤ) → known.high <ℤ v → over ≤ℤ v)) (old middle new : List PlaceWord)
      (below : HasNoted rows old middle (span_pairs rows n (part s.low under))) (above : HasNoted rows middle new (span_pairs rows n (part over s.high))) where
    pub widened_noted : n ≤ NO_NUMBER → IsNotedSpan rows s.var known n old → (s.low ≤ℤ wide.low) ⊎ (known.low ≤ℤ wide.low) → (wide.high ≤ℤ s.high) ⊎ (wide.high ≤ℤ known.high) → IsNotedSpan rows s.var wide n new
    widened_noted most are lows highs v k low high is lt = elim (cases_Bool (int_le known.low v)) [
      | inl from ↦ elim (cases_Bool (int_le v known.high)) [
        | inl to ↦ above.stay k (below.stay k (are v k (omega (arith, ints, from)) (omega (arith, ints, to)) is lt))
        | inr up ↦ all_noted rows (part over s.high) n middle new most above v k (overs.1 v (omega (arith, ints, up))) (elim highs [ inl le ↦ omega (arith, ints, le, high) | inr le ↦ absurd (omega (arith, ints, le, high, up)) ]) is lt
      ]
      | inr down ↦ above.stay k (all_noted rows (part s.low under) n old middle most below v k (elim lows [ inl le ↦ omega (arith, ints, le, low) | inr le ↦ absurd (omega (arith, ints, le, low, down)) ]) (unders.1 v (omega (arith, ints, down))) is lt)
    ]

    pub rest_noted : known.low ≤ℤ s.high → s.low ≤ℤ known.high → IsNotedSpan rows s.var wide n new → wide.low ≤ℤ s.low → s.high ≤ℤ wide.high → HasNoted rows old new (span_pairs rows n s)
    rest_noted lows highs are low high = record {
      stay = λ k h. above.stay k (below.stay k h);
      more = (span_held wide new are low high).more;
      only = λ k h. elim (above.only k h) [
        | inl o ↦ elim (below.only k o) [
          | inl was ↦ inl was
          | inr f ↦ (let less = unders.0 in inr (f.0, part_reason s.low under (omega (arith, ints)) (omega (arith, ints, lows, less)) f.0 f.1, f.2))
        ]
        | inr f ↦ (let more = overs.0 in inr (f.0, part_reason over s.high (omega (arith, ints, highs, more)) (omega (arith, ints)) f.0 f.1, f.2))
      ];
    }
