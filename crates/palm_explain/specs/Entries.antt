-- The entries of the log: the reasons that their spans stand for, and what holds of all of them.
use Rattle.std.specs.Prelude.{◌≡◌, ◌⊎◌, ℕ, ℤ, ◌^◌, ◌<◌, ◌≤◌, false, List, [], map, length, Contains, Option, Some, None, slice_get}
use Rattle.std.specs.List.{AllPairs, flat_map}
use Rattle.palm_base.specs.declared.terms.Pair.{Pair}
use Rattle.palm_model.specs.Log.{Removal}
use Rattle.palm_explain.specs.declared.entry.Entry.{Entry}
use Rattle.palm_explain.specs.declared.firsts.Firsts.{Firsts}
use Rattle.palm_explain.specs.declared.rows.Row.{Row}
use Rattle.palm_explain.specs.declared.rows.TheConstants.{NO_NUMBER}
use Rattle.palm_explain.specs.declared.spans.Span.{Span}
use Rattle.palm_explain.specs.Firsts.{AreFormedFirsts, first_of}
use Rattle.palm_explain.specs.Rows.{AreFormedRows, number_at, span_in}

-- the pairs of a variable with these values
abbrev pub pairs_with : ℕ → List ℤ → List Pair
pairs_with x values = map (λ v. record { var = x; value = v }) values

-- ---- spans

abbrev pub row_span : Option Row → ℕ → ℤ → ℤ → List ℤ
row_span None n low high = []
row_span (Some r) n low high = span_in r n low high

-- the values of the span that were removed before the number
abbrev pub span_values : List Row → ℕ → Span → List ℤ
span_values rows n s = row_span (slice_get rows s.var) n s.low s.high

abbrev pub span_pairs : List Row → ℕ → Span → List Pair
span_pairs rows n s = pairs_with s.var (span_values rows n s)

-- the pairs of all these spans, one span after another
abbrev pub written : List Row → ℕ → List Span → List Pair
written rows n spans = flat_map (span_pairs rows n) spans

-- ---- entries

-- the removal that an entry stands for
abbrev pub removal_of : List Row → Entry → Removal
removal_of rows e = record { pair = e.pair; by = e.by; reasons = written rows e.number e.spans.items }

abbrev pub log_of : List Row → List Entry → List Removal
log_of rows entries = map (removal_of rows) entries

-- the pairs of entries
abbrev pub pairs_of : List Entry → List Pair
pairs_of entries = map (λ e. e.pair) entries

-- the reasons of an entry can be counted
abbrev pub IsCountable : List Row → Entry → Type 0
IsCountable rows e = length (written rows e.number e.spans.items) < 2 ^ 64

-- the numbers rise, all are below the next one, and the rows know exactly them
pub record AreEntered (entries : List Entry) (rows : List Row) (next : ℕ) : Type 0 where
  pub rises : AllPairs (λ a b. a.number < b.number) entries
  pub below : (e : Entry) → Contains entries e → e.number < next
  pub most : next ≤ NO_NUMBER
  pub formed : AreFormedRows rows
  pub found : (e : Entry) → Contains entries e → number_at rows e.pair ≡ Some e.number
  pub only : (p : Pair) (k : ℕ) → number_at rows p ≡ Some k → (k ≡ NO_NUMBER) ⊎ ((e : Entry) × Contains entries e × (e.pair ≡ p) × (e.number ≡ k))
  pub countable : (e : Entry) → Contains entries e → IsCountable rows e

-- none of them has a mark
abbrev pub AreUnmarked : List Entry → Type 0
AreUnmarked entries = (e : Entry) → Contains entries e → e.mark ≡ false

-- what a store keeps between calls: each constraint's entries begin with its first number or behind it, and all have room in another list
pub record IsWhole (entries : List Entry) (rows : List Row) (next most : ℕ) (firsts : Firsts) : Type 0 where
  pub entered : AreEntered entries rows next
  pub unmarked : AreUnmarked entries
  pub formed : AreFormedFirsts firsts
  pub begun : (e : Entry) → Contains entries e → (k : ℕ) × (first_of firsts e.by ≡ Some k) × (k ≤ e.number)
  pub room : length entries ≤ most
