-- Spans of reasons that move with the value that they are reasons of, and what the removals of several values leave in a store.
use Rattle.std.specs.Prelude.{◌≡◌, ℕ, ◌+◌, ℤ, ◌+ℤ◌, ⊤, false, List, [], ◌∷◌, ◌++◌, map, length, Contains, Option, None, Some, slice_get, ◌<◌, ◌^◌, FitsSigned}
use Rattle.std.specs.List.{sum_by}
use Rattle.std.specs.Int.{w32}
use Rattle.palm_base.specs.declared.terms.Cid.{Cid}
use Rattle.palm_base.specs.declared.terms.Pair.{Pair}
use Rattle.palm_explain.specs.declared.entry.Entry.{Entry}
use Rattle.palm_explain.specs.declared.moving.End.{End}
use Rattle.palm_explain.specs.declared.moving.End.TheVariants.{At, Shifted}
use Rattle.palm_explain.specs.declared.moving.MovingSpan.{MovingSpan}
use Rattle.palm_explain.specs.declared.rows.Row.{Row}
use Rattle.palm_explain.specs.declared.spans.Span.{Span}
use Rattle.palm_explain.specs.Entries.{pairs_with}
use Rattle.palm_explain.specs.Rows.{AreFormedRows, number_at}

-- the end for a value
abbrev pub end_at : End → ℤ → ℤ
end_at (At w) v = w
end_at (Shifted by) v = v +ℤ by

-- the spans for a value
abbrev pub span_at : ℤ → MovingSpan → Span
span_at v s = record { var = s.var; low = end_at s.low v; high = end_at s.high v }

abbrev pub spans_at : List MovingSpan → ℤ → List Span
spans_at spans v = map (span_at v) spans

-- a shifted end is a number of 32 bits
abbrev pub FitsEnd : End → ℤ → Type 0
FitsEnd (At w) v = ⊤
FitsEnd (Shifted by) v = FitsSigned w32 (v +ℤ by)

abbrev pub FitsSpan : MovingSpan → ℤ → Type 0
FitsSpan s v = FitsEnd s.low v × FitsEnd s.high v

abbrev pub AreFitting : List MovingSpan → List ℤ → Type 0
AreFitting spans values = (s : MovingSpan) (v : ℤ) → Contains spans s → Contains values v → FitsSpan s v

-- ---- entries

-- the entry of the removal of the value, with this number
pub record IsEntryOf (x : ℕ) (by : Cid) (spans : List MovingSpan) (n : ℕ) (v : ℤ) (e : Entry) : Type 0 where
  pub numbered : e.number ≡ n
  pub paired : e.pair ≡ record { var = x; value = v }
  pub made : e.by ≡ by
  pub unmarked : e.mark ≡ false
  pub resting : e.spans.items ≡ spans_at spans v

-- the entries of the removals of the values, one behind another, with the numbers from this one on
abbrev pub AreEntriesOf : ℕ → Cid → List MovingSpan → ℕ → List ℤ → List Entry → Type 0
AreEntriesOf x by spans number [] [] = ⊤
AreEntriesOf x by spans number [] (e ∷ run) = ⊥
AreEntriesOf x by spans number (v ∷ values) [] = ⊥
AreEntriesOf x by spans number (v ∷ values) (e ∷ run) = IsEntryOf x by spans number v e × AreEntriesOf x by spans (number + 1) values run

-- behind those of before stand the entries of the removals of the values
abbrev pub HasEntered : List Entry → ℕ → Cid → List MovingSpan → ℕ → List ℤ → List Entry → Type 0
HasEntered before x by spans number values after = (run : List Entry) × (after ≡ before ++ run) × AreEntriesOf x by spans number values run

-- ---- numbers

-- the values of the variable have the numbers from this one on, one after another
abbrev pub AreNumbered : List Row → ℕ → ℕ → List ℤ → Type 0
AreNumbered rows x first values = (i : ℕ) (v : ℤ) → slice_get values i ≡ Some v → number_at rows (record { var = x; value = v }) ≡ Some (first + i)

-- how many values the variable lost at some time
abbrev pub lost_of : Option Row → ℕ
lost_of None = 0
lost_of (Some r) = length r.values.items

abbrev pub lost_at : List Row → ℕ → ℕ
lost_at rows x = lost_of (slice_get rows x)

-- and nothing else has another number
pub record NumbersEach (old : List Row) (x first : ℕ) (values : List ℤ) (new : List Row) : Type 0 where
  pub formed : AreFormedRows new
  pub numbered : AreNumbered new x first values
  pub others : (p : Pair) → (Contains (pairs_with x values) p → ⊥) → number_at new p ≡ number_at old p
  pub lost : (y : ℕ) → lost_at new y ≡ lost_at old y

-- the spans stand for no more reasons than a number of 64 bits can tell
abbrev pub AreCountable : List Row → List MovingSpan → Type 0
AreCountable rows spans = sum_by (λ s. lost_at rows s.var) spans < 2 ^ 64
