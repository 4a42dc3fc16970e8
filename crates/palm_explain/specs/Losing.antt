-- Which removals a withdrawal loses, by marks of the entries, and what it puts back.
use Rattle.std.specs.Prelude.{◌≡◌, ◌⊎◌, ◌↔◌, ℕ, ℤ, ◌<◌, ◌≤ℤ◌, true, false, not, List, map, filter, Contains, Some}
use Rattle.palm_base.specs.declared.terms.Pair.{Pair}
use Rattle.palm_base.specs.declared.terms.Cid.{Cid}
use Rattle.palm_domain.specs.Rows.{Row as DomainRow, IsPresent, initial_of}
use Rattle.palm_explain.specs.declared.entry.Entry.{Entry}
use Rattle.palm_explain.specs.declared.restored.Restored.{Restored}
use Rattle.palm_explain.specs.declared.rows.Row.{Row}
use Rattle.palm_explain.specs.declared.rows.TheConstants.{NO_NUMBER}
use Rattle.palm_explain.specs.declared.spans.Span.{Span}
use Rattle.palm_explain.specs.Entries.{span_pairs, written}
use Rattle.palm_explain.specs.Explanations.{AreEnds, IsSpanned}
use Rattle.palm_explain.specs.Rows.{AreFormedRows, WereRemoved, number_at}

-- ---- marks

-- the entry without its mark
abbrev pub unmarked : Entry → Entry
unmarked e = record e { mark = false }

-- the pairs of those that have a mark
abbrev pub marked_pairs : List Entry → List Pair
marked_pairs entries = map (λ e. e.pair) (filter (λ e. e.mark) entries)

-- those that have none
abbrev pub kept_of : List Entry → List Entry
kept_of entries = filter (λ e. not e.mark) entries

-- the constraint made the removal, or one of its reasons is among the pairs
abbrev pub FallsWith : List Row → Cid → List Pair → Entry → Type 0
FallsWith rows cid pairs e = (e.by ≡ cid) ⊎ ((p : Pair) × Contains (written rows e.number e.spans.items) p × Contains pairs p)

-- exactly those have marks that the constraint made, or of which a reason has one
abbrev pub AreMarkedBy : List Row → Cid → List Entry → Type 0
AreMarkedBy rows cid entries = (e : Entry) → Contains entries e → (e.mark ≡ true) ↔ FallsWith rows cid (marked_pairs entries) e

-- one of the reasons of the span is among the pairs
abbrev pub HasLost : List Row → ℕ → List Pair → Span → Type 0
HasLost rows n pairs s = (p : Pair) × Contains (span_pairs rows n s) p × Contains pairs p

-- what is told of the variable, and the only thing
pub record IsToldOf (restored : List Restored) (x : ℕ) (r : Restored) : Type 0 where
  pub there : Contains restored r
  pub var : r.var ≡ x
  pub only : (q : Restored) → Contains restored q → q.var ≡ x → q ≡ r

-- the value stands in the span
abbrev pub StandsWithin : Span → ℤ → Type 0
StandsWithin s v = (s.low ≤ℤ v) × (v ≤ℤ s.high)

abbrev pub HasEnd : Restored → Span → Type 0
HasEnd r s = StandsWithin s r.low ⊎ StandsWithin s r.high

-- these pairs are told, each was removed before the number, and of what was removed before it exactly they are present
pub record AreToldBefore (rows : List Row) (restored : List Restored) (store : List DomainRow) (n : ℕ) (pairs : List Pair) : Type 0 where
  pub spanned : (p : Pair) → Contains pairs p → IsSpanned restored p
  pub ends : AreEnds restored pairs
  pub removed : WereRemoved rows n pairs
  pub present : (p : Pair) → Contains pairs p → IsPresent store p.var p.value
  pub only : (p : Pair) (k : ℕ) → number_at rows p ≡ Some k → k < n → IsPresent store p.var p.value → Contains pairs p

-- ---- what is put back

-- exactly these pairs are removed no longer
pub record LosesNumbers (old new : List Row) (pairs : List Pair) : Type 0 where
  pub formed : AreFormedRows new
  pub gone : (p : Pair) → Contains pairs p → number_at new p ≡ Some NO_NUMBER
  pub others : (p : Pair) → (Contains pairs p → ⊥) → number_at new p ≡ number_at old p

-- exactly these pairs have come back
pub record HasBack (before after : List DomainRow) (pairs : List Pair) : Type 0 where
  pub initial : initial_of after ≡ initial_of before
  pub sound : (x : ℕ) (v : ℤ) → IsPresent after x v → IsPresent before x v ⊎ Contains pairs (record { var = x; value = v })
  pub others : (x : ℕ) (v : ℤ) → IsPresent before x v → IsPresent after x v
  pub back : (p : Pair) → Contains pairs p → IsPresent after p.var p.value
