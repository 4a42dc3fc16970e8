-- Which removals the removals of pairs rest on, and how a walk finds their places.
use Rattle.std.specs.Prelude.{◌≡◌, ◌⊎◌, ◌↔◌, ℕ, ℤ, ◌<◌, ◌≤◌, ◌<ℤ◌, ◌≤ℤ◌, List, Contains, Some, slice_get}
use Rattle.std.specs.List.{AllPairs}
use Rattle.palm_base.specs.declared.terms.Pair.{Pair}
use Rattle.palm_model.specs.Log.{Removal}
use Rattle.palm_explain.specs.declared.places.PlaceWord.{PlaceWord}
use Rattle.palm_explain.specs.declared.entry.Entry.{Entry}
use Rattle.palm_explain.specs.declared.noted.NotedSpan.{NotedSpan}
use Rattle.palm_explain.specs.declared.noted.NotedSpans.{NotedSpans}
use Rattle.palm_explain.specs.declared.rows.Row.{Row}
pub use Rattle.palm_explain.specs.Entries.{pairs_with}
use Rattle.palm_explain.specs.Entries.{log_of, written}
use Rattle.palm_explain.specs.Rows.{HasNumber, number_at}
use Rattle.palm_explain.specs.Places.{HasPlace}

-- a claim needs its own pairs, and with each pair of the log the reasons for which it was removed
pub data IsNeeded (log : List Removal) (pairs : List Pair) : Pair → Type 0 where
  is_claimed : (p : Pair) → Contains pairs p → IsNeeded log pairs p
  is_reason : (r : Removal) (p : Pair) → Contains log r → IsNeeded log pairs r.pair → Contains r.reasons p → IsNeeded log pairs p

-- a removal that the pairs need stands at the place
abbrev pub IsNeededAt : List Removal → List Pair → ℕ → Type 0
IsNeededAt log pairs place = (r : Removal) × (slice_get log place ≡ Some r) × IsNeeded log pairs r.pair

-- each is less than those before it
abbrev pub Falls : List ℕ → Type 0
Falls places = AllPairs (λ a b. b < a) places

-- each is more than those before it
abbrev pub Climbs : List ℕ → Type 0
Climbs places = AllPairs (λ a b. a < b) places

-- exactly the places of the removals that the pairs need, rising
pub record AreNeeded (log : List Removal) (pairs : List Pair) (places : List ℕ) : Type 0 where
  pub climbs : Climbs places
  pub each : (place : ℕ) → Contains places place ↔ IsNeededAt log pairs place

-- ---- the walk

-- the numbers of those of these pairs that are removed are noted besides what was, and nothing else
pub record HasNoted (rows : List Row) (old new : List PlaceWord) (pairs : List Pair) : Type 0 where
  pub stay : (k : ℕ) → HasPlace old k → HasPlace new k
  pub more : (p : Pair) (k : ℕ) → Contains pairs p → HasNumber rows p k → HasPlace new k
  pub only : (k : ℕ) → HasPlace new k → HasPlace old k ⊎ ((p : Pair) × Contains pairs p × HasNumber rows p k)

-- down to the end all is visited: the places of the removals whose numbers are noted from there on, falling, and of each of them the
-- reasons are noted
pub record IsWalked (entries : List Entry) (rows : List Row) (pairs : List Pair) (noted : List PlaceWord) (end : ℕ) (visited : List ℕ) : Type 0 where
  pub sound : (k : ℕ) → HasPlace noted k → (e : Entry) × Contains entries e × (e.number ≡ k) × IsNeeded (log_of rows entries) pairs e.pair
  pub begun : (e : Entry) → Contains entries e → Contains pairs e.pair → HasPlace noted e.number
  pub closed : (e f : Entry) → Contains entries e → Contains entries f → HasPlace noted e.number → end ≤ e.number → Contains (written rows e.number e.spans.items) f.pair → HasPlace noted f.number
  pub listed : (place : ℕ) → Contains visited place ↔ ((e : Entry) × (slice_get entries place ≡ Some e) × HasPlace noted e.number × (end ≤ e.number))
  pub falls : Falls visited

-- ---- spans of what is noted

-- the span has all values from the one to the other
abbrev pub HasAll : NotedSpan → ℤ → ℤ → Type 0
HasAll s low high = (s.low ≤ℤ low) × (high ≤ℤ s.high)

-- neither span has a value
abbrev pub AreBothEmpty : NotedSpans → Type 0
AreBothEmpty s = (s.first.high <ℤ s.first.low) × (s.second.high <ℤ s.second.low)

-- the other way round
abbrev pub turned : NotedSpans → NotedSpans
turned s = record { first = s.second; second = s.first }

-- none of them has a value
abbrev pub AreEmptySpans : List NotedSpans → Type 0
AreEmptySpans spans = (x : ℕ) (s : NotedSpans) → slice_get spans x ≡ Some s → AreBothEmpty s

-- the number of each value of the variable in the span that was removed before the number is noted
abbrev pub IsNotedSpan : List Row → ℕ → NotedSpan → ℕ → List PlaceWord → Type 0
IsNotedSpan rows x s n noted = (v : ℤ) (k : ℕ) → s.low ≤ℤ v → v ≤ℤ s.high → number_at rows (record { var = x; value = v }) ≡ Some k → k < n → HasPlace noted k

-- that holds of both spans
abbrev pub AreBothNoted : List Row → ℕ → NotedSpans → ℕ → List PlaceWord → Type 0
AreBothNoted rows x s n noted = IsNotedSpan rows x s.first n noted × IsNotedSpan rows x s.second n noted

-- that holds of each variable's spans
abbrev pub AreNotedSpans : List Row → List NotedSpans → ℕ → List PlaceWord → Type 0
AreNotedSpans rows spans n noted = (x : ℕ) (s : NotedSpans) → slice_get spans x ≡ Some s → AreBothNoted rows x s n noted
