-- A walk over the values of a variable from place to place.
use Rattle.std.proofs.Common.{ℤ, ◌<ℤ◌, ℕ, List, Contains, Option, Some, None, IfSome, MatchOption, ◌≡◌}
use Rattle.palm_domain.specs.declared.placed.Placed.{Placed}
use Rattle.palm_domain.specs.Rows.{IsNextFrom, IsPlaced, Row, initial_of}
use Rattle.palm_domain.proofs.cited.StoreRows.{placed_stays}
use Rattle.palm_model.specs.Log.{Active}
use Rattle.palm_base.specs.declared.terms.Pair.{Pair}
use Rattle.palm_engine.specs.declared.filtering.Filtering.{Filtering}
use Rattle.palm_engine.specs.Advancing.{placed_value}
use Rattle.palm_engine.specs.Revising.{Walked}
use Rattle.palm_engine.proofs.Bounds.{IsNextAt}
use Rattle.palm_engine.proofs.Progress.{walked_initial}

-- the value of the next one is the next value
pub next_value : (next : Option Placed) (now : List ℤ) (low : ℤ) → MatchOption next ((w : ℤ) → Contains now w → w <ℤ low) (λ p. IsNextFrom now low p.value) → IsNextAt (placed_value next) now low
next_value (Some p) now low is_next = is_next
next_value None now low none = none

-- a value keeps its place in a walk
pub walked_placed : (active : List Active) (owner : Active) (ps : List Pair) (before after : Filtering) (x : ℕ) (p : Placed) → Walked active owner ps before after → IsPlaced before.store x p → IsPlaced after.store x p
walked_placed active owner ps before after x p walked placed = placed_stays before.store after.store x p (walked_initial active owner ps before after walked) placed

-- and where other values go too
pub placed_next : (before after : List Row) (x : ℕ) (next : Option Placed) → initial_of after ≡ initial_of before → IfSome next (IsPlaced before x) → IfSome next (IsPlaced after x)
placed_next before after x (Some p) same placed = placed_stays before after x p same placed
placed_next before after x None same none = tt
