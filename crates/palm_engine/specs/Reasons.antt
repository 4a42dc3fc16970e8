-- How spans stand for reasons, and what a walk knows of them.
use Rattle.std.specs.Prelude.{◌≡◌, ℤ, ℕ, ◌≤ℤ◌, ◌+ℤ◌, ◌-ℤ◌, pos, ⊤, ◌++◌, Some, IfSome, List, take, drop, Contains}
use Rattle.palm_base.specs.Ascending.{Ascends}
use Rattle.palm_base.specs.declared.terms.Pair.{Pair}
use Rattle.palm_domain.specs.Rows.{Row, initial_of, present_of}
use Rattle.palm_explain.specs.Explanations.{AreSpanned}
use Rattle.palm_explain.specs.Moving.{FitsSpan, spans_at}
use Rattle.palm_explain.specs.declared.moving.End.{End}
use Rattle.palm_explain.specs.declared.moving.End.TheVariants.{At, Shifted}
use Rattle.palm_explain.specs.declared.moving.MovingSpan.{MovingSpan}
use Rattle.palm_explain.specs.declared.spans.Span.{Span}
use Rattle.palm_filter.specs.declared.rule.Interval.{Interval}
use Rattle.palm_filter.specs.declared.rule.Shift.{Shift}
use Rattle.palm_model.specs.Constraint.{scope}
use Rattle.palm_model.specs.Domains.{Domains, Has}
use Rattle.palm_model.specs.Reason.{AreFilled, WantsReason, reason}
use Rattle.palm_model.specs.Support.{LacksSupport}
use Rattle.palm_model.specs.declared.constraint.Con.{Con}
use Rattle.palm_engine.specs.declared.reasons.ReasonRoom.{ReasonRoom}
use Rattle.palm_engine.specs.declared.reasons.TheConstants.{MOST_NEAR}

-- the values at the places of the interval
abbrev pub values_in : List ℤ → Interval → List ℤ
values_in vs i = drop i.first (take i.end vs)

-- the values ascend, the pairs have each of them, and no other one of the variable that is between two of them
pub record IsRun (pairs : List Pair) (x : ℕ) (values : List ℤ) : Type 0 where
  pub ascends : Ascends values
  pub each : (v : ℤ) → Contains values v → Contains pairs (record { var = x; value = v })
  pub whole : (u v w : ℤ) → Contains values u → Contains values w → u ≤ℤ v → v ≤ℤ w → Contains pairs (record { var = x; value = v }) → Contains values v

-- where all of the reasons are removed, of values that were declared, the spans stand for them
abbrev pub IsToldBy : Domains → List Pair → List Span → Type 0
IsToldBy initial reasons spans = (pairs : List Pair) → ((p : Pair) → Contains pairs p → Has initial p.var p.value)
    → ((p : Pair) → Contains reasons p → Contains pairs p) → AreSpanned pairs spans reasons

-- besides what the spans stood for before at a value they stand for what is more at it
abbrev pub TellsMore : Domains → List MovingSpan → List MovingSpan → (ℤ → List Pair) → Type 0
TellsMore initial before after more = (v : ℤ) (reasons : List Pair) → IsToldBy initial reasons (spans_at before v) → IsToldBy initial (reasons ++ more v) (spans_at after v)

-- the number is not far
abbrev pub IsNearNumber : ℤ → Type 0
IsNearNumber n = ((pos 0 -ℤ MOST_NEAR) ≤ℤ n) × (n ≤ℤ MOST_NEAR)

-- nor is one more or one less than the shift
pub record IsNearShift (s : Shift) : Type 0 where
  pub before : IsNearNumber (s.by -ℤ pos 1)
  pub after : IsNearNumber (s.by +ℤ pos 1)

-- a shifted end is not shifted far
abbrev pub IsNear : End → Type 0
IsNear (At w) = ⊤
IsNear (Shifted by) = IsNearNumber by

abbrev pub AreNear : List MovingSpan → Type 0
AreNear spans = (s : MovingSpan) → Contains spans s → IsNear s.low × IsNear s.high

-- for the values of x from v up to the last one the spans stand, at each, for its reasons, where it lacks support now
pub record IsKnown (rows : List Row) (c : Con) (x : ℕ) (v last : ℤ) (spans : List MovingSpan) : Type 0 where
  pub told : (w : ℤ) → v ≤ℤ w → w ≤ℤ last → WantsReason (initial_of rows) (present_of rows) c x w → IsToldBy (initial_of rows) (reason (initial_of rows) (present_of rows) c x w) (spans_at spans w)
  pub fits : (w : ℤ) → v ≤ℤ w → w ≤ℤ last → (s : MovingSpan) → Contains spans s → FitsSpan s w

-- and so up to the value that the room knows, if there is one
abbrev pub Knows : List Row → Con → ℕ → ℤ → ReasonRoom → Type 0
Knows rows c x v room = IfSome room.known (λ last. IsKnown rows c x v last room.spans.items)

-- the value is not beyond the one that the room knows
abbrev pub Covers : ℤ → ReasonRoom → Type 0
Covers v room = (last : ℤ) × (room.known ≡ Some last) × (v ≤ℤ last)

-- the value is present, and the constraint takes it out, where no domain of its scope is empty
pub record Goes (rows : List Row) (c : Con) (p : Pair) : Type 0 where
  pub present : Has (present_of rows) p.var p.value
  pub unsupported : LacksSupport (present_of rows) c p.var p.value
  pub filled : AreFilled (present_of rows) (scope c)

-- the stated reason of it
abbrev pub reason_in : List Row → Con → Pair → List Pair
reason_in rows c p = reason (initial_of rows) (present_of rows) c p.var p.value

-- at the value the spans stand for it, and their ends are numbers of 32 bits
pub record TellsReason (rows : List Row) (c : Con) (p : Pair) (spans : List MovingSpan) : Type 0 where
  pub told : IsToldBy (initial_of rows) (reason_in rows c p) (spans_at spans p.value)
  pub fits : (s : MovingSpan) → Contains spans s → FitsSpan s p.value
