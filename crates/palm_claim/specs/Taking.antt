-- What a checker answers to a line, for any family of lines.
use Rattle.std.specs.Prelude.{ℕ, Option, Some, None, List}
use Rattle.palm_base.specs.First.{IsFirst, IsNone}
use Rattle.palm_claim.specs.Judging.{Family, IsRefusedFor, Passes, in_order}
use Rattle.palm_claim.specs.declared.verdict.Cause.{Cause}

-- what is answered to a statement: its first cause, or that it has none, and then the draft behind it
abbrev pub TakesStatement : {D S V : Type 0} → Family D S V → D → S → Option Cause → D → Type 0
TakesStatement family d s None e = IsNone (family.Meets d s) in_order × family.Leads d s e
TakesStatement family d s (Some cause) e = IsFirst (family.Meets d s) in_order cause

-- and to a line
abbrev pub TakesLine : {D S V : Type 0} → Family D S V → D → List ℕ → Option Cause → D → Type 0
TakesLine family d line None e = Passes family d line e
TakesLine family d line (Some cause) e = IsRefusedFor family d line cause
