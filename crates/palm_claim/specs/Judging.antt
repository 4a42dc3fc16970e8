-- The verdict on a text, for any family of lines: the first line that has a cause, with its first cause, or how the text ends.
use Rattle.std.specs.Prelude.{◌≡◌, ℕ, ◌+◌, ◌⊎◌, List, [], ◌∷◌}
use Rattle.palm_base.specs.First.{IsFirst, IsNone}
use Rattle.palm_read.specs.Lines.{AreLines}
use Rattle.palm_claim.specs.declared.verdict.Cause.{Cause}
use Rattle.palm_claim.specs.declared.verdict.Cause.TheVariants.{Malformed, Misdeclared, Beyond, Unproved, NotRight, NotReached}

-- a family of lines: what a line says, which causes this meets behind the lines so far, and what it leads to; and the
-- verdict where no line is left and a next one would have this number, or where the line with this number has a cause
pub record Family (Draft Statement Verdict : Type 0) : Type 1 where
  pub Says : List ℕ → Statement → Type 0
  pub Meets : Draft → Statement → Cause → Type 0
  pub Leads : Draft → Statement → Draft → Type 0
  pub ending : Draft → ℕ → Verdict
  pub refused : ℕ → Cause → Verdict

-- the order in which causes are looked for
abbrev pub in_order : List Cause
in_order = Malformed ∷ Misdeclared ∷ Beyond ∷ Unproved ∷ NotRight ∷ NotReached ∷ []

-- the line has a cause, and this is its first: it says nothing, or what it says meets it
abbrev pub IsRefusedFor : {D S V : Type 0} → Family D S V → D → List ℕ → Cause → Type 0
IsRefusedFor {S = S} family d line cause =
    (((statement : S) → family.Says line statement → ⊥) × (cause ≡ Malformed))
    ⊎ ((statement : S) × family.Says line statement × IsFirst (family.Meets d statement) in_order cause)

-- the line has no cause, and this is the draft behind it
pub record Passes {D S V : Type 0} (family : Family D S V) (d : D) (line : List ℕ) (e : D) : Type 0 where
  pub statement : S
  pub says : family.Says line statement
  pub none : IsNone (family.Meets d statement) in_order
  pub leads : family.Leads d statement e

-- the verdict on the lines that are left, the first of which has the number n
abbrev pub Judges : {D S V : Type 0} → Family D S V → D → ℕ → List (List ℕ) → V → Type 0
Judges family d n [] verdict = verdict ≡ family.ending d n
Judges {D = D} family d n (line ∷ lines) verdict =
    ((cause : Cause) × IsRefusedFor family d line cause × (verdict ≡ family.refused n cause))
    ⊎ ((e : D) × Passes family d line e × Judges family e (n + 1) lines verdict)

-- the verdict on a text, where this is said before its first line
pub record IsVerdictFrom {D S V : Type 0} (family : Family D S V) (blank : D) (bytes : List ℕ) (verdict : V) : Type 0 where
  pub lines : List (List ℕ)
  pub are_lines : AreLines bytes lines
  pub judged : Judges family blank 1 lines verdict
