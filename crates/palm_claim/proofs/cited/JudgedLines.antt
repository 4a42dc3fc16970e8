-- The verdict on a text, line by line, for any family of lines.
use Rattle.std.proofs.Common.{◌≡◌, ℕ, ◌+◌, ◌≤◌, Option, Some, None, Result, Ok, Err, IfOk, List, [], ◌∷◌, length, drop, inl, inr, refl, subst, arith}
use Rattle.palm_base.specs.declared.errors.NoMemory.{NoMemory}
use Rattle.palm_read.specs.Lines.{AreLines, IsNextLine}
use Rattle.palm_read.proofs.cited.Cutting.{has_lines, no_lines_left}
use Rattle.palm_claim.specs.Judging.{Family, IsRefusedFor, IsVerdictFrom, Judges, Passes}
use Rattle.palm_claim.specs.Taking.{TakesLine, TakesStatement}
use Rattle.palm_claim.specs.declared.verdict.Cause.{Cause}

-- what holds between lines holds, the lines before a place have led to this draft, and what is judged of the rest is judged
-- of the text
pub record Judging {D S V : Type 0} (family : Family D S V) (blank : D) (text : List ℕ) (Kept : Type 0) (d : D) (number from : ℕ) : Type 0 where
  pub kept : Kept
  pub within : from ≤ length text
  pub counted : number ≤ from + 1
  pub goes : (lines : List (List ℕ)) (verdict : V) → AreLines (drop from text) lines → Judges family d number lines verdict → IsVerdictFrom family blank text verdict

pub judging_start : {D S V : Type 0} (family : Family D S V) (blank : D) (text : List ℕ) (Kept : Type 0) (d : D) → d ≡ blank → Kept → Judging family blank text Kept d 1 0
judging_start {D = D} family blank text Kept d is kept = record {
  kept = kept;
  within = omega arith;
  counted = omega arith;
  goes = λ lines verdict a j. record { lines = lines; are_lines = a; judged = subst (λ (e : D). Judges family e 1 lines verdict) is j };
}

pub judging_next : {D S V : Type 0} (family : Family D S V) (blank : D) (text : List ℕ) (Kept StillKept : Type 0) (d e : D) (number from : ℕ) (line : List ℕ) (next : ℕ)
    → Judging family blank text Kept d number from → IsNextLine text from line next → Passes family d line e → StillKept → Judging family blank text StillKept e (number + 1) next
judging_next family blank text Kept StillKept d e number from line next judging is passes kept = record {
  kept = kept;
  within = is.within;
  counted = omega (arith, judging.counted, is.further);
  goes = λ lines verdict a j. judging.goes (line ∷ lines) verdict (is.before lines a) (inr (e, passes, j));
}

pub judged_refused : {D S V : Type 0} (family : Family D S V) (blank : D) (text : List ℕ) (Kept : Type 0) (d : D) (number from : ℕ) (line : List ℕ) (next : ℕ) (cause : Cause)
    → Judging family blank text Kept d number from → IsNextLine text from line next → IsRefusedFor family d line cause → IsVerdictFrom family blank text (family.refused number cause)
judged_refused family blank text Kept d number from line next cause judging is refused =
    let rest = has_lines (drop next text) in
    judging.goes (line ∷ rest.0) (family.refused number cause) (is.before rest.0 rest.1) (inl (cause, refused, refl))

pub judged_over : {D S V : Type 0} (family : Family D S V) (blank : D) (text : List ℕ) (Kept : Type 0) (d : D) (number from : ℕ) (verdict : V)
    → Judging family blank text Kept d number from → drop from text ≡ [] → verdict ≡ family.ending d number → IsVerdictFrom family blank text verdict
judged_over family blank text Kept d number from verdict judging none is = judging.goes [] verdict (no_lines_left text from none) is

-- what is heard of a line that says this
pub takes_heard : {D S V : Type 0} (family : Family D S V) (d e : D) (line : List ℕ) (s : S) (o : Option Cause) → family.Says line s → TakesStatement family d s o e → TakesLine family d line o e
takes_heard family d e line s None says h = record { statement = s; says = says; none = h.0; leads = h.1 }
takes_heard family d e line s (Some cause) says h = inr (s, says, h)

pub takes_all : {D S V : Type 0} (family : Family D S V) (d e : D) (line : List ℕ) (s : S) (r : Result (Option Cause) NoMemory)
    → family.Says line s → IfOk r (λ o. TakesStatement family d s o e) → IfOk r (λ o. TakesLine family d line o e)
takes_all family d e line s (Ok o) says h = takes_heard family d e line s o says h
takes_all family d e line s (Err n) says h = tt
