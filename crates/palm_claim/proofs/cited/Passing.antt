-- Texts whose lines lead from one draft to another, and the verdict on such a text, for any family of lines.
use Rattle.std.proofs.Common.{◌≡◌, ℕ, ◌+◌, List, [], ◌∷◌, ◌++◌, flat_map, All, inr, refl, sym, ap, ◌∙◌, subst, append_assoc, append-nil}
use Rattle.std.proofs.lemmas.List.Elements.{All-nil, All-cons}
use Rattle.palm_read.specs.Bytes.{IsPlain}
use Rattle.palm_read.specs.Lines.{AreLines, ended}
use Rattle.palm_read.specs.Reading.{IsRead, a_comment, a_form}
use Rattle.palm_read.specs.declared.line.Line.{Line}
use Rattle.palm_read.specs.declared.line.Line.TheVariants.{Comment}
use Rattle.palm_read.specs.declared.mode.Mode.TheVariants.{Two}
use Rattle.palm_read.proofs.cited.Cutting.{IsOfPlain, ended_lines}
use Rattle.palm_claim.specs.Judging.{Family, IsVerdictFrom, Judges, Passes}
-- a statement that meets the condition of no cause
pub use Rattle.palm_claim.proofs.cited.Causes.{without_cause as no_cause}

-- a line of a session of version 2 that is no comment
pub plain_read : (bytes : List ℕ) (line : Line) → (line ≡ Comment → ⊥) → IsRead Two bytes line → IsPlain bytes
plain_read bytes _ other (a_comment c) = absurd (other refl)
plain_read bytes line other (a_form form p h a r n t e) = p

ended_then : (xs ys : List (List ℕ)) → flat_map ended (xs ++ ys) ≡ flat_map ended xs ++ flat_map ended ys
ended_then [] ys = refl
ended_then (x ∷ xs) ys = ap (λ (t : List ℕ). ended x ++ t) (ended_then xs ys) ∙ sym (append_assoc (ended x) (flat_map ended xs) (flat_map ended ys))

module _ {D S V : Type 0} (family : Family D S V) where
  -- the lines, all of plain bytes, lead from the one draft to the other
  abbrev pub Runs : D → List (List ℕ) → D → Type 0
  Runs d [] e = d ≡ e
  Runs d (line ∷ lines) e = (f : D) × Passes family d line f × IsOfPlain line × Runs f lines e

  -- so does a text of such lines
  pub record Reads (d : D) (text : List ℕ) (e : D) : Type 0 where
    pub lines : List (List ℕ)
    pub cut : flat_map ended lines ≡ text
    pub runs : Runs d lines e

  pub reads_none : (d e : D) → d ≡ e → Reads d [] e
  reads_none d e same = record { lines = []; cut = refl; runs = same }

  pub reads_line : (d e : D) (line text : List ℕ) → ended line ≡ text → IsOfPlain line → Passes family d line e → Reads d text e
  reads_line d e line text ends plain passes = record { lines = line ∷ []; cut = append-nil (ended line) ∙ ends; runs = (e, passes, plain, refl) }

  pub runs_then : (xs ys : List (List ℕ)) (d e f : D) → Runs d xs e → Runs e ys f → Runs d (xs ++ ys) f
  runs_then [] ys d e f r s = subst (λ (z : D). Runs z ys f) (sym r) s
  runs_then (x ∷ xs) ys d e f r s = (r.0, r.1, r.2, runs_then xs ys r.0 e f r.3 s)

  pub reads_then : (d e f : D) (first second : List ℕ) → Reads d first e → Reads e second f → Reads d (first ++ second) f
  reads_then d e f first second r s = record {
    lines = r.lines ++ s.lines;
    cut = ended_then r.lines s.lines ∙ ap (λ (t : List ℕ). t ++ flat_map ended s.lines) r.cut ∙ ap (λ (t : List ℕ). first ++ t) s.cut;
    runs = runs_then r.lines s.lines d e f r.runs s.runs;
  }

  -- ---- the verdict

  pub plain_lines : (lines : List (List ℕ)) (d e : D) → Runs d lines e → All IsOfPlain lines
  plain_lines [] d e runs = All-nil IsOfPlain
  plain_lines (line ∷ lines) d e runs = All-cons IsOfPlain line lines runs.2 (plain_lines lines runs.0 e runs.3)

  -- what a draft ends with, whatever the number of a next line, is judged of the lines that lead to it
  pub judged : (lines : List (List ℕ)) (d e : D) (n : ℕ) (verdict : V) → ((m : ℕ) → family.ending e m ≡ verdict) → Runs d lines e → Judges family d n lines verdict
  judged [] d e n verdict ends runs = sym (ap (λ (z : D). family.ending z n) runs ∙ ends n)
  judged (line ∷ lines) d e n verdict ends runs = inr (runs.0, runs.1, judged lines runs.0 e (n + 1) verdict ends runs.3)

  -- and of a text that leads to it
  pub reads_verdict : (blank : D) (text : List ℕ) (e : D) (verdict : V) → ((n : ℕ) → family.ending e n ≡ verdict) → Reads blank text e → IsVerdictFrom family blank text verdict
  reads_verdict blank text e verdict ends r = record {
    lines = r.lines;
    are_lines = subst (λ (t : List ℕ). AreLines t r.lines) r.cut (ended_lines r.lines (plain_lines r.lines blank e r.runs));
    judged = judged r.lines blank e 1 verdict ends r.runs;
  }
