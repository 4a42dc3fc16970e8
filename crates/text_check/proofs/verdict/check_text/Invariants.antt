use Rattle.std.proofs.Common.{◌-◌, length}
use Rattle.palm_claim.specs.Own.{family_of}
use Rattle.palm_claim.proofs.cited.JudgedLines.{Judging}
use Rattle.text_check.specs.Kept.{IsChecker, draft_of}
use Rattle.text_check.proofs.verdict.check_text.Given as goal

abbrev pub invariant-loop-line : goal.invariant-loop-line
invariant-loop-line g l = Judging (family_of g.B.Body.own) g.B.Body.blank l.bytes (IsChecker g.B.Body.keeps l.checker) (draft_of g.B.Body.draft l.checker) l.number l.from

abbrev pub decreases-loop-line : goal.decreases-loop-line
decreases-loop-line g l = length l.bytes - l.from
