use Rattle.std.proofs.Common.{sym, subst}
use Rattle.palm_claim.specs.Judging.{IsVerdictFrom}
use Rattle.palm_claim.specs.Own.{family_of}
use Rattle.palm_claim.specs.Taking.{TakesLine}
use Rattle.palm_claim.proofs.cited.JudgedLines.{judged_over, judged_refused, judging_next, judging_start}
use Rattle.text_check.specs.Kept.{IsChecker, draft_of}
use Rattle.text_check.proofs.verdict.check_text.Goals as goal

pub loop-line-init : goal.loop-line-init
loop-line-init g c =
    judging_start (family_of g.B.Body.own) g.B.Body.blank c.args.bytes.now (IsChecker g.B.Body.keeps c.new-checker.result) (draft_of g.B.Body.draft c.new-checker.result) c.new-checker.ensures.blank c.new-checker.ensures.kept

pub returns-in-Some-2 : goal.returns-in-Some-2
returns-in-Some-2 g c =
    let family = family_of g.B.Body.own in
    let d = draft_of g.B.Body.draft c.loop-line.checker in
    let e = draft_of g.B.Body.draft c.take.new.self in
    subst (λ v. IsVerdictFrom family g.B.Body.blank c.args.bytes.now v) (sym c.refused.ensures)
    (judged_refused family g.B.Body.blank c.args.bytes.now (IsChecker g.B.Body.keeps c.loop-line.checker) d c.loop-line.number c.loop-line.from c.in-Some.line.now c.in-Some.next c.in-Some-2.cause c.loop-line.invariant c.in-Some.ensures.some
    (subst (λ o. TakesLine family d c.in-Some.line.now o e) c.in-Some-2.is c.in_ok-cause.ensures.takes))

pub loop-line-preserved : goal.loop-line-preserved
loop-line-preserved g c =
    let family = family_of g.B.Body.own in
    let d = draft_of g.B.Body.draft c.loop-line.checker in
    let e = draft_of g.B.Body.draft c.take.new.self in
    judging_next family g.B.Body.blank c.args.bytes.now (IsChecker g.B.Body.keeps c.loop-line.checker) (IsChecker g.B.Body.keeps c.take.new.self) d e c.loop-line.number c.loop-line.from c.in-Some.line.now c.in-Some.next c.loop-line.invariant c.in-Some.ensures.some
    (subst (λ o. TakesLine family d c.in-Some.line.now o e) c.in_default-2.is c.in_ok-cause.ensures.takes) c.in_ok-cause.ensures.kept

pub returns : goal.returns
returns g c =
    judged_over (family_of g.B.Body.own) g.B.Body.blank c.args.bytes.now (IsChecker g.B.Body.keeps c.loop-line.checker) (draft_of g.B.Body.draft c.loop-line.checker) c.loop-line.number c.loop-line.from c.ending.result c.loop-line.invariant c.in_default.ensures.none c.ending.ensures
