use Rattle.std.proofs.Common.{subst}
use Rattle.palm_claim.specs.Own.{family_of}
use Rattle.palm_claim.proofs.cited.JudgedLines.{takes_all}
use Rattle.text_check.specs.Kept.{draft_of}
use Rattle.text_check.specs.Reading.{SaysOrNot}
use Rattle.text_check.proofs.Reading.{said_sound}
use Rattle.text_check.proofs.checker.Checker.take.Goals as goal

pub hear-requires-clause-sound : goal.hear-requires-clause-sound
hear-requires-clause-sound g c =
    let phrases = g.B.Body.own.phrases in
    said_sound phrases g.met.B.Body.are_phrases c.args.line.now c.in-Some.reading.statement (subst (SaysOrNot phrases c.args.line.now) c.in-Some.is c.in_ok-reading.ensures.says)

pub returns-clause-takes : goal.returns-clause-takes
returns-clause-takes g c =
    let says = subst (SaysOrNot g.B.Body.own.phrases c.args.line.now) c.in-Some.is c.in_ok-reading.ensures.says in
    takes_all (family_of g.B.Body.own) (draft_of g.B.Body.draft c.args.self.now) (draft_of g.B.Body.draft c.hear.new.self) c.args.line.now c.in-Some.reading.statement c.hear.result says c.hear.ensures.takes
