use Rattle.std.proofs.lemmas.Result.{IfOk-weaker}
use Rattle.palm_claim.specs.Claim.{IsOverItsBook}
use Rattle.palm_claim.specs.Verdict.{IsVerdict}
use Rattle.palm_claim.proofs.cited.Explained.{verdict_over}
use Rattle.palm_check.proofs.body.check.Goals as goal

pub returns-clause-named : goal.returns-clause-named
returns-clause-named c = IfOk-weaker c.check_text.result (IsVerdict c.args.bytes.now) IsOverItsBook (λ verdict is. verdict_over c.args.bytes.now verdict is) c.check_text.ensures
