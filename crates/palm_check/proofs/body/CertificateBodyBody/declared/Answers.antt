use Rattle.palm_claim.proofs.cited.ProvedSteps.{still_declared}
use Rattle.palm_check.proofs.body.CertificateBodyBody.declared.Goals as goal

pub returns-clause-kept : goal.returns-clause-kept
returns-clause-kept c = λ book name values kept. still_declared book name values c.args.self.now.proved.items kept
