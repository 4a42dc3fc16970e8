use Rattle.std.proofs.lemmas.Result.{IfOk-weaker}
use Rattle.proof_text.specs.Users.{AreOfTheirBook}
use Rattle.proof_text.specs.Verdict.{IsVerdict}
use Rattle.proof_text.proofs.cited.Accepted.{accepted_of_their_book}
use Rattle.proof_check.proofs.body.check_proof.Goals as goal

pub returns-clause-named : goal.returns-clause-named
returns-clause-named c = IfOk-weaker c.check_text.result (IsVerdict c.args.bytes.now) AreOfTheirBook (λ verdict is. accepted_of_their_book c.args.bytes.now verdict is) c.check_text.ensures
