use Rattle.std.proofs.Common.{refl}
use Rattle.palm_book.specs.Book.{with_variable}
use Rattle.proof_check.proofs.Keeping.{keeps_variable}
use Rattle.proof_check.proofs.body.ProofBodyBody.declared.Goals as goal

pub returns-clause-kept : goal.returns-clause-kept
returns-clause-kept c = λ book name values kept.
    let now = c.args.self.now in
    keeps_variable book (with_variable book name values) now.lemmas now.begun now.assumed.items now.proved.items kept name values c.push.new.self.items refl c.in_ok-push.ensures.items
