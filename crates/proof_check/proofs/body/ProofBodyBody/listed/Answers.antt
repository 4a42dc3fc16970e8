use Rattle.std.proofs.Common.{refl}
use Rattle.palm_book.specs.Book.{with_listed}
use Rattle.proof_check.proofs.Keeping.{keeps_constraint}
use Rattle.proof_check.proofs.body.ProofBodyBody.listed.Goals as goal

pub returns-clause-kept : goal.returns-clause-kept
returns-clause-kept c = λ book name con kept.
    let now = c.args.self.now in
    keeps_constraint book (with_listed book name con) now.lemmas now.begun now.assumed.items now.proved.items kept name con refl
