use Rattle.std.proofs.Common.{◌∙◌, ap, inr}
use Rattle.palm_book.specs.Book.{Contents}
use Rattle.proof_text.specs.Draft.{with_wipe}
use Rattle.proof_check.specs.Kept.{said}
use Rattle.proof_check.proofs.body.ProofBody.wipe.Goals as goal

pub check_wiped-requires-clause-proved : goal.check_wiped-requires-clause-proved
check_wiped-requires-clause-proved c = rw c.deref.ensures.value c.requires.kept.kept.declared

pub returns-in-Err-clause-takes : goal.returns-in-Err-clause-takes
returns-in-Err-clause-takes c =
    let checks = rw (c.deref.ensures.value, c.in-Err.is) at c.check_wiped.ensures.checks in inr (λ n. n c.requires.stands, checks)

pub returns-in-Err-clause-kept : goal.returns-in-Err-clause-kept
returns-in-Err-clause-kept c = record { lists = c.check_wiped.ensures.listed; kept = rw c.check_wiped.ensures.same c.requires.kept.kept }

pub returns-in_ok-add_lemma-in-Ok-clause-takes : goal.returns-in_ok-add_lemma-in-Ok-clause-takes
returns-in_ok-add_lemma-in-Ok-clause-takes c =
    let checks = rw (c.deref.ensures.value, c.in-Ok.is) at c.check_wiped.ensures.checks in
    ((λ n. n c.requires.stands, checks.2), c.in_ok-add_lemma-in-Ok.ensures.ok c.check_wiped.new.listed.book ∙ ap (λ (b : Contents). with_wipe (said b c.args.self.now)) c.check_wiped.ensures.same)
