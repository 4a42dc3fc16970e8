use Rattle.std.proofs.Common.{inr, refl}
use Rattle.palm_check.proofs.body.CertificateBody.claim_conflict.Goals as goal

pub check_wiped-requires-clause-proved : goal.check_wiped-requires-clause-proved
check_wiped-requires-clause-proved c = rw c.deref.ensures.value c.requires.kept.kept

pub returns-in-Ok-clause-takes : goal.returns-in-Ok-clause-takes
returns-in-Ok-clause-takes c =
    let checks = rw (c.deref.ensures.value, c.in-Ok.is) at c.check_wiped.ensures.checks in
    ((λ n. n c.requires.stands, checks.2), (c.in-Ok.var, checks.0, rw c.check_wiped.ensures.same refl))

pub returns-in-Ok-clause-kept : goal.returns-in-Ok-clause-kept
returns-in-Ok-clause-kept c = record { lists = c.check_wiped.ensures.listed; kept = rw c.check_wiped.ensures.same c.requires.kept.kept }

pub returns-in-Err-clause-takes : goal.returns-in-Err-clause-takes
returns-in-Err-clause-takes c =
    let checks = rw (c.deref.ensures.value, c.in-Err.is) at c.check_wiped.ensures.checks in inr (λ n. n c.requires.stands, checks)

pub returns-in-Err-clause-kept : goal.returns-in-Err-clause-kept
returns-in-Err-clause-kept c = record { lists = c.check_wiped.ensures.listed; kept = rw c.check_wiped.ensures.same c.requires.kept.kept }
