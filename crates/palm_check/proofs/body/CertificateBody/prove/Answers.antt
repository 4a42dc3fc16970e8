use Rattle.std.proofs.Common.{inr, refl}
use Rattle.palm_check.proofs.Keeping.{keeps_step}
use Rattle.palm_check.proofs.body.CertificateBody.prove.Goals as goal

pub check_step-requires-clause-proved : goal.check_step-requires-clause-proved
check_step-requires-clause-proved c = rw c.deref.ensures.value c.requires.kept.kept

pub returns-in-Err-clause-takes : goal.returns-in-Err-clause-takes
returns-in-Err-clause-takes c =
    let checks = rw (c.deref.ensures.value, c.in-Err.is) at c.in_ok-cause.ensures.checks in
    inr (λ n. n c.requires.stands, checks c.args.name.now c.args.value c.in-Some.ensures.pair)

pub returns-in-Err-clause-kept : goal.returns-in-Err-clause-kept
returns-in-Err-clause-kept c = record { lists = c.in_ok-cause.ensures.listed; kept = rw c.in_ok-cause.ensures.same c.requires.kept.kept }

pub returns-in_ok-push-in-Ok-clause-takes : goal.returns-in_ok-push-in-Ok-clause-takes
returns-in_ok-push-in-Ok-clause-takes c =
    let checks = rw (c.deref.ensures.value, c.in-Ok.is) at c.in_ok-cause.ensures.checks in
    let is = c.in-Some.ensures.pair in
    ((λ n. n c.requires.stands, checks.none c.args.name.now c.args.value is), (c.in-Some.pair, is, rw (c.in_ok-push-in-Ok.ensures.items, c.in_ok-cause.ensures.same) refl))

pub returns-in_ok-push-in-Ok-clause-kept : goal.returns-in_ok-push-in-Ok-clause-kept
returns-in_ok-push-in-Ok-clause-kept c = record {
  lists = c.in_ok-cause.ensures.listed;
  kept = keeps_step c.args.listed.now.book c.check_step.new.listed.book c.args.self.now.proved.items c.push.new.self.items c.in-Some.pair c.in_ok-cause.ensures.same c.requires.kept.kept c.in-Some.ensures.declared c.in_ok-push-in-Ok.ensures.items;
}
