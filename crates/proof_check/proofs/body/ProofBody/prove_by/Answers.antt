use Rattle.std.proofs.Common.{◌+◌, ◌≤◌, length, ◌≡◌, ◌∙◌, Some, ap, arith, inr, refl, slice_get, sym}
use Rattle.std.proofs.lemmas.List.Elements.{All-contains}
use Rattle.std.proofs.lemmas.Option.{same_Some}
use Rattle.palm_base.proofs.cited.Members.{member_get}
use Rattle.palm_book.specs.declared.book.BookCon.{BookCon}
use Rattle.proof_check.specs.Kept.{noting_constraint}
use Rattle.proof_check.proofs.Keeping.{keeps_step, noted_constraint}
use Rattle.proof_check.proofs.body.ProofBody.prove_by.Goals as goal

pub check_step-requires-clause-proved : goal.check_step-requires-clause-proved
check_step-requires-clause-proved c = rw c.deref.ensures.value c.requires.kept.kept.declared

pub returns-in-Err-clause-takes : goal.returns-in-Err-clause-takes
returns-in-Err-clause-takes c = λ name value is.
    let checks = rw (c.deref.ensures.value, c.in-Err.is) at c.in_ok-cause.ensures.checks in inr (λ n. n c.requires.stands, checks name value is)

pub returns-in-Err-clause-kept : goal.returns-in-Err-clause-kept
returns-in-Err-clause-kept c = record { lists = c.in_ok-cause.ensures.listed; kept = rw c.in_ok-cause.ensures.same c.requires.kept.kept }

pub returns-in_ok-push-in-Ok-2-clause-takes : goal.returns-in_ok-push-in-Ok-2-clause-takes
returns-in_ok-push-in-Ok-2-clause-takes c = λ name value is.
    let cs = c.args.listed.now.book.constraints in
    let con = c.constraint.result.now in
    let checks = rw (c.deref.ensures.value, c.in-Ok.is) at c.in_ok-cause.ensures.checks in
    let at : slice_get cs c.in-Ok.place ≡ Some con = rw c.in_ok-cause.ensures.same at c.constraint.ensures.at in
    let named = ap (λ (o : BookCon). o.name) (sym (same_Some checks.owner con (sym checks.at ∙ at))) ∙ checks.named in
    let grown = rw c.from.ensures at c.in_ok-push-in-Ok.ensures.ok in (
      (λ n. n c.requires.stands, checks.none name value is),
      (
        c.args.pair,
        noting_constraint c.args.self.now.begun con.number,
        is,
        (con, member_get cs c.in-Ok.place con at, named, refl),
        rw (c.in_ok-push-in-Ok-2.ensures.items, grown, c.in_ok-cause.ensures.same) refl,
      ),
    )

pub returns-in_ok-push-in-Ok-2-clause-kept : goal.returns-in_ok-push-in-Ok-2-clause-kept
returns-in_ok-push-in-Ok-2-clause-kept c =
    let book = c.args.listed.now.book in
    let now = c.args.self.now in
    let cs = book.constraints in
    let con = c.constraint.result.now in
    let at : slice_get cs c.in-Ok.place ≡ Some con = rw c.in_ok-cause.ensures.same at c.constraint.ensures.at in
    let most : con.number ≤ length cs = All-contains (λ (d : BookCon). d.number ≤ length cs) cs con c.requires.kept.lists.numbers (member_get cs c.in-Ok.place con at) in
    let grown = rw c.from.ensures at c.in_ok-push-in-Ok.ensures.ok in
    record {
      lists = c.in_ok-cause.ensures.listed;
      kept = rw (c.in_ok-cause.ensures.same, grown)
          (keeps_step book now.lemmas now.begun now.assumed.items now.proved.items c.requires.kept.kept (noting_constraint now.begun con.number) c.args.pair c.push-in-Ok.new.self.items c.requires.declared
          c.in_ok-push-in-Ok-2.ensures.items c.requires.kept.kept.assumes (noted_constraint (length cs + 1) (length now.lemmas) now.begun con.number c.requires.kept.kept.last (omega (arith, most))));
    }
