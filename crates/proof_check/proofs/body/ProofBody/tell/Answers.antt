use Rattle.std.proofs.Common.{◌≡◌, Bool, List, map, ap, subst, arith}
use Rattle.palm_base.specs.declared.terms.Cid.{Cid}
use Rattle.palm_claim.proofs.cited.Causes.{first_misdeclared, first_not_reached, without_cause}
use Rattle.proof_text.specs.Draft.{at_stage, users_of}
use Rattle.proof_text.specs.Verdict.{Meets}
use Rattle.proof_text.specs.declared.statement.Stage.TheVariants.{Told}
use Rattle.palm_claim.specs.declared.statement.Statement.TheVariants.{Phrase}
use Rattle.proof_text.specs.declared.statement.ProofPhrase.TheVariants.{Users}
use Rattle.proof_check.specs.Kept.{said}
use Rattle.proof_check.specs.Marks.{marked_in}
use Rattle.proof_check.proofs.Picking.{marked_used}
use Rattle.proof_check.proofs.UsersTold.{none_unlisted, not_free, other_names, some_unlisted, these_names}
use Rattle.proof_check.proofs.body.ProofBody.tell.Goals as goal

pub returns-then-not-are_listed-clause-takes : goal.returns-then-not-are_listed-clause-takes
returns-then-not-are_listed-clause-takes c =
    let d = said c.args.listed.now.book c.args.self.now in
    let names = c.args.names.now in
    first_misdeclared (Meets d (Phrase (Users names))) (λ n. n c.requires.stands) (some_unlisted d.book names c.if-not-are_listed.ensures)

pub returns-then-len-gt0-clause-takes : goal.returns-then-len-gt0-clause-takes
returns-then-len-gt0-clause-takes c =
    let d = said c.args.listed.now.book c.args.self.now in
    let names = c.args.names.now in
    first_not_reached (Meets d (Phrase (Users names))) (λ n. n c.requires.stands) (none_unlisted d.book names c.if-not-are_listed.ensures) (λ h. h) (λ h. h) (λ h. h)
    (not_free d names (omega (arith, c.if-len-gt0.true, c.len.ensures)))

pub returns-then-not-are_names-clause-takes : goal.returns-then-not-are_names-clause-takes
returns-then-not-are_names-clause-takes c =
    let d = said c.args.listed.now.book c.args.self.now in
    let names = c.args.names.now in
    first_not_reached (Meets d (Phrase (Users names))) (λ n. n c.requires.stands) (none_unlisted d.book names c.if-not-are_listed.ensures) (λ h. h) (λ h. h) (λ h. h)
    (other_names d names c.in_ok-marks.marks.items (rw c.as_slice.ensures at c.in_ok-marks.ensures)
    (subst (λ (ms : List Bool). names ≡ map (λ e. e.name) (marked_in ms d.book.constraints) → ⊥) c.deref.ensures.value c.if-not-are_names.ensures))

pub returns-clause-takes : goal.returns-clause-takes
returns-clause-takes c =
    let d = said c.args.listed.now.book c.args.self.now in
    let names = c.args.names.now in
    let marks = c.in_ok-marks.marks.items in
    let used = marked_in marks d.book.constraints in
    let named = subst (λ (ms : List Bool). names ≡ map (λ e. e.name) (marked_in ms d.book.constraints)) c.deref.ensures.value c.if-not-are_names.ensures in
    let users = these_names d names marks (rw c.as_slice.ensures at c.in_ok-marks.ensures) (omega (arith, c.if-len-gt0.false, c.len.ensures)) named in
    let told = subst (λ (ms : List Bool). c.in_ok-marked_users.field-0 ≡ users_of (marked_in ms d.book.constraints)) c.deref-2.ensures.value c.in_ok-marked_users.ensures in (
      without_cause (Meets d (Phrase (Users names))) (λ n. n c.requires.stands) (none_unlisted d.book names c.if-not-are_listed.ensures) (λ h. h) (λ h. h) (λ h. h) (λ not. not users),
      (used, marked_used d.book d.lemmas d.begun marks (rw c.as_slice.ensures at c.in_ok-marks.ensures), ap (λ (us : List Cid). at_stage d (Told us)) told),
    )
