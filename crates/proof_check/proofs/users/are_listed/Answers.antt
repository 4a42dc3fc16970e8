use Rattle.std.proofs.Common.{ℕ, List, All, take, take_all, sym, subst}
use Rattle.std.proofs.lemmas.List.Elements.{All-contains, All-push}
use Rattle.palm_book.specs.Book.{HasConstraint}
use Rattle.proof_check.proofs.Assuming.{take_next}
use Rattle.proof_check.proofs.users.are_listed.Goals as goal

pub returns-then-not-has_constraint : goal.returns-then-not-has_constraint
returns-then-not-has_constraint c = λ all.
    c.if-not-has_constraint.ensures (All-contains (HasConstraint c.args.book.now) c.args.names.now c.name-item.result all (c.loop-name.name-index, c.loop-name-test.true, sym c.name-item.is))

pub loop-name-preserved : goal.loop-name-preserved
loop-name-preserved c =
    let Listed : List ℕ → Type 0 = HasConstraint c.args.book.now in
    let name = c.name-item.result in
    let i = c.loop-name.name-index in
    subst (λ (ns : List (List ℕ)). All Listed ns) (take_next c.args.names.now i name c.loop-name-test.true c.name-item.is)
    (All-push Listed (take i c.args.names.now) name c.loop-name.invariant c.if-not-has_constraint.ensures)

pub returns : goal.returns
returns c = subst (λ (ns : List (List ℕ)). All (HasConstraint c.args.book.now) ns) (take_all c.loop-name.name-index c.args.names.now c.loop-name-test.false) c.loop-name.invariant
