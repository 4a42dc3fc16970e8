use Rattle.std.proofs.Common.{Bool, subst}
use Rattle.proof_check.specs.Kept.{AssumesOrNot, said}
use Rattle.proof_check.proofs.PairsNamed.{begins_more, begins_none, begins_not, begun}
use Rattle.proof_check.proofs.body.ProofBody.begin.Goals as goal

pub loop-pair-init : goal.loop-pair-init
loop-pair-init c =
    let book = c.args.listed.now.book in record {
      kept = record { lists = c.requires.kept.lists; kept = c.in_ok-clear.ensures.kept book c.requires.kept.kept };
      begins = begins_none (said book c.args.self.now) c.args.named.now (said book c.clear.new.self) (c.in_ok-clear.ensures.begun book);
    }

pub returns-then-not-branch-clause-takes : goal.returns-then-not-branch-clause-takes
returns-then-not-branch-clause-takes c =
    let d = said c.args.listed.now.book c.args.self.now in
    let now = said c.args.listed.now.book c.loop-pair.self in
    let e = said c.args.listed.now.book c.assume.new.self in
    let n = c.pair-item.result in
    begins_not d c.args.named.now c.loop-pair.pair-index now e c.loop-pair.invariant.begins c.requires.kept.lists.formed.different_variables n c.loop-pair-test.true c.pair-item.is c.requires.stands
    (subst (λ (b : Bool). AssumesOrNot now n.name n.value b e) c.if-not-branch.true c.in_ok-assume.ensures.assumes)

pub loop-pair-preserved : goal.loop-pair-preserved
loop-pair-preserved c =
    let d = said c.args.listed.now.book c.args.self.now in
    let now = said c.args.listed.now.book c.loop-pair.self in
    let e = said c.args.listed.now.book c.assume.new.self in
    let n = c.pair-item.result in
    record {
      kept = c.in_ok-assume.ensures.kept;
      begins = begins_more d c.args.named.now c.loop-pair.pair-index now e c.loop-pair.invariant.begins c.requires.kept.lists.formed.different_variables n c.loop-pair-test.true c.pair-item.is
          (subst (λ (b : Bool). AssumesOrNot now n.name n.value b e) c.if-not-branch.false c.in_ok-assume.ensures.assumes);
    }

pub returns-clause-takes : goal.returns-clause-takes
returns-clause-takes c = begun (said c.args.listed.now.book c.args.self.now) c.args.named.now c.loop-pair.pair-index (said c.args.listed.now.book c.loop-pair.self) c.loop-pair.invariant.begins c.loop-pair-test.false c.requires.stands
