use Rattle.proof_check.specs.Kept.{IsKept, said}
use Rattle.proof_check.proofs.PairsNamed.{Begins}
use Rattle.proof_check.proofs.body.ProofBody.begin.Given as goal

abbrev pub invariant-loop-pair : goal.invariant-loop-pair
invariant-loop-pair l = record {
  kept : IsKept l.listed l.self;
  begins : Begins (said l.listed.book l.fn.self) l.named l.pair-index (said l.listed.book l.self);
}
