use Rattle.std.proofs.Common.{arith}
use Rattle.std.proofs.lemmas.Int.{ints}
use Rattle.palm_engine.proofs.Hits.{if_none}
use Rattle.palm_engine.proofs.apart.hit_after.Goals as goal

pub returns-in_err-from-clause-none : goal.returns-in_err-from-clause-none
returns-in_err-from-clause-none c = if_none c.from_residual.result (λ v has gt. let lt = c.in_err-from.ensures v has in absurd (omega (arith, ints, gt, lt)))
