use Rattle.std.proofs.Common.{take, Contains}
use Rattle.palm_base.specs.declared.terms.Cid.TheVariants.{Decide}
use Rattle.palm_search.proofs.conflict.holds.Given as goal

abbrev pub invariant-loop-cid : goal.invariant-loop-cid
invariant-loop-cid l = Contains (take l.cid-index l.cids) (Decide l.var) → ⊥
