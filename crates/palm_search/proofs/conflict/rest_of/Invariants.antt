use Rattle.std.proofs.Common.{◌≡◌, take}
use Rattle.palm_base.specs.declared.terms.Cid.TheVariants.{Decide}
use Rattle.palm_model.specs.State.{without_cid}
use Rattle.palm_search.proofs.conflict.rest_of.Given as goal

abbrev pub invariant-loop-cid : goal.invariant-loop-cid
invariant-loop-cid l = l.rest ≡ without_cid (Decide l.var) (take l.cid-index l.cids)
