use Rattle.palm_base.proofs.cited.CidOrder.{cid_ranks, less_before}
use Rattle.palm_base.proofs.laws.ids_are_ordered.Goals as goal

pub returns : goal.returns
returns c = less_before _ cid_ranks
