-- Lists of ids that are put together.
use Rattle.std.specs.Prelude.{◌⊎◌, List, Contains}
use Rattle.palm_base.specs.declared.terms.Cid.{Cid}
use Rattle.palm_base.specs.Order.{Rises}

-- by rising id, all of the one list and of the other
pub record IsMerged (cids more merged : List Cid) : Type 0 where
  pub rising : Rises merged
  pub sound : (c : Cid) → Contains merged c → Contains cids c ⊎ Contains more c
  pub first : (c : Cid) → Contains cids c → Contains merged c
  pub second : (c : Cid) → Contains more c → Contains merged c
