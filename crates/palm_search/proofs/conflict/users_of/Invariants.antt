use Rattle.std.proofs.Common.{◌≡◌, filter, take}
use Rattle.palm_model.specs.State.{is_user}
use Rattle.palm_search.proofs.conflict.users_of.Given as goal

abbrev pub invariant-loop-cid : goal.invariant-loop-cid
invariant-loop-cid l = l.users ≡ filter is_user (take l.cid-index l.cids)
