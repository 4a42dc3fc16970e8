use Rattle.std.proofs.Common.{◌≡◌, ◌++◌, take}
use Rattle.palm_repair.proofs.nogood.push_users.Given as goal

abbrev pub invariant-loop-user : goal.invariant-loop-user
invariant-loop-user l = l.cids ≡ l.fn.cids ++ take l.user-index l.users
