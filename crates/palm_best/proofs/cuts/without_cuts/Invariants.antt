use Rattle.std.proofs.Common.{◌≡◌, filter, not, take}
use Rattle.palm_best.specs.Cuts.{is_cut}
use Rattle.palm_best.proofs.cuts.without_cuts.Given as goal

abbrev pub invariant-loop-cid : goal.invariant-loop-cid
invariant-loop-cid l = l.users ≡ filter (λ c. not (is_cut c)) (take l.cid-index l.cids)
