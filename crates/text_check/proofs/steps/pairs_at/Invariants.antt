use Rattle.std.proofs.Common.{◌≡◌, take}
use Rattle.palm_claim.specs.Step.{pairs_at}
use Rattle.text_check.proofs.steps.pairs_at.Given as goal

abbrev pub invariant-loop-number : goal.invariant-loop-number
invariant-loop-number l = l.pairs.items ≡ pairs_at l.proved (take l.number-index l.reasons)
