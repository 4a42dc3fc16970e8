use Rattle.std.proofs.Common.{◌≡◌, take}
use Rattle.palm_cert.specs.Needs.{cites_of, removals_at}
use Rattle.palm_cert.proofs.needs.cited_by.Given as goal

abbrev pub invariant-loop-place : goal.invariant-loop-place
invariant-loop-place l = l.cited.items ≡ cites_of l.book (removals_at l.log.log (take l.place-index l.steps))
