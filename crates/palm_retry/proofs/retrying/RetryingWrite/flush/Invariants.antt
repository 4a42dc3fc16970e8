use Rattle.std.specs.Io.KnownBytes.{Keeps}
use Rattle.palm_retry.proofs.retrying.RetryingWrite.flush.Given as goal

-- an interrupted flush changes nothing
abbrev pub invariant-loop : goal.invariant-loop
invariant-loop g l = Keeps (g.W.Write.contents l.initial.self.inner) (g.W.Write.contents l.self.inner)
