use Rattle.std.proofs.Common.{◌≡◌, ◌≤◌, ◌-◌, ◌+◌, length}
use Rattle.palm_hub.proofs.Feeding.{IsTaken}
use Rattle.palm_hub.proofs.standing.Hub.feed.Given as goal

abbrev pub invariant-loop-end : goal.invariant-loop-end
invariant-loop-end g l = record {
  within : l.start ≤ length l.piece;
  calm : (g.K.Sink.state l.sink).faults ≡ (g.K.Sink.state l.initial.sink).faults;
  taken : IsTaken l.initial.self l.piece l.start (g.K.Sink.state l.initial.sink).written (g.K.Sink.state l.sink).written l.self;
}

abbrev pub decreases-loop-end : goal.decreases-loop-end
decreases-loop-end g l = length l.piece + 1 - l.start
