use Rattle.std.proofs.Common.{◌≡◌, ◌-◌, vec_len}
use Rattle.palm_pump.specs.Pumping.{Pumped}
use Rattle.palm_pump.specs.Streams.{streams}
use Rattle.palm_pump.specs.declared.limits.TheConstants.{PIECE}
use Rattle.palm_pump.proofs.pumping.pump.Given as goal

abbrev pub invariant-loop-taken : goal.invariant-loop-taken
invariant-loop-taken g l = record {
  piece : vec_len l.buffer ≡ PIECE;
  pumped : Pumped (g.T.Taker.takes l.initial.taker) (streams (g.S.Source.state l.initial.source) (g.K.Sink.state l.initial.sink))
      (streams (g.S.Source.state l.source) (g.K.Sink.state l.sink)) l.taken l.taker;
}

abbrev pub decreases-loop-taken : goal.decreases-loop-taken
decreases-loop-taken g l = 16777217 - l.taken
