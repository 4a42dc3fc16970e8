use Rattle.std.proofs.Common.{◌≡◌, ◌-◌, length}
use Rattle.palm_hub.specs.Prefixed.{Extends}
use Rattle.palm_hub.proofs.prefix.show.Given as goal

abbrev pub invariant-loop-shown : goal.invariant-loop-shown
invariant-loop-shown g l =
    let first = g.K.Sink.state l.initial.inner in
    let here = g.K.Sink.state l.inner in
    record {
      calm : here.faults ≡ first.faults;
      same : here.home ≡ first.home;
      whole : here.torn ≡ first.torn;
      bytes : Extends first.written here.written l.prefix l.before l.shown;
    }

abbrev pub decreases-loop-shown : goal.decreases-loop-shown
decreases-loop-shown g l = length l.prefix - l.shown
