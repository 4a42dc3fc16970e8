use Rattle.std.proofs.Common.{arith}
use Rattle.palm_hub.proofs.Prefixing.{line_passed, torn_rose}
use Rattle.palm_hub.proofs.prefix.PrefixSinkSink.write.Goals as goal

pub invariant_of-self : goal.invariant_of-self
invariant_of-self g c =
    let sink = c.args.self.now in
    let write = c.write_line-shown in
    let was = g.K.Sink.state sink.inner.now in
    let now = g.K.Sink.state write.new.inner in
    let passed = line_passed g.B.Start.written was.written now.written g.B.Start.prefix sink.prefix.now c.args.piece.now
    c.first_line-line.result.now sink.torn c.is_err.result sink.shown write.result.0 write.result.1 sink.same c.is_err.ensures.value
    (record { few = sink.few; built = sink.built; proper = sink.proper }) c.first_line-line.ensures write.ensures.bytes in
    record {
      same = sink.same;
      few = passed.right.few;
      built = passed.right.built;
      proper = passed.right.proper;
      later = omega (arith, sink.later, write.ensures.cause.later);
      cause = torn_rose g.B.Start.faults was.faults now.faults sink.torn c.is_err.result write.result.1 c.is_err.ensures.value sink.later
          write.ensures.cause sink.cause;
    }

pub returns-clause-bytes : goal.returns-clause-bytes
returns-clause-bytes g c =
    let sink = c.args.self.now in
    let write = c.write_line-shown in
    let was = g.K.Sink.state sink.inner.now in
    let now = g.K.Sink.state write.new.inner in
    (line_passed g.B.Start.written was.written now.written g.B.Start.prefix sink.prefix.now c.args.piece.now
    c.first_line-line.result.now sink.torn c.is_err.result sink.shown write.result.0 write.result.1 sink.same c.is_err.ensures.value
    (record { few = sink.few; built = sink.built; proper = sink.proper }) c.first_line-line.ensures write.ensures.bytes).writes
