use Rattle.std.proofs.Common.{take, flat_map, Ok}
use Rattle.palm_session.specs.Answers.{log_line}
use Rattle.palm_lang.specs.Writer.{Wrote}
use Rattle.palm_session.proofs.deliver.write_removals.Given as goal

abbrev pub invariant-loop-place : goal.invariant-loop-place
invariant-loop-place g l = Wrote {T = Unit {0}} g.K.Sink.state l.initial.writer l.writer (flat_map (log_line l.book) (take l.place l.log.log)) (Ok tt)
