use Rattle.std.proofs.Common.{take, flat_map, Ok}
use Rattle.palm_lang.specs.Reply.{entry_line}
use Rattle.palm_lang.specs.Writer.{Wrote}
use Rattle.palm_session.proofs.deliver.write_constraints.Given as goal

abbrev pub invariant-loop-place : goal.invariant-loop-place
invariant-loop-place g l = Wrote {T = Unit {0}} g.K.Sink.state l.initial.writer l.writer (flat_map (entry_line l.book.variables) (take l.place l.book.constraints)) (Ok tt)
