use Rattle.std.proofs.Common.{take, flat_map, Ok}
use Rattle.palm_lang.specs.Writer.{Wrote}
use Rattle.palm_session.specs.Answers.{left_text}
use Rattle.palm_session.proofs.deliver.write_all_left.Given as goal

abbrev pub invariant-loop-entry : goal.invariant-loop-entry
invariant-loop-entry g l = Wrote {T = Unit {0}} g.K.Sink.state l.initial.writer l.writer (flat_map (left_text l.book) (take l.entry-index l.left)) (Ok tt)
