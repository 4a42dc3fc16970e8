use Rattle.std.proofs.Common.{take, flat_map, Ok}
use Rattle.palm_lang.specs.Reply.{var_line}
use Rattle.palm_lang.specs.Writer.{Wrote}
use Rattle.palm_lang.proofs.writer.Writer.variables.Given as goal

abbrev pub invariant-loop-index : goal.invariant-loop-index
invariant-loop-index g l = Wrote {T = Unit {0}} g.K.Sink.state l.initial.self l.self (flat_map (λ e. var_line e.name e.values) (take l.index l.book.variables)) (Ok tt)
